-- `write_bytes::put_number` meets its contract: each turn of the loop writes the lowest byte of what is left.
-- Assumes nothing.
use borrow.Author.Rules.{rules}
use Rattle.write_bytes.proofs.NumberLaws.{number_laws}
use Rattle.write_bytes.proofs.put_number.Goals as goal

pub loop-place-preserved : goal.loop-place-preserved
loop-place-preserved c = search (number_laws, rules)

pub returns : goal.returns
returns c = search (number_laws, rules)
