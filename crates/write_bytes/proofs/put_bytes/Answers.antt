-- `write_bytes::put_bytes` meets its contract: each turn of the loop writes the byte of the next samples.
-- Assumes nothing.
use borrow.Author.Rules.{rules}
use Rattle.write_bytes.proofs.ArrayLaws.{bytes_laws}
use Rattle.write_bytes.proofs.put_bytes.Goals as goal

pub bounds-output-at : goal.bounds-output-at
bounds-output-at c = search (bytes_laws, rules)

pub loop-k-preserved : goal.loop-k-preserved
loop-k-preserved c = search (bytes_laws, rules)

pub returns : goal.returns
returns c = search (bytes_laws, rules)
