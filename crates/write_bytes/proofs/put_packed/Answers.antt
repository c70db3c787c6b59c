-- `write_bytes::put_packed` meets its contract: the number goes into the byte at hand, which is stored once it is full.
-- Assumes nothing.
use borrow.Author.Rules.{rules}
use Rattle.write_bytes.proofs.InTurnLaws.{number_laws}
use Rattle.write_bytes.proofs.put_packed.Goals as goal

pub returns-then-scale-lt256 : goal.returns-then-scale-lt256
returns-then-scale-lt256 c = search (number_laws, rules)

pub overflow_cast-output : goal.overflow_cast-output
overflow_cast-output c = search (number_laws, rules)

pub returns : goal.returns
returns c = search (number_laws, rules)
