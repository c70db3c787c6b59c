-- `base_cursor::Cursor::number` meets its contract.
-- Assumes nothing.
use borrow.Author.Rules.{rules}
use Rattle.base_cursor.proofs.NumberLaws.{number_laws}
use Rattle.base_cursor.proofs.Cursor.number.Goals as goal

pub returns-then-width-eq1 : goal.returns-then-width-eq1
returns-then-width-eq1 c = search (number_laws, rules)

pub returns : goal.returns
returns c = search (number_laws, rules)
