-- `head_columns::type_place` meets its contract.
-- Assumes nothing.
use borrow.Author.Rules.{rules}
use Rattle.head_columns.proofs.Arrangement.{place_laws}
use Rattle.head_columns.proofs.type_place.Goals as goal

pub returns-then-b : goal.returns-then-b
returns-then-b c = search (place_laws, rules)

pub returns-else-b : goal.returns-else-b
returns-else-b c = search (place_laws, rules)
