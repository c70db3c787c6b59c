-- `read_check::row_made` meets its contract.
-- Assumes nothing.
use borrow.Author.Rules.{rules}
use Rattle.read_check.proofs.NextLaws.{made_laws}
use Rattle.read_check.proofs.row_made.Goals as goal

pub returns-then-not-type_leans : goal.returns-then-not-type_leans
returns-then-not-type_leans c = search (made_laws, rules)

pub returns-else-not-type_leans : goal.returns-else-not-type_leans
returns-else-not-type_leans c = search (made_laws, rules)
