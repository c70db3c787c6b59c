-- `read_check::check_next` meets its contract.
-- Assumes nothing.
use borrow.Author.Rules.{rules}
use Rattle.read_check.proofs.NextLaws.{next_laws}
use Rattle.read_check.proofs.check_next.Goals as goal

pub returns-then-row_made : goal.returns-then-row_made
returns-then-row_made c = search (next_laws, rules)

pub returns : goal.returns
returns c = search (next_laws, rules)
