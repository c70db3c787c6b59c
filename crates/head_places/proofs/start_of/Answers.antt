-- `head_places::start_of` meets its contract.
-- Assumes nothing.
use borrow.Author.Rules.{rules}
use Rattle.head_places.proofs.AcceptedLaws.{start_laws}
use Rattle.head_places.proofs.start_of.Goals as goal

pub returns-then-is_unblocked : goal.returns-then-is_unblocked
returns-then-is_unblocked c = search (start_laws, rules)
