-- `head_places::place_of` meets its contract.
-- Assumes nothing.
use borrow.Author.Rules.{rules}
use Rattle.head_places.proofs.AcceptedLaws.{place_laws}
use Rattle.head_places.proofs.place_of.Goals as goal

pub overflow_add-result : goal.overflow_add-result
overflow_add-result c = search (place_laws, rules)

pub returns : goal.returns
returns c = search (place_laws, rules)
