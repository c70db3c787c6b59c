-- `flip_body::flip_list` meets its contract.
-- Assumes nothing.
use borrow.Author.Rules.{rules}
use Rattle.flip_body.proofs.Ways.{list_laws}
use Rattle.flip_body.proofs.flip_list.Goals as goal

pub past-requires : goal.past-requires
past-requires c = search (list_laws, rules)

pub returns-in_default : goal.returns-in_default
returns-in_default c = search (list_laws, rules)

pub returns-then-count-n : goal.returns-then-count-n
returns-then-count-n c = search (list_laws, rules)

pub returns-else-count-n : goal.returns-else-count-n
returns-else-count-n c = search (list_laws, rules)
