-- `flip_body::flip_part` meets its contract.
-- Assumes nothing.
use borrow.Author.Rules.{rules}
use Rattle.flip_body.proofs.Ways.{body_laws}
use Rattle.flip_body.proofs.flip_part.Goals as goal

pub returns-then-next_lent : goal.returns-then-next_lent
returns-then-next_lent c = search (body_laws, rules)

pub returns-else-next_lent : goal.returns-else-next_lent
returns-else-next_lent c = search (body_laws, rules)
