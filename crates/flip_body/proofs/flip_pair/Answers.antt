-- `flip_body::flip_pair` meets its contract.
-- Assumes nothing.
use borrow.Author.Rules.{rules}
use Rattle.flip_body.proofs.Ways.{pair_laws}
use Rattle.flip_body.proofs.flip_pair.Goals as goal

pub returns-then-s-q : goal.returns-then-s-q
returns-then-s-q c = search (pair_laws, rules)

pub returns-in_default : goal.returns-in_default
returns-in_default c = search (pair_laws, rules)

pub returns : goal.returns
returns c = search (pair_laws, rules)
