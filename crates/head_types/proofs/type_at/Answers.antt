-- `head_types::type_at` meets its contract.
-- Assumes nothing.
use borrow.Author.Rules.{rules}
use Rattle.head_types.proofs.Types.{type_laws}
use Rattle.head_types.proofs.type_at.Goals as goal

pub returns-then-n-eq0 : goal.returns-then-n-eq0
returns-then-n-eq0 c = search (type_laws, rules)

pub returns-then-not-half : goal.returns-then-not-half
returns-then-not-half c = search (type_laws, rules)

pub returns-else-n-eq0 : goal.returns-else-n-eq0
returns-else-n-eq0 c = search (type_laws, rules)
