-- `head_types::amiss_in` meets its contract.
-- Assumes nothing.
use borrow.Author.Rules.{rules}
use Rattle.head_types.proofs.Flat.{flat_laws}
use Rattle.head_types.proofs.amiss_in.Goals as goal

pub returns-then-half : goal.returns-then-half
returns-then-half c = search (flat_laws, rules)
