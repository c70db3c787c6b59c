-- `head_types::nearest_before` meets its contract: the loop's invariant is `Backing`.
-- Assumes nothing.
use borrow.Author.Rules.{rules}
use Rattle.head_types.proofs.Back.{back_laws}
use Rattle.head_types.proofs.nearest_before.Goals as goal

pub returns-then-not-type_leans : goal.returns-then-not-type_leans
returns-then-not-type_leans c = search (back_laws, rules)

pub loop-k-preserved : goal.loop-k-preserved
loop-k-preserved c = search (back_laws, rules)

pub returns : goal.returns
returns c = search (back_laws, rules)
