-- `flip_bytes::exchange_values` meets its contract: the loop's invariant is `Changing`.
-- Assumes nothing.
use borrow.Author.Rules.{rules}
use Rattle.flip_bytes.proofs.Turns.{values_laws}
use Rattle.flip_bytes.proofs.exchange_values.Goals as goal

pub loop-i-preserved : goal.loop-i-preserved
loop-i-preserved c = search (values_laws, rules)

pub returns-then-n-ne0 : goal.returns-then-n-ne0
returns-then-n-ne0 c = search (values_laws, rules)

pub returns-else-n-ne0 : goal.returns-else-n-ne0
returns-else-n-ne0 c = search (values_laws, rules)
