-- `read_packed::unused_bits` meets its contract.
-- Assumes nothing.
use borrow.Author.Rules.{rules}
use Rattle.read_packed.proofs.WidthLaws.{width_laws}
use Rattle.read_packed.proofs.unused_bits.Goals as goal

pub returns-then-n-eq0 : goal.returns-then-n-eq0
returns-then-n-eq0 c = search (width_laws, rules)

pub returns-then-n-eq0-2 : goal.returns-then-n-eq0-2
returns-then-n-eq0-2 c = search (width_laws, rules)

pub returns-else-n-eq0 : goal.returns-else-n-eq0
returns-else-n-eq0 c = search (width_laws, rules)

pub returns-else-n-eq0-2 : goal.returns-else-n-eq0-2
returns-else-n-eq0-2 c = search (width_laws, rules)
