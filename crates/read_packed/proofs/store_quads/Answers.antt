-- `read_packed::store_quads` meets its contract.
-- Assumes nothing.
use borrow.Author.Rules.{rules}
use Rattle.read_packed.proofs.PutLaws.{quad_step, stored_laws}
use Rattle.read_packed.proofs.store_quads.Goals as goal

pub loop-i-preserved : goal.loop-i-preserved
loop-i-preserved c = search (quad_step, c.loop-i.invariant, rules)

pub returns : goal.returns
returns c = search (stored_laws, rules)
