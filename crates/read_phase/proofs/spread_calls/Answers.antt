-- `read_phase::spread_calls` meets its contract.
-- Assumes nothing.
use borrow.Author.Rules.{rules}
use Rattle.read_phase.proofs.SpreadingLaws.{all_parts_laws}
use Rattle.read_phase.proofs.spread_calls.Goals as goal

pub loop-i-init : goal.loop-i-init
loop-i-init c = search (all_parts_laws, rules)

pub loop-i-preserved : goal.loop-i-preserved
loop-i-preserved c = search (all_parts_laws, rules)
