-- `read_phase::spread_samples` meets its contract.
-- Assumes nothing.
use borrow.Author.Rules.{rules}
use Rattle.read_phase.proofs.SpreadingLaws.{sample_laws}
use Rattle.read_phase.proofs.spread_samples.Goals as goal

pub loop-i-init : goal.loop-i-init
loop-i-init c = search (sample_laws, rules)

pub overflow_sub-k : goal.overflow_sub-k
overflow_sub-k c = search (sample_laws, rules)

pub bounds-output-k : goal.bounds-output-k
bounds-output-k c = search (sample_laws, rules)

pub overflow_mul-output : goal.overflow_mul-output
overflow_mul-output c = search (sample_laws, rules)

pub loop-i-preserved : goal.loop-i-preserved
loop-i-preserved c = rw c.from-k.ensures (search (sample_laws, rules))
