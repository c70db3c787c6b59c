use Rattle.read_phase.proofs.SpreadingLaws.{Spreading}
use Rattle.read_phase.proofs.spread_samples.Given as goal

abbrev pub invariant-loop-i : goal.invariant-loop-i
invariant-loop-i l = Spreading l.from l.to l.row l.initial.output l.output l.i l.k
