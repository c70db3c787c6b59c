use Rattle.read_phase.proofs.SpreadingLaws.{Spreading}
use Rattle.read_phase.proofs.spread_calls.Given as goal

abbrev pub invariant-loop-i : goal.invariant-loop-i
invariant-loop-i l = Spreading 0 l.n l.row l.initial.output l.output l.i l.k

abbrev pub decreases-loop-i : goal.decreases-loop-i
decreases-loop-i l = l.i
