use Rattle.read_phase.proofs.OnesLaws.{CountingOnes}
use Rattle.read_phase.proofs.ones_in.Given as goal

abbrev pub invariant-loop-b : goal.invariant-loop-b
invariant-loop-b l = CountingOnes l.part l.count l.b-index
