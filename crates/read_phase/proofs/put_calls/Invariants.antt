use Prim.Native.Nat.{◌-◌}
use Rattle.read_phase.proofs.PutLaws.{Putting}
use Rattle.read_phase.proofs.put_calls.Given as goal

abbrev pub invariant-loop-p : goal.invariant-loop-p
invariant-loop-p l = Putting l.s l.parts l.h l.initial.output l.output l.k l.p

abbrev pub decreases-loop-p : goal.decreases-loop-p
decreases-loop-p l = l.h - l.k
