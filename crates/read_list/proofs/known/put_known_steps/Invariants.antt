use Prim.Native.Nat.{◌-◌}
use Rattle.read_list.proofs.KnownWalks.{Walks}
use Rattle.read_list.proofs.known.put_known_steps.Given as goal

abbrev pub invariant-loop-done : goal.invariant-loop-done
invariant-loop-done l = Walks l.s l.n l.values l.count l.first l.least l.initial.row l.row l.here l.last l.done

abbrev pub decreases-loop-done : goal.decreases-loop-done
decreases-loop-done l = l.least - l.done
