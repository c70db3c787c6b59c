use Prim.Native.Nat.{◌-◌}
use Rattle.read_list.proofs.ShortWalks.{ShortWalk}
use Rattle.read_list.proofs.entry.put_short_steps.Given as goal

abbrev pub invariant-loop-done : goal.invariant-loop-done
invariant-loop-done l = ShortWalk l.s l.n l.values l.held l.count l.first l.least l.initial.row l.row l.here l.last l.done

abbrev pub decreases-loop-done : goal.decreases-loop-done
decreases-loop-done l = l.least - l.done
