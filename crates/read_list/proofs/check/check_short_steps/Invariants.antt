use Prim.Native.Nat.{◌-◌}
use Rattle.read_list.proofs.ShortWalks.{CheckWalk}
use Rattle.read_list.proofs.check.check_short_steps.Given as goal

abbrev pub invariant-loop-passed : goal.invariant-loop-passed
invariant-loop-passed l = CheckWalk l.s l.n l.values l.held l.count l.first l.end l.row l.here l.last l.passed

abbrev pub decreases-loop-passed : goal.decreases-loop-passed
decreases-loop-passed l = l.end - l.passed
