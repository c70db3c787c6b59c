use Rattle.call_write.proofs.CheckLaws.{Going}
use Rattle.call_write.proofs.first_above_3.Given as goal

abbrev pub invariant-loop-i : goal.invariant-loop-i
invariant-loop-i l = Going l.categories l.i
