use Rattle.write_list.proofs.CountLaws.{Going}
use Rattle.write_list.proofs.measure.Given as goal

abbrev pub invariant-loop-i : goal.invariant-loop-i
invariant-loop-i l = Going l.base l.anchor l.categories l.counted l.i
