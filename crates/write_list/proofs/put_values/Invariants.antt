use Rattle.write_list.proofs.ValueLaws.{Going}
use Rattle.write_list.proofs.put_values.Given as goal

abbrev pub invariant-loop-i : goal.invariant-loop-i
invariant-loop-i l = Going l.base l.anchor l.categories l.initial.output l.at l.output l.packing l.i
