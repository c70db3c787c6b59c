use Rattle.write_phase.proofs.PartLaws.{Going}
use Rattle.write_phase.proofs.put_part.Given as goal

abbrev pub invariant-loop-i : goal.invariant-loop-i
invariant-loop-i l = Going l.part l.categories l.phases l.initial.output l.at l.output l.packing l.i
