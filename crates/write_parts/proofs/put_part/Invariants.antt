use Rattle.write_parts.proofs.PartLaws.{Going}
use Rattle.write_parts.proofs.put_part.Given as goal

abbrev pub invariant-loop-i : goal.invariant-loop-i
invariant-loop-i l = Going l.part l.width l.base l.anchor l.categories l.initial.output l.at l.output l.group l.place l.i
