use Rattle.write_phase.proofs.AllowedLaws.{Going}
use Rattle.write_phase.proofs.first_not_allowed.Given as goal

abbrev pub invariant-loop-i : goal.invariant-loop-i
invariant-loop-i l = Going l.categories l.phases l.i
