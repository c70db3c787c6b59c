use Rattle.write_phase.proofs.AllowedLaws.{Gathering}
use Rattle.write_phase.proofs.largest_excess.Given as goal

abbrev pub invariant-loop-i : goal.invariant-loop-i
invariant-loop-i l = Gathering l.categories l.phases l.most l.i
