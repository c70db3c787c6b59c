use Rattle.flip_phase.proofs.FileLaws.{Scanned}
use Rattle.flip_phase.proofs.any_phased.Given as goal

abbrev pub invariant-loop-v : goal.invariant-loop-v
invariant-loop-v l = Scanned l.file l.f l.v
