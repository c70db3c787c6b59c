use Rattle.read_file.proofs.WalkLaws.{Checking}
use Rattle.read_file.proofs.check_records.Given as goal

abbrev pub invariant-loop-v : goal.invariant-loop-v
invariant-loop-v l = Checking l.index l.held l.f l.initial.row l.row l.start l.v l.record_type
