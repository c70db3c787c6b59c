use Rattle.read_list.specs.Walked.{Checking}
use Rattle.read_list.proofs.check.check_entries.Given as goal

abbrev pub invariant-loop-more : goal.invariant-loop-more
invariant-loop-more l = Checking l.s l.n l.values l.held l.count l.initial.st l.row l.st l.more

abbrev pub decreases-loop-more : goal.decreases-loop-more
decreases-loop-more l = l.more
