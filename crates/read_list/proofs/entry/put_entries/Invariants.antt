use Rattle.read_list.specs.Walked.{Putting}
use Rattle.read_list.proofs.entry.put_entries.Given as goal

abbrev pub invariant-loop-more : goal.invariant-loop-more
invariant-loop-more l = Putting l.s l.n l.values l.held l.count l.initial.st l.initial.row l.row l.st l.more

abbrev pub decreases-loop-more : goal.decreases-loop-more
decreases-loop-more l = l.more
