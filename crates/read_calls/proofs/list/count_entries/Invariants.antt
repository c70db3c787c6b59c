use Rattle.read_calls.specs.Tallied.{Counting}
use Rattle.read_calls.proofs.list.count_entries.Given as goal

abbrev pub invariant-loop-t : goal.invariant-loop-t
invariant-loop-t l = Counting l.s l.n l.values l.base l.initial.t.more l.initial.t.st l.row l.t

abbrev pub decreases-loop-t : goal.decreases-loop-t
decreases-loop-t l = l.t.more
