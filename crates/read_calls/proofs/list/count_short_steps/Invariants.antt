use Rattle.read_calls.specs.Tallied.{Stepping}
use Rattle.read_calls.proofs.CountedEntryLaws.{tally}
use Rattle.read_calls.proofs.list.count_short_steps.Given as goal

abbrev pub invariant-loop-more : goal.invariant-loop-more
invariant-loop-more l = Stepping l.s l.n l.values l.base l.row (tally l.initial.st l.initial.more l.initial.had l.initial.lost) (tally l.st l.more l.had l.lost)

abbrev pub decreases-loop-more : goal.decreases-loop-more
decreases-loop-more l = l.more
