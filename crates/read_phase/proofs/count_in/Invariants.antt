use Rattle.read_phase.proofs.CountLaws.{Counting}
use Rattle.read_phase.proofs.count_in.Given as goal

abbrev pub invariant-loop-category : goal.invariant-loop-category
invariant-loop-category l = Counting l.part l.count l.category-index
