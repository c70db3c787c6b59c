use Rattle.call_write.proofs.LargestLaws.{Going}
use Rattle.call_write.proofs.largest.Given as goal

abbrev pub invariant-loop-category : goal.invariant-loop-category
invariant-loop-category l = Going l.categories l.most l.category-index
