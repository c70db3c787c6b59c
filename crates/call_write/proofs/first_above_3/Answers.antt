-- `call_write::first_above_3` meets its contract: none is above 3 if the largest is not; else each turn of the loop passes one category that is not above 3.
-- Assumes nothing.
use borrow.Author.Rules.{rules}
use Rattle.call_write.proofs.CheckLaws.{above_end, above_laws}
use Rattle.call_write.proofs.first_above_3.Goals as goal

pub returns-then-largest-le3 : goal.returns-then-largest-le3
returns-then-largest-le3 c = search (above_laws, rules)

pub returns-then-category-gt3 : goal.returns-then-category-gt3
returns-then-category-gt3 c = search (above_laws, rules)

pub loop-i-preserved : goal.loop-i-preserved
loop-i-preserved c = search (above_laws, rules)

pub returns : goal.returns
returns c = above_end c.loop-i.invariant c.loop-i-test.false
