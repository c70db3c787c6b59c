-- `read_phase::count_in` meets its contract.
-- Assumes nothing.
use borrow.Author.Rules.{rules}
use Rattle.read_phase.proofs.CountLaws.{count_laws}
use Rattle.read_phase.proofs.count_in.Goals as goal

pub overflow_add-count : goal.overflow_add-count
overflow_add-count c = search (count_laws, rules)

pub loop-category-preserved : goal.loop-category-preserved
loop-category-preserved c = search (count_laws, rules)

pub returns : goal.returns
returns c = search (count_laws, rules)
