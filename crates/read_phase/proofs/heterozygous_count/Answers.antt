-- `read_phase::heterozygous_count` meets its contract.
-- Assumes nothing.
use borrow.Author.Rules.{rules}
use Rattle.read_phase.proofs.CountLaws.{parts_laws}
use Rattle.read_phase.proofs.heterozygous_count.Goals as goal

pub loop-part-init : goal.loop-part-init
loop-part-init c = search (parts_laws, rules)

pub overflow_add-count : goal.overflow_add-count
overflow_add-count c = rw c.from-count.ensures (search (parts_laws, c.in-Some.ensures.steps, rules))

pub loop-part-preserved : goal.loop-part-preserved
loop-part-preserved c = rw c.from-count.ensures (search (parts_laws, c.in-Some.ensures.steps, rules))

pub overflow_add-result : goal.overflow_add-result
overflow_add-result c = rw c.from.ensures (search (parts_laws, c.in-None.ensures.steps, rules))

pub returns : goal.returns
returns c = rw c.from.ensures (search (parts_laws, c.in-None.ensures.steps, rules))
