-- `read_phase::ones_in` meets its contract.
-- Assumes nothing.
use borrow.Author.Rules.{rules}
use Rattle.read_phase.proofs.OnesLaws.{ones_laws}
use Rattle.read_phase.proofs.ones_in.Goals as goal

pub overflow_add-count : goal.overflow_add-count
overflow_add-count c = search (ones_laws, rules)

pub loop-b-preserved : goal.loop-b-preserved
loop-b-preserved c = search (ones_laws, rules)

pub returns : goal.returns
returns c = search (ones_laws, rules)
