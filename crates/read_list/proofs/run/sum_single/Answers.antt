-- `read_list::run::sum_single` meets its contract.
-- Assumes nothing.
use borrow.Author.Rules.{rules}
use Rattle.read_list.proofs.RunLaws.{sum_laws}
use Rattle.read_list.proofs.run.sum_single.Goals as goal

pub loop-i-init : goal.loop-i-init
loop-i-init c = search (sum_laws, rules)

pub loop-i-preserved : goal.loop-i-preserved
loop-i-preserved c = rw c.from-sum.ensures (search (sum_laws, rules))
