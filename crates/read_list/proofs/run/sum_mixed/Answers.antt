-- `read_list::run::sum_mixed` meets its contract.
-- Assumes nothing.
use borrow.Author.Rules.{rules}
use Rattle.read_list.proofs.RunLaws.{mix_laws, mix_turn}
use Rattle.read_list.proofs.run.sum_mixed.Goals as goal

pub loop-i-init : goal.loop-i-init
loop-i-init c = search (mix_laws, rules)

pub loop-i-preserved : goal.loop-i-preserved
loop-i-preserved c = search (mix_turn c.loop-i.invariant, rules)
