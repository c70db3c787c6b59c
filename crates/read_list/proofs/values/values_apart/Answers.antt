-- `read_list::values::values_apart` meets its contract.
-- Assumes nothing.
use borrow.Author.Rules.{rules}
use Rattle.read_list.proofs.RunValues.{flat_values}
use Rattle.read_list.proofs.values.values_apart.Goals as goal

pub loop-k-init : goal.loop-k-init
loop-k-init c = search (flat_values, rules)

pub loop-k-preserved : goal.loop-k-preserved
loop-k-preserved c = search (flat_values, rules)

pub returns : goal.returns
returns c = search (flat_values, rules)
