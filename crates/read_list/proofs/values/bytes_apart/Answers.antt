-- `read_list::values::bytes_apart` meets its contract.
-- Assumes nothing.
use borrow.Author.Rules.{rules}
use Rattle.read_list.proofs.RunValues.{flat_values}
use Rattle.read_list.proofs.values.bytes_apart.Goals as goal

pub loop-i-preserved : goal.loop-i-preserved
loop-i-preserved c = search (flat_values, rules)
