-- `read_list::values::among_four` meets its contract.
-- Assumes nothing.
use borrow.Author.Rules.{rules}
use Rattle.read_list.proofs.RunValues.{flat_values}
use Rattle.read_list.proofs.values.among_four.Goals as goal

pub returns : goal.returns
returns c = search (flat_values, rules)
