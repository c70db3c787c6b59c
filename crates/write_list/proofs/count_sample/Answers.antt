-- `write_list::count_sample` meets its contract: nothing where the value is the base's, else one entry and its step.
-- Assumes nothing.
use borrow.Author.Rules.{rules}
use Rattle.write_list.proofs.CountLaws.{counts_laws}
use Rattle.write_list.proofs.count_sample.Goals as goal

pub overflow_add-result-2 : goal.overflow_add-result-2
overflow_add-result-2 c = search (counts_laws, rules)
