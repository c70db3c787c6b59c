-- `read_calls::list::count_leaning` meets its contract.
-- Assumes nothing.
use borrow.Author.Rules.{rules}
use Rattle.read_calls.proofs.CountAgrees.{leaning_laws}
use Rattle.read_calls.proofs.list.count_leaning.Goals as goal

pub count_list-requires-clause-h_value : goal.count_list-requires-clause-h_value
count_list-requires-clause-h_value c = search (leaning_laws, rules)

pub returns : goal.returns
returns c = search (leaning_laws, rules)
