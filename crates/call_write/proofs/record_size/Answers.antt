-- `call_write::record_size` meets its contract: the sum of the parts' sizes, by what is asked for.
-- Assumes nothing.
use borrow.Author.Rules.{rules}
use Rattle.call_write.proofs.SizeLaws.{size_laws}
use Rattle.call_write.proofs.record_size.Goals as goal

pub overflow_add-result-in-Pair : goal.overflow_add-result-in-Pair
overflow_add-result-in-Pair c = search (size_laws, rules)

pub returns-in-Array : goal.returns-in-Array
returns-in-Array c = search (size_laws, rules)

pub returns-in-Pair : goal.returns-in-Pair
returns-in-Pair c = search (size_laws, rules)
