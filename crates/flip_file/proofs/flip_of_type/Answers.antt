-- `flip_file::flip_of_type` meets its contract.
-- Assumes nothing.
use borrow.Author.Rules.{rules}
use Rattle.flip_file.proofs.Ways.{of_type_laws}
use Rattle.flip_file.proofs.flip_of_type.Goals as goal

pub overflow_add-result : goal.overflow_add-result
overflow_add-result c = search (of_type_laws, rules)
