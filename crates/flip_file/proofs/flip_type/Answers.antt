-- `flip_file::flip_type` meets its contract.
-- Assumes nothing.
use borrow.Author.Rules.{rules}
use Rattle.flip_file.proofs.Ways.{type_laws}
use Rattle.flip_file.proofs.flip_type.Goals as goal

pub put_type-requires : goal.put_type-requires
put_type-requires c = search (type_laws, rules)

pub returns-then-is_touched : goal.returns-then-is_touched
returns-then-is_touched c = search (type_laws, rules)

pub returns-else-is_touched : goal.returns-else-is_touched
returns-else-is_touched c = search (type_laws, rules)
