-- `flip_file::put_type` meets its contract.
-- Assumes nothing.
use borrow.Author.Rules.{rules}
use Rattle.flip_file.proofs.Ways.{put_laws}
use Rattle.flip_file.proofs.put_type.Goals as goal

pub returns-then-place-file : goal.returns-then-place-file
returns-then-place-file c = search (put_laws, rules)

pub returns-else-place-file : goal.returns-else-place-file
returns-else-place-file c = search (put_laws, rules)
