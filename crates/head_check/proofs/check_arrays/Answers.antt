-- `head_check::check_arrays` meets its contract.
-- Assumes nothing.
use borrow.Author.Rules.{rules}
use Rattle.head_check.proofs.FixedLaws.{arrays_laws}
use Rattle.head_check.proofs.check_arrays.Goals as goal

pub returns-then-file-end : goal.returns-then-file-end
returns-then-file-end c = search (arrays_laws, rules)
