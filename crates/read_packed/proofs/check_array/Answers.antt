-- `read_packed::check_array` meets its contract.
-- Assumes nothing.
use borrow.Author.Rules.{rules}
use Rattle.read_packed.proofs.CheckLaws.{check_laws}
use Rattle.read_packed.proofs.check_array.Goals as goal

pub returns-then-size-s : goal.returns-then-size-s
returns-then-size-s c = search (check_laws, rules)

pub overflow_sub-at : goal.overflow_sub-at
overflow_sub-at c = search (check_laws, rules)

pub returns-then-unused_bits-ne0 : goal.returns-then-unused_bits-ne0
returns-then-unused_bits-ne0 c = search (check_laws, rules)

pub returns : goal.returns
returns c = search (check_laws, rules)
