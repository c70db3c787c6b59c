-- `head_check::check_ends` meets its contract.
-- Assumes nothing.
use borrow.Author.Rules.{rules}
use Rattle.head_check.proofs.Chain.{nine_laws}
use Rattle.head_check.proofs.check_ends.Goals as goal

pub records_end-requires : goal.records_end-requires
records_end-requires c = search (nine_laws, rules)

pub overflow_mul-block : goal.overflow_mul-block
overflow_mul-block c = search (nine_laws, rules)

pub overflow_add-block : goal.overflow_add-block
overflow_add-block c = search (nine_laws, rules)

pub returns-then-last-file : goal.returns-then-last-file
returns-then-last-file c = search (nine_laws, rules)

pub returns-in-Err : goal.returns-in-Err
returns-in-Err c = search (nine_laws, rules)

pub returns-else-last-file : goal.returns-else-last-file
returns-else-last-file c = search (nine_laws, rules)
