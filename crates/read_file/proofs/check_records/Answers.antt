-- `read_file::check_records` meets its contract.
-- Assumes nothing.
use borrow.Author.Rules.{rules}
use Rattle.read_file.proofs.WalkLaws.{check_laws}
use Rattle.read_file.proofs.check_records.Goals as goal

pub loop-v-init : goal.loop-v-init
loop-v-init c = search (check_laws, rules)

pub overflow_add-end : goal.overflow_add-end
overflow_add-end c = search (check_laws, rules)

pub slice_bounds-check_next-end : goal.slice_bounds-check_next-end
slice_bounds-check_next-end c = search (check_laws, rules)

pub check_next-got-requires : goal.check_next-got-requires
check_next-got-requires c = search (check_laws, rules)

pub returns-in-Err : goal.returns-in-Err
returns-in-Err c = search (check_laws, rules)

pub loop-v-preserved : goal.loop-v-preserved
loop-v-preserved c = search (check_laws, rules)

pub returns : goal.returns
returns c = search (check_laws, rules)
