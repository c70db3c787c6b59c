-- `call_rows::next_row_in` meets its contract.
-- Assumes nothing.
use borrow.Author.Rules.{rules}
use Rattle.call_rows.proofs.RecordLaws.{next_laws}
use Rattle.call_rows.proofs.next_row_in.Goals as goal

pub step_leaning-requires : goal.step_leaning-requires
step_leaning-requires c = search (next_laws, rules)

pub returns-then-type_leans : goal.returns-then-type_leans
returns-then-type_leans c = search (next_laws, rules)

pub step_alone-requires : goal.step_alone-requires
step_alone-requires c = search (next_laws, rules)

pub returns-in-Err : goal.returns-in-Err
returns-in-Err c = search (next_laws, rules)

pub returns-else-type_leans : goal.returns-else-type_leans
returns-else-type_leans c = search (next_laws, rules)
