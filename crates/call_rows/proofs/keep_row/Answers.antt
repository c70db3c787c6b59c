-- `call_rows::keep_row` meets its contract.
-- Assumes nothing.
use borrow.Author.Rules.{rules}
use Rattle.call_rows.proofs.StepLaws.{kept_laws}
use Rattle.call_rows.proofs.keep_row.Goals as goal

pub returns-in-Err : goal.returns-in-Err
returns-in-Err c = search (kept_laws, rules)

pub returns-in-Ok : goal.returns-in-Ok
returns-in-Ok c = search (kept_laws, rules)
