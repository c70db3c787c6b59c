-- `call_rows::step_leaning` meets its contract.
-- Assumes nothing.
use borrow.Author.Rules.{rules}
use Rattle.call_rows.proofs.StepLaws.{step_laws}
use Rattle.call_rows.proofs.step_leaning.Goals as goal

pub returns-in-Err : goal.returns-in-Err
returns-in-Err c = search (step_laws, rules)

pub returns-in-Ok : goal.returns-in-Ok
returns-in-Ok c = search (step_laws, rules)
