-- `call_rows::phased::phased_leaning` meets its contract.
-- Assumes nothing.
use borrow.Author.Rules.{rules}
use Rattle.call_rows.proofs.PhasedLaws.{phased_step_laws}
use Rattle.call_rows.proofs.phased.phased_leaning.Goals as goal

pub returns-in-Err : goal.returns-in-Err
returns-in-Err c = search (phased_step_laws, rules)

pub returns-in-Ok : goal.returns-in-Ok
returns-in-Ok c = search (phased_step_laws, rules)
