-- `read_list::entry::take_step` meets its contract.
-- Assumes nothing.
use borrow.Author.Rules.{rules}
use Rattle.format.proofs.Exits.{passed_on}
use Rattle.read_list.proofs.SampleLaws.{step_laws}
use Rattle.read_list.proofs.entry.take_step.Goals as goal

pub returns-in_err-step : goal.returns-in_err-step
returns-in_err-step c = passed_on c.from_residual.ensures (search (step_laws, c.in_err-step.was, rules))

pub returns-then-step-eq0 : goal.returns-then-step-eq0
returns-then-step-eq0 c = search (step_laws, c.in_ok-step.was, rules)

pub returns-then-step-n : goal.returns-then-step-n
returns-then-step-n c = search (step_laws, c.in_ok-step.was, rules)

pub returns : goal.returns
returns c = search (step_laws, c.in_ok-step.was, rules)
