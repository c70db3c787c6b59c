-- `call_write::phased::check_phases` meets its contract: the first phase that is not allowed, or none.
-- Assumes nothing.
use borrow.Author.Rules.{rules}
use Rattle.call_write.proofs.PhasedCheckLaws.{phase_laws}
use Rattle.call_write.proofs.phased.check_phases.Goals as goal

pub returns-then-i-categories : goal.returns-then-i-categories
returns-then-i-categories c = search (phase_laws, rules)

pub returns : goal.returns
returns c = search (phase_laws, rules)
