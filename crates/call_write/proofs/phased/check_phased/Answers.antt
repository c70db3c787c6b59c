-- `call_write::phased::check_phased` meets its contract: one law for each answer, in the documents' order.
-- Assumes nothing.
use borrow.Author.Rules.{rules}
use Rattle.format.proofs.Exits.{passed_on}
use Rattle.call_write.proofs.PhasedCheckLaws.{phased_laws}
use Rattle.call_write.proofs.phased.check_phased.Goals as goal

pub returns-in_err-asked : goal.returns-in_err-asked
returns-in_err-asked c = passed_on c.from_residual.ensures (search (phased_laws, c.in_err-asked.was, rules))

pub returns-then-phases-categories : goal.returns-then-phases-categories
returns-then-phases-categories c = search (phased_laws, c.in_ok-asked.was, rules)

pub returns-in_err-check_categories : goal.returns-in_err-check_categories
returns-in_err-check_categories c =
    passed_on c.from_residual-in_err-check_categories.ensures
    (search (phased_laws, c.in_ok-asked.was, c.in_err-check_categories.was, rules))

pub returns-in_err-check_phases : goal.returns-in_err-check_phases
returns-in_err-check_phases c = passed_on c.from_residual-in_err-check_phases.ensures
    (search (phased_laws, c.in_ok-asked.was, c.in_ok-check_categories.was, c.in_err-check_phases.was, rules))

pub returns : goal.returns
returns c = search (phased_laws, c.in_ok-asked.was, c.in_ok-check_categories.was, c.in_ok-check_phases.was, rules)
