-- `call_write::check_record` meets its contract: the refusal of the checks before, or the categories' own check.
-- Assumes nothing.
use borrow.Author.Rules.{rules}
use Rattle.format.proofs.Exits.{passed_on}
use Rattle.call_write.proofs.CheckLaws.{check_laws}
use Rattle.call_write.proofs.check_record.Goals as goal

pub returns-in_err-asked : goal.returns-in_err-asked
returns-in_err-asked c = passed_on c.from_residual.ensures (search (check_laws, c.in_err-asked.was, rules))

pub returns-in_err-check_categories : goal.returns-in_err-check_categories
returns-in_err-check_categories c =
    passed_on c.from_residual-in_err-check_categories.ensures
    (search (check_laws, c.in_ok-asked.was, c.in_err-check_categories.was, rules))

pub returns : goal.returns
returns c = search (check_laws, c.in_ok-asked.was, c.in_ok-check_categories.was, rules)
