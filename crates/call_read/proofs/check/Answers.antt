-- `call_read::check` meets its contract.
-- Assumes nothing.
use borrow.Author.Rules.{rules}
use Rattle.format.proofs.Exits.{handed_on}
use Rattle.call_read.proofs.CheckLaws.{check_laws}
use Rattle.call_read.proofs.check.Goals as goal

pub returns-in_err-f : goal.returns-in_err-f
returns-in_err-f c = rw (handed_on c.from_residual.ensures) (search (check_laws, c.in_err-f.was, rules))

pub check_records-requires : goal.check_records-requires
check_records-requires c = search (check_laws, c.in_ok-f.was, rules)

pub returns-in_err-check_records : goal.returns-in_err-check_records
returns-in_err-check_records c =
    rw (handed_on c.from_residual-in_err-check_records.ensures) (search (check_laws, c.in_ok-f.was, c.in_err-check_records.was, rules))

pub returns : goal.returns
returns c = search (check_laws, c.in_ok-f.was, c.in_ok-check_records.was, rules)
