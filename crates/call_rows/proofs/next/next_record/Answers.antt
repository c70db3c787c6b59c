-- `call_rows::next::next_record` meets its contract.
-- Assumes nothing.
use borrow.Author.Rules.{rules}
use Rattle.format.proofs.Exits.{handed_on}
use Rattle.call_rows.proofs.RecordLaws.{next_record_laws}
use Rattle.call_rows.proofs.next.next_record.Goals as goal

pub returns-in_err-state_checked : goal.returns-in_err-state_checked
returns-in_err-state_checked c = rw (handed_on c.from_residual.ensures) (search (next_record_laws, c.in_err-state_checked.was, rules))

pub record_checked-requires : goal.record_checked-requires
record_checked-requires c = search (next_record_laws, c.in_ok-state_checked.was, rules)

pub returns : goal.returns
returns c = search (next_record_laws, c.in_ok-state_checked.was, rules)
