-- `read_calls::list::count_entry` meets its contract.
-- Assumes nothing.
use borrow.Author.Rules.{rules}
use Rattle.format.proofs.Exits.{handed_on}
use Rattle.read_list.proofs.EntryLaws.{check_entry_laws}
use Rattle.read_calls.proofs.list.count_entry.Goals as goal

pub returns-in_err-next : goal.returns-in_err-next
returns-in_err-next c = rw (handed_on c.from_residual.ensures) (search (check_entry_laws, c.in_err-next.was, rules))

pub check_value-requires-clause-passed_in_bounds : goal.check_value-requires-clause-passed_in_bounds
check_value-requires-clause-passed_in_bounds c = search (check_entry_laws, c.in_ok-next.was, rules)

pub check_value-requires-clause-against : goal.check_value-requires-clause-against
check_value-requires-clause-against c = search (check_entry_laws, c.in_ok-next.was, rules)
