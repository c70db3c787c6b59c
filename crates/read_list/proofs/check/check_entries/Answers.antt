-- `read_list::check::check_entries` meets its contract.
-- Assumes nothing.
use borrow.Author.Rules.{rules}
use Rattle.format.proofs.Exits.{passed_on}
use Rattle.read_list.proofs.CheckLaws.{check_laws, check_on_room, check_off, check_on_with}
use Rattle.read_list.proofs.check.check_entries.Goals as goal

pub returns-in_err-next : goal.returns-in_err-next
returns-in_err-next c = passed_on c.from_residual.ensures (search (check_laws, c.in_err-next.was, rules))

pub check_group-walk-requires-clause-room : goal.check_group-walk-requires-clause-room
check_group-walk-requires-clause-room c = search (check_on_room c.loop-more.invariant, c.in_ok-next.was, rules)

pub check_group-walk-requires-clause-all_off : goal.check_group-walk-requires-clause-all_off
check_group-walk-requires-clause-all_off c = search (check_off c.loop-more.invariant, c.in_ok-next.was, rules)

pub loop-more-preserved : goal.loop-more-preserved
loop-more-preserved c =
    check_on_with c.loop-more.invariant c.loop-more-test.true c.check_entry.ensures c.type_inv.s c.in_ok-next.was c.check_group-walk.ensures

pub returns : goal.returns
returns c = search (check_laws, rules)
