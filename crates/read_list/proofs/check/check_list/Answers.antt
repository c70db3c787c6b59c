-- `read_list::check::check_list` meets its contract.
-- Assumes nothing.
use borrow.Author.Rules.{rules}
use Rattle.format.proofs.Exits.{passed_on}
use Rattle.read_list.proofs.CheckAgrees.{check_list_laws, check_listed}
use Rattle.read_list.proofs.WholeLaws.{check_fits}
use Rattle.read_list.proofs.check.check_list.Goals as goal

pub returns-in_err-m : goal.returns-in_err-m
returns-in_err-m c = passed_on c.from_residual.ensures (search (check_list_laws, c.in_err-m.was, rules))

pub returns-then-m-eq0 : goal.returns-then-m-eq0
returns-then-m-eq0 c = search (check_list_laws, c.in_ok-m.was, rules)

pub lay_parts-requires : goal.lay_parts-requires
lay_parts-requires c = search (check_list_laws, c.in_ok-m.was, rules)

pub returns-in_err-values : goal.returns-in_err-values
returns-in_err-values c = passed_on c.from_residual-in_err-values.ensures (search (check_list_laws, c.in_ok-m.was, c.in_err-values.was, rules))

pub check_entries-requires-clause-room : goal.check_entries-requires-clause-room
check_entries-requires-clause-room c = search (check_list_laws, c.in_ok-m.was, c.in_ok-values.was, rules)

pub returns : goal.returns
returns c =
    check_listed _ _ _ _ _ c.type_inv.s c.requires.at_in_bounds.0 c.requires.against _
    (check_fits _ _ _ _ _ _ c.read_count.ensures _ _ c.in_ok-m.was c.if-m-eq0.false _ c.lay_parts.ensures _ _ c.in_ok-values.was _
    c.check_entries.ensures)
