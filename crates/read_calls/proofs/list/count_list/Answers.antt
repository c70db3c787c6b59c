-- `read_calls::list::count_list` meets its contract.
-- Assumes nothing.
use borrow.Author.Rules.{rules}
use Rattle.format.proofs.Exits.{handed_on}
use Rattle.read_calls.proofs.CountAgrees.{count_list_laws, count_fits}
use Rattle.read_calls.proofs.BaseLaws.{base_long}
use Rattle.read_calls.proofs.list.count_list.Goals as goal

pub returns-in_err-m : goal.returns-in_err-m
returns-in_err-m c = rw (handed_on c.from_residual.ensures) (search (count_list_laws, c.in_err-m.was, rules))

pub returns-then-m-eq0 : goal.returns-then-m-eq0
returns-then-m-eq0 c = search (count_list_laws, c.in_ok-m.was, rules)

pub lay_parts-requires : goal.lay_parts-requires
lay_parts-requires c = search (count_list_laws, c.in_ok-m.was, rules)

pub returns-in_err-values : goal.returns-in_err-values
returns-in_err-values c = rw (handed_on c.from_residual-in_err-values.ensures) (search (count_list_laws, c.in_ok-m.was, c.in_err-values.was, rules))

pub count_entries-requires-clause-room : goal.count_entries-requires-clause-room
count_entries-requires-clause-room c = search (count_list_laws, c.in_ok-m.was, c.in_ok-values.was, rules)

pub returns : goal.returns
returns c =
    count_fits _ _ _ _ _ (base_long c.args.base _ c.args.row.now _) c.type_inv.s c.requires.at_in_bounds.0 _ c.read_count.ensures _ _
    c.in_ok-m.was c.if-m-eq0.false _ c.lay_parts.ensures _ _ c.in_ok-values.was _ c.count_entries.ensures
