-- `read_list::put_parts` meets its contract.
-- Assumes nothing.
use borrow.Author.Rules.{rules}
use Rattle.read_list.proofs.WholeLaws.{put_parts_laws, parts_known}
use Rattle.read_list.proofs.put_parts.Goals as goal

pub returns-in_err-m : goal.returns-in_err-m
returns-in_err-m c = search (put_parts_laws, c.in_err-m.was, rules)

pub returns-then-m-eq0 : goal.returns-then-m-eq0
returns-then-m-eq0 c = search (put_parts_laws, c.in_ok-m.was, rules)

pub lay_parts-requires : goal.lay_parts-requires
lay_parts-requires c = search (put_parts_laws, c.in_ok-m.was, rules)

pub returns-in_err-values : goal.returns-in_err-values
returns-in_err-values c = search (put_parts_laws, c.in_ok-m.was, c.in_err-values.was, rules)

pub put_entries-requires-clause-room : goal.put_entries-requires-clause-room
put_entries-requires-clause-room c = search (put_parts_laws, c.in_ok-m.was, c.in_ok-values.was, rules)

pub put_entries-requires-clause-lists : goal.put_entries-requires-clause-lists
put_entries-requires-clause-lists c =
    parts_known _ _ _ _ _ _ c.read_count.ensures _ _ c.in_ok-m.was c.if-m-eq0.false _ c.lay_parts.ensures _ _ c.in_ok-values.was _ c.requires.lists

pub returns : goal.returns
returns c = search (put_parts_laws, c.in_ok-m.was, c.in_ok-values.was, rules)
