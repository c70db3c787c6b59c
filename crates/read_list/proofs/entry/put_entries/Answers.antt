-- `read_list::entry::put_entries` meets its contract.
-- Assumes nothing.
use borrow.Author.Rules.{rules}
use mathlib.Core.Path.{refl}
use Rattle.format.proofs.Exits.{passed_on}
use Rattle.read_list.proofs.LoopLaws.{put_laws, put_stop, put_lists, put_on_room, put_on_with}
use Rattle.read_list.proofs.entry.put_entries.Goals as goal

pub returns-in_err-next : goal.returns-in_err-next
returns-in_err-next c =
    rw (passed_on c.from_residual.ensures refl) (put_stop c.loop-more.invariant c.loop-more-test.true c.put_entry.ensures c.in_err-next.was)

pub put_steps-walk-requires-clause-room : goal.put_steps-walk-requires-clause-room
put_steps-walk-requires-clause-room c = search (put_on_room c.loop-more.invariant, c.in_ok-next.was, rules)

pub put_steps-walk-requires-clause-lists : goal.put_steps-walk-requires-clause-lists
put_steps-walk-requires-clause-lists c =
    put_lists c.loop-more.invariant c.loop-more-test.true c.put_entry.ensures c.type_inv.s c.in_ok-next.was _ c.requires.lists

pub loop-more-preserved : goal.loop-more-preserved
loop-more-preserved c =
    put_on_with c.loop-more.invariant c.loop-more-test.true c.put_entry.ensures c.type_inv.s c.in_ok-next.was c.put_steps-walk.ensures
    c.put_entry.auto.row

pub returns : goal.returns
returns c = search (put_laws, rules)
