-- `read_list::entry::put_short_steps` meets its contract.
-- Assumes nothing.
use Rattle.read_list.proofs.ShortWalks.{walk_turn}
use mathlib.Core.Path.{ap}
use mathlib.Core.Bool.{not}
use Rattle.read_list.proofs.entry.put_short_steps.Goals as goal

pub loop-done-preserved : goal.loop-done-preserved
loop-done-preserved c =
    walk_turn c.loop-done.invariant c.loop-done-test.true c.if-step-n.false c.type_inv.s c.short.ensures c.in-Some.is c.if-step-eq0.false
    c.two_bits-value.ensures c.may_hold.ensures (ap not c.if-not-may_hold.false)
