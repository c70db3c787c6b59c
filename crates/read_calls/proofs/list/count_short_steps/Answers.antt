-- `read_calls::list::count_short_steps` meets its contract.
-- Assumes nothing.
use Rattle.read_calls.proofs.TallyLaws.{step_short}
use mathlib.Core.Path.{ap}
use mathlib.Core.Bool.{not}
use Rattle.read_calls.proofs.list.count_short_steps.Goals as goal

pub loop-more-preserved : goal.loop-more-preserved
loop-more-preserved c =
    step_short c.loop-more.invariant c.loop-more-test.true c.if-step-n.false c.type_inv.s c.if-st-eq0.false c.short.ensures c.in-Some.is
    c.if-step-eq0.false c.two_bits-value.ensures c.rule_of-held.ensures c.may_hold.ensures (ap not c.if-not-may_hold.false) c.call_count.ensures
    c.category_before.ensures c.call_count-in-loop-more.ensures
