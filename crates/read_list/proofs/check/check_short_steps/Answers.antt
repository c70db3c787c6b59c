-- `read_list::check::check_short_steps` meets its contract.
-- Assumes nothing.
use borrow.Author.Rules.{rules}
use Rattle.read_list.proofs.ShortWalks.{check_walk_laws, check_walk_turn}
use mathlib.Core.Path.{ap}
use mathlib.Core.Bool.{not}
use Rattle.read_list.proofs.check.check_short_steps.Goals as goal

pub loop-passed-init : goal.loop-passed-init
loop-passed-init c = search (check_walk_laws, rules)

pub loop-passed-preserved : goal.loop-passed-preserved
loop-passed-preserved c =
    check_walk_turn c.loop-passed.invariant c.loop-passed-test.true c.if-step-n.false c.type_inv.s c.short.ensures c.in-Some.is c.if-step-eq0.false
    c.two_bits-value.ensures c.may_hold.ensures (ap not c.if-not-may_hold.false)
