-- `write_phase::first_not_allowed` meets its contract: none is found if the largest excess is 0; else each turn of the loop passes one phase that is allowed.
-- Assumes nothing.
use borrow.Author.Rules.{rules}
use Rattle.write_phase.proofs.AllowedLaws.{allowed_found, allowed_next, allowed_end, allowed_laws}
use Rattle.write_phase.proofs.first_not_allowed.Goals as goal

pub returns-then-largest_excess-eq0 : goal.returns-then-largest_excess-eq0
returns-then-largest_excess-eq0 c = search (allowed_laws, rules)

pub returns-then-excess-gt0 : goal.returns-then-excess-gt0
returns-then-excess-gt0 c = search (allowed_found c.loop-i.invariant, rules)

pub loop-i-preserved : goal.loop-i-preserved
loop-i-preserved c = search (allowed_next c.loop-i.invariant, rules)

pub returns : goal.returns
returns c = allowed_end c.loop-i.invariant c.loop-i-test.false
