-- `head_numbers::number_at` meets its contract: the loop's invariant is `Reading`.
-- Assumes nothing.
use borrow.Author.Rules.{rules}
use native.Mathlib.Omega.{arith}
use Rattle.head_numbers.proofs.Numbers.{goes_on_wide, more_fits_wide, reading_laws}
use Rattle.head_numbers.proofs.number_at.Goals as goal

pub loop-i-init : goal.loop-i-init
loop-i-init c = search (reading_laws, rules)

pub overflow_add-number : goal.overflow_add-number
overflow_add-number c = more_fits_wide c.loop-i.invariant c.type_inv.file _ c.from.ensures (omega arith)

pub loop-i-preserved : goal.loop-i-preserved
loop-i-preserved c = goes_on_wide c.loop-i.invariant c.type_inv.file c.from.ensures (omega arith)

pub returns : goal.returns
returns c = (search (reading_laws, rules), search (reading_laws, rules))
