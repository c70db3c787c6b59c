-- `head_numbers::short_sum_of` meets its contract: the loop's invariant is `Summing`.
-- Assumes nothing.
use borrow.Author.Rules.{rules}
use Prim.Native.Nat.{◌≤◌}
use native.Mathlib.Omega.{arith}
use Rattle.head_numbers.proofs.Sums.{sum_laws, below_short}
use Rattle.head_numbers.proofs.short_sum_of.Goals as goal

pub overflow_add-total : goal.overflow_add-total
overflow_add-total g c = let l : c.number_of-total.result ≤ 65535 = search (below_short, rules) in omega (arith, c.loop-i.invariant)

pub loop-i-preserved : goal.loop-i-preserved
loop-i-preserved g c = search (sum_laws, rules)

pub returns : goal.returns
returns g c = (search (sum_laws, rules), omega (arith, c.loop-i.invariant))
