-- `head_numbers::sum_of` meets its contract: the loop's invariant is `Summing`.
-- Assumes nothing.
use borrow.Author.Rules.{rules}
use native.Mathlib.Omega.{arith}
use Rattle.head_numbers.proofs.Sums.{sum_laws}
use Rattle.head_numbers.proofs.sum_of.Goals as goal

pub loop-i-preserved : goal.loop-i-preserved
loop-i-preserved g c = search (sum_laws, c.from-total.ensures, rules)

pub returns : goal.returns
returns g c = (search (sum_laws, rules), omega (arith, c.loop-i.invariant))
