use mathlib.Core.Bool.{true}
use lib.ListN.{take, length}
use Rattle.format.specs.Category.{exchange_all}
use Rattle.base_rows.proofs.RowLaws.{Written}
use Rattle.base_rows.proofs.exchange_row.Given as goal

abbrev pub invariant-loop-category : goal.invariant-loop-category
invariant-loop-category l =
    let old = l.initial.category-items in
    Written (length old) old l.category-items (exchange_all true (take l.category-index old)) l.category-index
