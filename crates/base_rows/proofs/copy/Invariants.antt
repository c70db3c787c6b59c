use lib.ListN.{take}
use Rattle.base_rows.proofs.RowLaws.{Written}
use Rattle.base_rows.proofs.copy.Given as goal

abbrev pub invariant-loop-i : goal.invariant-loop-i
invariant-loop-i l = Written l.n l.initial.to l.to (take l.i l.from) l.i
