use mathlib.Core.List.{map}
use lib.ListN.{take}
use Rattle.base_rows.proofs.RowLaws.{Written}
use Rattle.read_packed.specs.Unpacked.{of_pair}
use Rattle.read_packed.proofs.choose.Given as goal

abbrev pub invariant-loop-i : goal.invariant-loop-i
invariant-loop-i l = Written l.n l.initial.row l.row (map (of_pair l.lower l.higher) (take l.i l.initial.row)) l.i
