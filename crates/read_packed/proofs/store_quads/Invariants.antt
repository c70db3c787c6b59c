use Prim.Native.Nat.{◌*◌}
use Rattle.format.specs.Packed.{two}
use Rattle.read_packed.specs.Arrays.{number_in, store}
use Rattle.read_packed.proofs.StoreLaws.{Storing}
use Rattle.read_packed.proofs.store_quads.Given as goal

abbrev pub invariant-loop-i : goal.invariant-loop-i
invariant-loop-i l = Storing (number_in two l.s l.at) (4 * l.full) (4 * l.i) l.initial.row l.row (store (number_in two l.s l.at) (4 * l.full) 0 l.initial.row)
