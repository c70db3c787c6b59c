use Prim.Native.Nat.{◌*◌}
use Rattle.format.specs.Packed.{one}
use Rattle.read_packed.specs.Arrays.{number_in, store}
use Rattle.read_packed.proofs.StoreLaws.{Storing}
use Rattle.read_packed.proofs.store_octets.Given as goal

abbrev pub invariant-loop-i : goal.invariant-loop-i
invariant-loop-i l = Storing (number_in one l.s l.at) (8 * l.full) (8 * l.i) l.initial.row l.row (store (number_in one l.s l.at) (8 * l.full) 0 l.initial.row)
