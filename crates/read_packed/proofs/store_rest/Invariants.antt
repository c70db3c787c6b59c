use Prim.Native.Nat.{◌-◌}
use Rattle.read_packed.specs.Arrays.{bits_of, number_in, store}
use Rattle.read_packed.proofs.StoreLaws.{Storing}
use Rattle.read_packed.proofs.store_rest.Given as goal

abbrev pub invariant-loop-k : goal.invariant-loop-k
invariant-loop-k l =
    Storing (number_in (bits_of l.width) l.s l.at) l.n l.k l.initial.row l.row
    (store (number_in (bits_of l.width) l.s l.at) (l.n - l.from) l.from l.initial.row)
