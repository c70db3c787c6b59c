use Prim.Native.Nat.{◌+◌, ◌-◌, ◌*◌}
use Rattle.format.specs.Category.{exchange}
use Rattle.flip_bytes.proofs.Turns.{Changing}
use Rattle.flip_bytes.proofs.exchange_values.Given as goal

abbrev pub invariant-loop-i : goal.invariant-loop-i
invariant-loop-i l = Changing 4 3 exchange l.initial.s l.at l.n l.s (l.at + l.i) (l.n - 4 * l.i)
