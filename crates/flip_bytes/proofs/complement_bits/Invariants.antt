use Prim.Native.Nat.{◌+◌, ◌-◌, ◌*◌}
use Rattle.flip_bytes.specs.Changed.{complement}
use Rattle.flip_bytes.proofs.Turns.{Changing}
use Rattle.flip_bytes.proofs.complement_bits.Given as goal

abbrev pub invariant-loop-i : goal.invariant-loop-i
invariant-loop-i l = Changing 2 7 complement l.initial.s l.at l.n l.s (l.at + l.i) (l.n - 8 * l.i)
