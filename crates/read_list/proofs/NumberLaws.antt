-- The width of a head, and what a slice's bytes and length leave room for.
-- Assumes nothing.
use mathlib.Core.Path.{◌≡◌}
use Prim.Native.Nat.{ℕ, ◌*◌, ◌^◌, ◌≤◌, ◌<◌}
use mathlib.Core.List.{List}
use lib.ListN.{get_or, length}
use mir.Syntax.{w8}
use mir.Val.{Fits}
use Rattle.format.specs.Difflist.{number_width}
use Rattle.base_list.proofs.ShapeLaws.{width_some, width_few}

-- what a lent slice tells: its elements are bytes, and there are fewer than 2 ^ 63
abbrev pub Known : List ℕ → Type 0
Known l = (i : ℕ) → Fits w8 (get_or l i 0)

abbrev pub InMemory : List ℕ → Type 0
InMemory l = length l * 1 < 2 ^ 63

-- w is what `number_width` gave
module _ (w n : ℕ) (e : w ≡ number_width n) where
  pub wide : 0 < w
  wide = rw e (width_some n)

  pub narrow : w ≤ 2
  narrow = rw e (width_few n)
