-- A packed array at a place of a list: what it reads where it fits, and its refusals 12 and 18.
-- Assumes nothing.
use mathlib.Core.Path.{◌≡◌}
use Prim.Native.Nat.{ℕ, ◌+◌, ◌-◌, ◌≤◌, ◌<◌}
use mathlib.Core.List.{List}
use lib.ListN.{get_or, length, drop}
use borrow.Author.Tests.{eq-eqb, ne_eqb}
use Rattle.format.specs.Base.{ok, refuse}
use Rattle.format.specs.Packed.{Bits, packed_size, read_packed}
use Rattle.head_index.specs.NumbersAt.{digits_at}
use Rattle.head_index.proofs.ByIndex.{bytes_of}
use Rattle.head_index.proofs.UnusedBits.{packed_there_at, packed_amiss_at, packed_short_at}
use Rattle.read_packed.specs.Arrays.{unused}

module _ (bits : Bits) (l : List ℕ) (y : (i : ℕ) → get_or l i 0 < 256) (v n : ℕ) where
  pub array_fits : v + packed_size bits n ≤ length l → unused bits l v n ≡ 0
      → read_packed (length l) bits n (drop v l) ≡ ok (digits_at bits (drop v l) 0 n) (drop (v + packed_size bits n) l)
  unfolding unused
  array_fits h z = packed_there_at bits n v l (bytes_of l y) h (eq-eqb (unused bits l v n) 0 z)

  pub array_unused : v + packed_size bits n ≤ length l → (unused bits l v n ≡ 0 → ⊥)
      → read_packed (length l) bits n (drop v l) ≡ refuse 18 (v + packed_size bits n - 1)
  unfolding unused
  array_unused h z = packed_amiss_at bits n v l (bytes_of l y) h (ne_eqb (unused bits l v n) 0 z)

pub array_short : (bits : Bits) (l : List ℕ) (v n : ℕ) → length l < v + packed_size bits n → v ≤ length l
    → read_packed (length l) bits n (drop v l) ≡ refuse 12 (length l)
array_short bits l v n = packed_short_at bits n v l
