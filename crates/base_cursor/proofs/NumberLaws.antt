-- A number of one byte or two, and a cursor moved on.
-- Assumes nothing.
use mathlib.Core.Path.{◌≡◌, refl}
use Prim.Native.Nat.{ℕ, ◌+◌, ◌*◌, ◌≤◌, ◌<◌}
use native.Mathlib.Omega.{arith}
use mathlib.Core.List.{List}
use lib.ListN.{drop, get_or}
use mir.Syntax.{w8, w64}
use mir.Val.{Fits}
use Rattle.head_index.specs.NumbersAt.{number_at}
use Rattle.head_index.proofs.ByIndex.{low_byte, high_byte}
use Rattle.base_cursor.specs.Steps.{cursor_at, number_step}
use Rattle.base_cursor.specs.declared.NumberStep.{NumberStep}

module _ (w : ℕ) (l : List ℕ) (p : ℕ) where
  abbrev Gives : ℕ → ℕ → Type 0
  Gives value next = ◌≡◌ {A = NumberStep} (record { value = value; next = cursor_at next }) (number_step w l p)

  pub number_one : w ≡ 1 → Gives (get_or l p 0) (p + 1)
  number_one h = rw (h, ← low_byte p l refl)

  pub number_two : (w ≡ 1 → ⊥) → 0 < w → w ≤ 2 → Gives (get_or l (p + 1) 0 * 256 + get_or l p 0) (p + 2)
  number_two z h g =
      let k : w ≡ 2 = omega arith in
      let e : get_or l p 0 + 256 * get_or l (p + 1) 0 ≡ number_at 2 (drop p l) = high_byte 1 p l (low_byte p l refl) refl in
      let f : get_or l (p + 1) 0 * 256 + get_or l p 0 ≡ number_at 2 (drop p l) = omega arith in
      rw (k, ← f)

module _ (l : List ℕ) (known : (i : ℕ) → Fits w8 (get_or l i 0)) where
  pub byte_fits : (i : ℕ) → Fits w64 (get_or l i 0)
  byte_fits i = omega (arith, (known i).fits)

  pub high_fits : (i : ℕ) → Fits w64 (get_or l i 0 * 256)
  high_fits i = omega (arith, (known i).fits)

  pub number_fits : (i j : ℕ) → Fits w64 (get_or l i 0 * 256 + get_or l j 0)
  number_fits i j = omega (arith, (known i).fits, (known j).fits)

pub ruleset number_laws = (number_one, number_two, byte_fits, high_fits, number_fits)
