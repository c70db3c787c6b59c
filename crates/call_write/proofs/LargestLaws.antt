-- A bound of all categories, gathered one by one, and what it tells of the first above 3.
-- Assumes nothing.
use mathlib.Core.Path.{◌≡◌, refl, ap}
use Prim.Native.Nat.{ℕ, suc, ◌≤◌, ◌<◌}
use native.Mathlib.Omega.{arith}
use mathlib.Core.List.{List, [], ◌∷◌}
use lib.ListN.{length, get_or}
use borrow.Author.Tests.{lt-ltb}
use Rattle.call_write.specs.Checked.{first_above}

-- the first n categories are at most `most`
abbrev pub Bounds : List ℕ → ℕ → ℕ → Type 0
Bounds categories n most = (i : ℕ) → i < n → get_or categories i 0 ≤ most

-- before category i
pub record Going (categories : List ℕ) (most i : ℕ) : Type 0 where
  pub upto : i ≤ length categories
  pub bounds : Bounds categories i most

-- if the largest is not above 3, none is
pub none_above : (categories : List ℕ) (most : ℕ) → most ≤ 3 → Bounds categories (length categories) most → length categories ≡ first_above categories
unfolding first_above
none_above [] most h f = refl
none_above (category ∷ categories) most h f =
    simp (lt-ltb category 4 (omega (arith, f 0 (omega arith)))) (ap suc (none_above categories most h (λ i p. f (suc i) (omega arith))))
