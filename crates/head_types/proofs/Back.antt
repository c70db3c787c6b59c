-- One turn of the loop of `nearest_before`.
-- Assumes nothing.
use mathlib.Core.Path.{◌≡◌, refl, sym, ap, ◌∙◌}
use Prim.Native.Nat.{ℕ, zero, suc, ◌+◌, ◌-◌, ◌/◌, ◌≤◌, ◌<◌}
use native.Mathlib.Nat.{zero-add, add-zero}
use mathlib.Core.Bool.{Bool, true, false, not}
use mathlib.Core.List.{List}
use lib.ListN.{length, get_or, drop}
use native.Mathlib.Omega.{arith}
use borrow.Author.Tests.{not-true, not-false}
use Rattle.format.specs.Base.{pick}
use Rattle.format.specs.Packed.{Bits, more, packed_size}
use Rattle.format.specs.Body.{type_leans}
use Rattle.format.specs.Variant.{block_variant, last_standing}
use Rattle.head_index.specs.NumbersAt.{digit_at, digits_at}
use Rattle.head_types.proofs.Types.{stands}

-- one of the numbers by index
digits_get : (bits : Bits) (i n k : ℕ) (bs : List ℕ) → k < n → get_or (digits_at bits bs i n) k 0 ≡ digit_at bits bs (i + k)
unfolding digits_at
digits_get bits i zero k bs h = absurd (omega arith)
digits_get bits i (suc n) zero bs h = ap (digit_at bits bs) (sym (add-zero i))
digits_get bits i (suc n) (suc k) bs h =
    let step : i + 1 + k ≡ i + suc k = omega arith in
    digits_get bits (i + 1) n k bs (omega arith) ∙ ap (digit_at bits bs) step

-- a block's first n types
abbrev pub first_types : List ℕ → ℕ → ℕ → Bits → List ℕ
first_types bs at n bits = digits_at bits (drop at bs) 0 n

-- the types from k on lean
pub record Backing (bs : List ℕ) (at n : ℕ) (bits : Bits) (k : ℕ) : Type 0 where
  pub inside : k ≤ n
  pub same : last_standing (first_types bs at n bits) k ≡ last_standing (first_types bs at n bits) n

-- the type before decides
one_back : (types : List ℕ) (k : ℕ) → zero < k
    → last_standing types k ≡ pick (type_leans (get_or types (k - 1) 0)) (last_standing types (k - 1)) (block_variant (k - 1))
unfolding last_standing
one_back types zero h = absurd (omega arith)
one_back types (suc k) h = let e : suc k - 1 ≡ k = omega arith in rw e refl

-- none of them yet
pub starts : (bs : List ℕ) (at n : ℕ) (bits : Bits) → Backing bs at n bits n
starts bs at n bits = record { inside = omega arith; same = refl }

module _ {bs : List ℕ} {at n : ℕ} {bits : Bits} {k : ℕ} (g : Backing bs at n bits k) where
  -- all lean
  pub ends : k ≤ zero → block_variant 0 ≡ last_standing (first_types bs at n bits) n
  unfolding last_standing
  ends h = let e : k ≡ 0 = omega arith in rw e at g.same

  module _ (p : zero < k) where
    -- it stands in the array
    pub stands_before : at + packed_size bits n ≤ length bs → at + (k - 1) / suc (more bits) < length bs
    stands_before h = stands bs at n bits (k - 1) h (omega (arith, g.inside))

    module _ {type : ℕ} {lean : Bool} (d : type ≡ digit_at bits (drop at bs) (k - 1)) (e : lean ≡ type_leans type) where
      next : {t : Bool} → lean ≡ t
          → pick t (last_standing (first_types bs at n bits) (k - 1)) (block_variant (k - 1)) ≡ last_standing (first_types bs at n bits) n
      next y =
          let same : get_or (first_types bs at n bits) (k - 1) 0 ≡ digit_at bits (drop at bs) (k - 1)
          = digits_get bits 0 n (k - 1) (drop at bs) (omega (arith, g.inside)) ∙ ap (digit_at bits (drop at bs)) (zero-add (k - 1)) in
          rw (← y, e, d, ← same, ← one_back (first_types bs at n bits) k p) g.same

      -- it leans
      pub goes_on : not lean ≡ false → Backing bs at n bits (k - 1)
      goes_on y = record { inside = omega (arith, g.inside); same = next (not-false lean y) }

      -- it does not
      pub stops : not lean ≡ true → block_variant (k - 1) ≡ last_standing (first_types bs at n bits) n
      stops y = next (not-true lean y)

pub ruleset back_laws = (starts, ends, stands_before, goes_on, stops)
