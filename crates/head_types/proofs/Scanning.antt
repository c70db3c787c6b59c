-- One turn of the loop of `scan`.
-- Assumes nothing.
use Rattle.std.specs.Prelude.{Some, None}
use mathlib.Core.Path.{◌≡◌, refl}
use Prim.Native.Nat.{ℕ, suc, ◌+◌, ◌-◌, ◌≤◌, ◌<◌}
use native.Mathlib.Numerals.{add-one}
use mathlib.Core.Bool.{Bool, true, false, not}
use mathlib.Core.List.{List}
use lib.ListN.{drop}
use native.Mathlib.Omega.{arith}
use borrow.Author.Tests.{not-true, not-false}
use Rattle.format.specs.Base.{pick}
use Rattle.format.specs.Packed.{Bits}
use Rattle.format.specs.Variant.{block_variant}
use Rattle.format.specs.Layout.{type_allowed}
use Rattle.head_index.specs.NumbersAt.{digit_at, digits_at}
use Rattle.head_index.specs.Rules.{bad_in_block}
use Rattle.head_types.proofs.Types.{stands}

-- the first i types are allowed
pub record Scanning (bs : List ℕ) (at n : ℕ) (bits : Bits) (i : ℕ) : Type 0 where
  pub inside : i ≤ n
  pub same : bad_in_block (block_variant i) (digits_at bits (drop at bs) i (n - i)) ≡ bad_in_block (block_variant 0) (digits_at bits (drop at bs) 0 n)

-- none yet
pub starts : (bs : List ℕ) (at n : ℕ) (bits : Bits) → Scanning bs at n bits 0
starts bs at n bits = let e : n - 0 ≡ n = omega arith in record { inside = omega arith; same = rw e refl }

-- the next type decides
pub next_type : (bs : List ℕ) (n : ℕ) (bits : Bits) (i : ℕ) → i < n
    → bad_in_block (block_variant i) (digits_at bits bs i (n - i))
    ≡ pick (type_allowed (block_variant i) (digit_at bits bs i)) (bad_in_block (block_variant (suc i)) (digits_at bits bs (suc i) (n - suc i)))
    (Some (block_variant i))
unfolding bad_in_block digits_at
next_type bs n bits i h = let e : n - i ≡ suc (n - suc i) = omega arith in rw (e, add-one) refl

module _ {bs : List ℕ} {at n : ℕ} {bits : Bits} {i : ℕ} (g : Scanning bs at n bits i) where
  module _ {type : ℕ} {allowed : Bool} (h : i < n) (d : type ≡ digit_at bits (drop at bs) i) (e : allowed ≡ type_allowed (block_variant i) type) where
    next : {t : Bool} → allowed ≡ t → pick t (bad_in_block (block_variant (suc i)) (digits_at bits (drop at bs) (suc i) (n - suc i))) (Some (block_variant i))
        ≡ bad_in_block (block_variant 0) (digits_at bits (drop at bs) 0 n)
    next y = rw (← y, e, d, ← next_type (drop at bs) n bits i h) g.same

    -- it is allowed
    pub goes_on : not allowed ≡ false → Scanning bs at n bits (i + 1)
    goes_on y = rw add-one (record { inside = h; same = next (not-false allowed y) })

    -- it is not
    pub stops : not allowed ≡ true → Some (block_variant i) ≡ bad_in_block (block_variant 0) (digits_at bits (drop at bs) 0 n)
    stops y = next (not-true allowed y)

  -- all are
  pub ends : n ≤ i → None ≡ bad_in_block (block_variant 0) (digits_at bits (drop at bs) 0 n)
  unfolding bad_in_block digits_at
  ends h = let e : n - i ≡ 0 = omega arith in rw e at g.same

pub ruleset scan_laws = (starts, goes_on, stops, ends, stands)
