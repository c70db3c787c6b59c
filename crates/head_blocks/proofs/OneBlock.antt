-- The unused bits of one block's arrays: types, then flags.
-- Assumes nothing.
use mathlib.Core.Path.{◌≡◌}
use Prim.Native.Nat.{ℕ, ◌+◌, ◌-◌, ◌*◌, ◌≤◌}
use native.Mathlib.Nat.{div-one}
use mathlib.Core.Bool.{Bool, true, false}
use mathlib.Core.List.{List, []}
use lib.ListN.{length, drop}
use lib.Dec.{eqb}
use mir.Syntax.{w64}
use mir.Val.{Fits}
use native.Mathlib.Omega.{arith}
use Rattle.format.specs.Base.{pick, Out, ok, refuse}
use Rattle.format.specs.Packed.{one, four, eight, packed_size}
use Rattle.format.specs.Layout.{block_size}
use Rattle.head_index.specs.NumbersAt.{unused_bits}
use Rattle.head_index.specs.Rules.{need_unused}
use Rattle.head_blocks.specs.Parts.{form_from}
use Rattle.head_blocks.proofs.Answers.{granted, denied}
use Rattle.head_blocks.proofs.Sizes.{known_bytes, lengths_fit}

-- some types take some bytes
types_some : (n : ℕ) (half : Bool) → 1 ≤ n → 1 ≤ packed_size (pick half four eight) n
types_some n true h = omega arith
types_some n false h = rw div-one (omega arith)

-- ---- the block's arrays are in the file

module _ (bs : List ℕ) (place n : ℕ) (half : Bool) (width : ℕ) (stored : Bool) (h : place + block_size (form_from half width stored) n ≤ length bs) where
  pub types_inside : place + packed_size (pick half four eight) n ≤ length bs
  unfolding block_size
  types_inside = omega arith

  module _ {size : ℕ} (e : size ≡ packed_size (pick half four eight) n) where
    pub flags_inside : place + (size + width * n) + packed_size one (pick stored n 0) ≤ length bs
    unfolding block_size
    flags_inside = omega arith

    pub types_fit : Fits w64 (length bs) → Fits w64 (place + size)
    types_fit l = omega (arith, flags_inside)

    pub types_lengths_fit : Fits w64 (length bs) → Fits w64 (size + width * n)
    types_lengths_fit l = omega (arith, flags_inside)

    pub flags_place_fits : Fits w64 (length bs) → Fits w64 (place + (size + width * n))
    flags_place_fits l = omega (arith, flags_inside)

-- the last byte of its types, and of all
pub types_last : (place n : ℕ) (half : Bool) {size : ℕ} → 1 ≤ n → size ≡ packed_size (pick half four eight) n → 1 ≤ place + size
types_last place n half h e = omega (arith, types_some n half h)

pub block_last : (place n : ℕ) (half : Bool) (width : ℕ) (stored : Bool) {all : ℕ} → 1 ≤ n → all ≡ block_size (form_from half width stored) n → 1 ≤ place + all
unfolding block_size
block_last place n half width stored h e = omega (arith, types_some n half h)

-- ---- what the looks at its unused bits say

module _ (bs : List ℕ) (place n : ℕ) (half : Bool) (width : ℕ) (stored : Bool) {size : ℕ} (e : size ≡ packed_size (pick half four eight) n) where
  -- unused bits of the types are set
  pub types_amiss : eqb (unused_bits (pick half four eight) n (drop place bs)) 0 ≡ false
      → ◌≡◌ {A = Out (Unit {0})} (refuse 7 (place + size - 1)) (need_unused (form_from half width stored) place n bs (ok tt []))
  unfolding need_unused
  types_amiss f = rw e (simp f)

  module _ (t : eqb (unused_bits (pick half four eight) n (drop place bs)) 0 ≡ true) where
    -- of the flags
    pub flags_amiss : {all : ℕ} → all ≡ block_size (form_from half width stored) n
        → eqb (unused_bits one (pick stored n 0) (drop (place + (size + width * n)) bs)) 0 ≡ false
        → ◌≡◌ {A = Out (Unit {0})} (refuse 7 (place + all - 1)) (need_unused (form_from half width stored) place n bs (ok tt []))
    unfolding need_unused
    flags_amiss k f = rw k (simp (t, rw e at f))

    -- none are
    pub all_clear : eqb (unused_bits one (pick stored n 0) (drop (place + (size + width * n)) bs)) 0 ≡ true
        → ◌≡◌ {A = Out (Unit {0})} (ok tt []) (need_unused (form_from half width stored) place n bs (ok tt []))
    unfolding need_unused
    all_clear f = simp (t, rw e at f)

-- what a block's arrays take
pub ruleset room_laws = (known_bytes, lengths_fit, types_inside, flags_inside, types_fit, types_lengths_fit, flags_place_fits, types_last, block_last)

pub ruleset unused_laws = (room_laws, granted, denied, types_amiss, flags_amiss, all_clear)
