-- The unused bits of a packed array, by the one byte that can have some.
-- Assumes nothing.
use mathlib.Core.Path.{◌≡◌, refl, sym, ap, ◌∙◌}
use Prim.Native.Nat.{ℕ, suc, ◌+◌, ◌/◌, ◌%◌, ◌^◌}
use native.Mathlib.Nat.{mod-one}
use mathlib.Core.Bool.{Bool, true, false, not}
use mathlib.Core.List.{List}
use lib.ListN.{drop, get_or}
use lib.Dec.{eqb}
use native.Mathlib.Omega.{arith}
use borrow.Author.Tests.{eq-eqb, eqb-true, eqb-false}
use Rattle.format.specs.Base.{pick}
use Rattle.format.specs.Packed.{Bits, one, four, eight, more}
use Rattle.head_index.specs.NumbersAt.{unused_bits}
use Rattle.head_index.proofs.UnusedBits.{none_unused, some_unused}

-- ---- of any array

module _ (bits : Bits) (n place : ℕ) (bs : List ℕ) where
  pub none_set : n % suc (more bits) ≡ 0 → true ≡ eqb (unused_bits bits n (drop place bs)) 0
  none_set e = sym (eq-eqb (unused_bits bits n (drop place bs)) 0 (none_unused bits n (drop place bs) e))

-- what `value` says of the number of the values in the array: whether none of their last byte is left over
module _ (n k : ℕ) {value : Bool} (e : value ≡ eqb (n % k) 0) where
  full : value ≡ true → n % k ≡ 0
  full t = eqb-true (n % k) 0 (sym e ∙ t)

  part : value ≡ false → n % k ≡ 0 → ⊥
  part t z = eqb-false (n % k) 0 (sym e ∙ t) z

pub not_both : {value half : Bool} → half ≡ false → value ≡ not half → value ≡ false → ⊥
not_both {value} {half} h e t = let u : not half ≡ true = rw h refl in let z : true ≡ false = sym u ∙ sym e ∙ t in cc

-- ---- of types

module _ (half : Bool) (n place : ℕ) (bs : List ℕ) {value : Bool} where
  -- each has a byte of its own, or there is an even number of them
  pub whole_types : half ≡ false → value ≡ true → value ≡ eqb (unused_bits (pick half four eight) n (drop place bs)) 0
  whole_types h t = t ∙ none_set (pick half four eight) n place bs (rw h (mod-one n))

  module _ (h : half ≡ true) (e : value ≡ eqb (n % 2) 0) where
    pub even_types : value ≡ true → value ≡ eqb (unused_bits (pick half four eight) n (drop place bs)) 0
    even_types t = t ∙ none_set (pick half four eight) n place bs (rw h (full n 2 e t))

    pub odd_types : value ≡ false → eqb (get_or bs (place + n / 2) 0 / 16) 0 ≡ eqb (unused_bits (pick half four eight) n (drop place bs)) 0
    odd_types t =
        let z : n % 2 ≡ 0 → ⊥ = part n 2 e t in
        let r : n % 2 ≡ 1 = omega (arith, z) in
        rw h (ap (λ (x : ℕ). eqb x 0) (sym (rw r at (some_unused four n place bs z))))

-- ---- of flags

module _ (stored : Bool) (n place : ℕ) (bs : List ℕ) {value : Bool} where
  -- there are none, or they fill their bytes
  pub absent_flags : stored ≡ false → value ≡ true → value ≡ eqb (unused_bits one (pick stored n 0) (drop place bs)) 0
  absent_flags h t = t ∙ none_set one (pick stored n 0) place bs (rw h refl)

  module _ (h : stored ≡ true) (e : value ≡ eqb (n % 8) 0) where
    pub full_flags : value ≡ true → value ≡ eqb (unused_bits one (pick stored n 0) (drop place bs)) 0
    full_flags t = t ∙ none_set one (pick stored n 0) place bs (rw h (full n 8 e t))

    pub part_flags : value ≡ false → eqb (get_or bs (place + n / 8) 0 / 2 ^ (n % 8)) 0 ≡ eqb (unused_bits one (pick stored n 0) (drop place bs)) 0
    part_flags t = rw h (ap (λ (x : ℕ). eqb x 0) (sym (some_unused one n place bs (part n 8 e t))))
