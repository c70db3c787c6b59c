-- One type of a block by index, and which types are allowed or lean.
-- Assumes nothing.
use mathlib.Core.Path.{◌≡◌, refl, sym, ◌∙◌}
use Prim.Native.Nat.{ℕ, suc, ◌+◌, ◌/◌, ◌%◌, ◌≤◌, ◌<◌}
use native.Mathlib.Nat.{div-one, mod-one, pow-zero, div-lt_iff_lt-mul, lt-div-mul-add, zero-lt-suc}
use mathlib.Core.Bool.{Bool, true, false, not, ◌&&◌}
use mathlib.Core.List.{List}
use lib.ListN.{length, drop, get_or}
use lib.Seq.{get_or-drop}
use lib.Dec.{eqb}
use mir.Syntax.{w8, w64}
use mir.Val.{Fits}
use native.Mathlib.Omega.{arith}
use borrow.Author.Tests.{eq-eqb, ne_eqb, not-false}
use Rattle.format.specs.declared.BlockVariant.{BlockVariant}
use Rattle.format.specs.Base.{pick}
use Rattle.format.specs.Packed.{Bits, four, eight, more, packed_size}
use Rattle.format.specs.Body.{kind_of, type_leans}
use Rattle.format.specs.Layout.{bits_allowed, type_allowed}
use Rattle.head_index.specs.NumbersAt.{digit_at}

-- ---- one type

pub half_inside : (bs : List ℕ) (at i : ℕ) (half : Bool) → half ≡ true → at + i / suc (more (pick half four eight)) < length bs → at + i / 2 < length bs
half_inside bs at i half e h = simp e at h

pub whole_inside : (bs : List ℕ) (at i : ℕ) (half : Bool) → half ≡ false → at + i / suc (more (pick half four eight)) < length bs → at + i < length bs
whole_inside bs at i half e h = simp (e, div-one) at h

pub whole_fits : (bs : List ℕ) (at i : ℕ) (half : Bool) → half ≡ false → at + i / suc (more (pick half four eight)) < length bs → Fits w64 (length bs)
    → Fits w64 (at + i)
whole_fits bs at i half e h l = omega (arith, whole_inside bs at i half e h)

-- of an even number, the low half of its byte
pub low_half : (bs : List ℕ) (at i : ℕ) (half : Bool) → half ≡ true → i % 2 ≡ 0
    → get_or bs (at + i / 2) 0 % 16 ≡ digit_at (pick half four eight) (drop at bs) i
unfolding digit_at
low_half bs at i half e h = simp (e, get_or-drop, h, pow-zero, div-one)

-- of an odd one, the high half
pub high_half : (bs : List ℕ) (at i : ℕ) (half : Bool) → half ≡ true → (i % 2 ≡ 0 → ⊥) → ((i : ℕ) → Fits w8 (get_or bs i 0))
    → get_or bs (at + i / 2) 0 / 16 ≡ digit_at (pick half four eight) (drop at bs) i
unfolding digit_at
high_half bs at i half e n y =
    let h : i % 2 ≡ 1 = omega arith in
    simp (e, get_or-drop, h) (omega (arith, y (at + i / 2)))

-- a byte of its own
pub whole_byte : (bs : List ℕ) (at i : ℕ) (half : Bool) → half ≡ false → ((i : ℕ) → Fits w8 (get_or bs i 0))
    → get_or bs (at + i) 0 ≡ digit_at (pick half four eight) (drop at bs) i
unfolding digit_at
whole_byte bs at i half e y = simp (e, get_or-drop, mod-one, pow-zero, div-one) (omega (arith, y (at + i)))

pub ruleset type_laws = (half_inside, whole_inside, whole_fits, low_half, high_half, whole_byte)

-- one of n types stands in the array
pub stands : (bs : List ℕ) (at n : ℕ) (bits : Bits) (i : ℕ) → at + packed_size bits n ≤ length bs → i < n → at + i / suc (more bits) < length bs
stands bs at n bits i h g =
    let m : ℕ = more bits in
    let q : i / suc m < (n + m) / suc m = (div-lt_iff_lt-mul (zero-lt-suc m)).1 (omega (arith, lt-div-mul-add {a = n + m} (zero-lt-suc m))) in
    omega arith

-- ---- which are allowed

and_false : (t : Bool) → t && false ≡ false
and_false true = refl
and_false false = refl

module _ (i : BlockVariant) (type kind : ℕ) (e : kind ≡ kind_of type) {bits : Bool} (b : bits ≡ bits_allowed type) (t : not bits ≡ false) where
  bits_right : bits_allowed type ≡ true
  bits_right = sym b ∙ not-false bits t

  module _ (n : kind ≡ 5 → ⊥) where
    not_5 : eqb (kind_of type) 5 ≡ false
    not_5 = ne_eqb (kind_of type) 5 (λ z. n (e ∙ z))

    pub alone_allowed : {lean : Bool} → lean ≡ type_leans type → lean ≡ false → true ≡ type_allowed i type
    alone_allowed l t = simp (bits_right, not_5, sym l ∙ t, and_false (eqb i.0 0))

    pub later_allowed : (i.0 ≡ 0 → ⊥) → true ≡ type_allowed i type
    later_allowed z = simp (bits_right, not_5, ne_eqb i.0 0 z)

-- whatever leans is none of those
pub leaner_refused : (i : BlockVariant) (type : ℕ) → i.0 ≡ 0 → type_leans type ≡ true → type_allowed i type ≡ false
leaner_refused i type z l = simp (eq-eqb i.0 0 z, l) (never (bits_allowed type) (not (eqb (kind_of type) 5)))
  where
    never : (s t : Bool) → s && (t && false) ≡ false
    never true t = and_false t
    never false t = refl
