-- What each return of the code says, from the tests that led to it.
-- Assumes nothing.
use mathlib.Core.Path.{◌≡◌, refl, ◌∙◌, sym}
use Prim.Native.Nat.{ℕ, suc, ◌+◌, ◌*◌, ◌/◌, ◌%◌, ◌^◌, ◌≤◌, ◌<◌}
use native.Mathlib.Nat.{mul-le-mul, zero-div, zero-mod}
use mir.Syntax.{w8, w64}
use mir.Val.{Fits}
use native.Mathlib.Omega.{arith}
use mathlib.Core.Bool.{Bool, true, false}
use mathlib.Core.List.{List}
use lib.ListN.{length, get_or, drop, get_or-eq_default}
use lib.Seq.{get_or-drop}
use Rattle.format.specs.declared.FileVariant.{FileVariant}
use Rattle.format.specs.declared.BlockVariant.{BlockVariant}
use Rattle.format.specs.declared.Fields.{Fields}
use Rattle.format.specs.Base.{pick}
use Rattle.format.specs.Packed.{four, eight, more, packed_size}
use Rattle.format.specs.Variant.{block_of, in_block}
use Rattle.format.specs.Layout.{Fixed, unblocked, fixed_type, fixed_size}
use Rattle.format.specs.Header.{type_place}
use Rattle.head_index.specs.NumbersAt.{number_at, digit_at}
use Rattle.head_index.specs.VariantsAt.{lengths_place, type_at, length_at}
use Rattle.head_numbers.proofs.Sums.{low_bytes}
use Rattle.head_blocks.specs.declared.Blocks.{Blocks}
use Rattle.head_blocks.specs.Parts.{fixed, blocks_of, BlocksSmall, count_in}
use Rattle.head_blocks.proofs.Answers.{holds, fails}
use Rattle.head_blocks.proofs.Places.{place_small}
use Rattle.head_blocks.proofs.Sizes.{types_small}
use Rattle.head_columns.proofs.Arrangement.{place_laws, block_few, place_is, bits_are, width_is, lengths_place_is}
use Rattle.head_records.specs.Extent.{record_type, record_size}

-- ---- a number of 1 to 4 bytes, from the four at its place

-- the first w of w + k
pub first_bytes : (w k at width : ℕ) (bs : List ℕ) {n : ℕ} → width ≡ w → ((i : ℕ) → Fits w8 (get_or bs i 0)) → n ≡ number_at (w + k) (drop at bs)
    → n % 256 ^ w ≡ number_at width (drop at bs)
first_bytes w k at width bs d y e = rw d (low_bytes w k at bs y e)

-- ---- a variant's type and length, where there are blocks

pub below_most : {n m : ℕ} → n < m → m ≤ 16777216 → n < 16777216
below_most l m = omega arith

module _ (bs : List ℕ) (v : FileVariant) {b : Blocks} (f : Fixed) (e : b ≡ blocks_of f) where
  module _ {block : ℕ} (p : block ≡ block_of 65536 v) {i : BlockVariant} (q : i ≡ in_block 65536 v) where
    -- the byte that holds its type
    type_byte : b.at + block * b.full + i.0 / suc (more (pick b.half four eight)) ≡ type_place 65536 f v
    unfolding type_place
    type_byte = rw (p, q, place_is b f e (block_of 65536 v), bits_are b f e)

    pub type_inside : {place : ℕ} → place < length bs → ((f₁ : Fixed) → b ≡ blocks_of f₁ → place ≡ type_place 65536 f₁ v)
        → b.at + block * b.full + i.0 / suc (more (pick b.half four eight)) < length bs
    type_inside l d = omega (arith, type_byte, d f e)

    pub type_is : {type : ℕ} → type ≡ digit_at (pick b.half four eight) (drop (b.at + block * b.full) bs) i.0 → type ≡ type_at 65536 f bs v
    unfolding digit_at type_at type_place
    type_is k = k ∙ rw (get_or-drop, p, q, place_is b f e (block_of 65536 v), bits_are b f e)

  -- past the end
  pub type_past : {place : ℕ} → length bs ≤ place → ((f₁ : Fixed) → b ≡ blocks_of f₁ → place ≡ type_place 65536 f₁ v) → 0 ≡ type_at 65536 f bs v
  unfolding type_at
  type_past l d = sym (rw (get_or-eq_default bs 0 {n = type_place 65536 f v} (omega (arith, d f e)), zero-div, zero-mod))

pub ruleset type_laws = (place_laws, below_most, type_inside, type_is, type_past)

-- where its block's lengths start, which is no large number
module _ (f : Fields) (v : FileVariant) {b : Blocks} (e : b ≡ blocks_of (fixed f)) {block : ℕ} (p : block ≡ block_of 65536 v) {n : ℕ}
    (c : n ≡ count_in f.variants block) {size : ℕ} (s : size ≡ packed_size (pick b.half four eight) n) where
  pub lengths_start : b.at + block * b.full + size ≡ lengths_place 65536 (fixed f) (block_of 65536 v)
  lengths_start = rw (s, c, lengths_place_is f.variants b (fixed f) refl e block, p) refl

  module _ (h : BlocksSmall b) (m : f.variants ≤ 16777216) (l : v.0 < f.variants) (k : n ≤ 65536) where
    pub lengths_start_small : b.at + block * b.full + size ≤ 100730892
    lengths_start_small = omega (arith, place_small h (block_few v (below_most l m) p), s, types_small n b.half)

    pub lengths_start_fits : Fits w64 (b.at + block * b.full + size)
    lengths_start_fits = omega (arith, lengths_start_small)

pub ruleset lengths_laws = (place_laws, below_most, lengths_start, lengths_start_small, lengths_start_fits)

module _ (v : FileVariant) {b : Blocks} {i : BlockVariant} (h : BlocksSmall b) (q : i ≡ in_block 65536 v) where
  widths : b.width * i.0 ≤ 262144
  widths = rw q (mul-le-mul {n₁ = b.width} {m₁ = v.0 % 65536} {n₂ = 4} {m₂ = 65536} h.width_most (omega arith))

  pub widths_fit : Fits w64 (b.width * i.0)
  widths_fit = omega (arith, widths)

  pub length_place_small : {place : ℕ} → place ≤ 100730892 → place + b.width * i.0 ≤ 4294967296
  length_place_small l = omega (arith, widths)

  pub length_place_fits : {place : ℕ} → place ≤ 100730892 → Fits w64 (place + b.width * i.0)
  length_place_fits l = omega (arith, widths)

pub length_is : (f : Fields) (bs : List ℕ) (v : FileVariant) {b : Blocks} {place : ℕ} {i : BlockVariant} {r : ℕ} → b ≡ blocks_of (fixed f)
    → place ≡ lengths_place 65536 (fixed f) (block_of 65536 v) → i ≡ in_block 65536 v → r ≡ number_at b.width (drop (place + b.width * i.0) bs)
    → r ≡ length_at 65536 (fixed f) bs v
unfolding length_at
length_is f bs v {b} e p q w = w ∙ rw (p, q, width_is b (fixed f) e)

pub ruleset length_laws = (widths_fit, length_place_small, length_place_fits, length_is)

-- ---- in both modes

module _ (f : Fields) (bs : List ℕ) (v : FileVariant) {t : Bool} (d : t ≡ unblocked f.mode) where
  pub type_same : t ≡ true → {type : ℕ} → type ≡ fixed_type (fixed f) → type ≡ record_type 65536 (fixed f) bs v
  unfolding record_type
  type_same e k = k ∙ simp (holds d e)

  pub type_stored : t ≡ false → {type : ℕ} → type ≡ type_at 65536 (fixed f) bs v → type ≡ record_type 65536 (fixed f) bs v
  unfolding record_type
  type_stored e k = k ∙ simp (fails d e)

  pub size_same : t ≡ true → {size : ℕ} → size ≡ fixed_size (fixed f) → size ≡ record_size 65536 (fixed f) bs v
  unfolding record_size
  size_same e s = s ∙ simp (holds d e)

  pub size_stored : t ≡ false → {size : ℕ} → size ≡ length_at 65536 (fixed f) bs v → size ≡ record_size 65536 (fixed f) bs v
  unfolding record_size
  size_stored e s = s ∙ simp (fails d e)

pub ruleset mode_laws = (fails, type_same, type_stored, size_same, size_stored)
