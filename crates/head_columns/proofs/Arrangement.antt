-- The numbers that the loops over blocks go by are those of the header.
-- Assumes nothing.
use mathlib.Core.Path.{◌≡◌, refl, ap}
use Prim.Native.Nat.{ℕ, ◌+◌, ◌*◌, ◌/◌, ◌%◌, ◌≤◌, ◌<◌}
use native.Mathlib.Nat.{zero-mul, div-one}
use mathlib.Core.Bool.{true, false}
use mathlib.Core.List.{List}
use lib.ListN.{length}
use mir.Syntax.{w64}
use mir.Val.{Fits}
use native.Mathlib.Omega.{arith}
use Rattle.format.specs.declared.FileVariant.{FileVariant}
use Rattle.format.specs.declared.BlockVariant.{BlockVariant}
use Rattle.format.specs.Base.{pick}
use Rattle.format.specs.Packed.{four, eight, packed_size}
use Rattle.format.specs.Variant.{block_of, in_block}
use Rattle.format.specs.Layout.{Fixed, form_of, block_size}
use Rattle.format.specs.Header.{block_place, type_place}
use Rattle.head_index.specs.VariantsAt.{block_variants, lengths_place}
use Rattle.head_blocks.specs.declared.Blocks.{Blocks}
use Rattle.head_blocks.specs.Parts.{blocks_of, count_in, BlocksFit, BlocksSmall}
use Rattle.head_blocks.proofs.Places.{place_small, blocks_before_fit, block_place_fits}

-- a block that there is
pub block_inside : (m j : ℕ) → j < (m + 65535) / 65536 → j * 65536 < m
block_inside m j h = omega arith

-- a file has few blocks
pub few_blocks : (j : ℕ) {m : ℕ} → m ≤ 16777216 → j < (m + 65535) / 65536 → j ≤ 256
few_blocks j l h = omega arith

pub block_few : (v : FileVariant) {block : ℕ} → v.0 < 16777216 → block ≡ block_of 65536 v → block ≤ 256
block_few v l d = omega arith

-- in a whole file the offset of a block, its types, and its types and lengths are in the file
module _ {bs : List ℕ} {m : ℕ} {b : Blocks} (g : BlocksFit bs m b) {j : ℕ} (h : j < (m + 65535) / 65536) where
  pub offset_inside : 12 + 8 * j + 8 ≤ length bs
  offset_inside = g.after_offsets j (block_inside m j h)

  module _ {n : ℕ} (e : n ≡ count_in m j) where
    pub types_inside : b.at + j * b.full + packed_size (pick b.half four eight) n ≤ length bs
    unfolding block_size
    types_inside = rw e (omega (arith, g.each j (block_inside m j h)))

    module _ {size : ℕ} (d : size ≡ packed_size (pick b.half four eight) n) where
      pub lengths_inside : b.at + j * b.full + size + b.width * n ≤ length bs
      unfolding block_size
      lengths_inside = rw (d, e) (omega (arith, g.each j (block_inside m j h)))

      pub lengths_place_fits : Fits w64 (length bs) → Fits w64 (b.at + j * b.full + size)
      lengths_place_fits l = omega (arith, lengths_inside)

pub ruleset arrangement_laws = (few_blocks, blocks_before_fit, block_place_fits, offset_inside, types_inside, lengths_inside, lengths_place_fits)

module _ (b : Blocks) (f : Fixed) (e : b ≡ blocks_of f) where
  -- where block j starts
  pub place_is : (j : ℕ) → b.at + j * b.full ≡ block_place 65536 f j
  unfolding block_place
  place_is j = rw e (omega (arith, zero-mul (block_size (form_of f) 65536)))

  -- its types
  pub bits_are : pick b.half four eight ≡ (form_of f).type_bits
  bits_are = rw e refl

  -- its lengths
  pub width_is : b.width ≡ (form_of f).length_width
  width_is = rw e refl

-- how many variants block j has
pub count_is : (m : ℕ) (f : Fixed) → m ≡ f.variants → (j : ℕ) → count_in m j ≡ block_variants 65536 f j
unfolding block_variants
count_is m f e j = rw e refl

pub lengths_place_is : (m : ℕ) (b : Blocks) (f : Fixed) → m ≡ f.variants → b ≡ blocks_of f → (j : ℕ)
    → b.at + j * b.full + packed_size (pick b.half four eight) (count_in m j) ≡ lengths_place 65536 f j
unfolding lengths_place
lengths_place_is m b f d e j = rw (place_is b f e j, bits_are b f e, count_is m f d j) refl

-- the byte of a type, of 4 bits or of 8
module _ {b : Blocks} (s : BlocksSmall b) {block : ℕ} (h : block ≤ 256) (v : FileVariant) {i : BlockVariant} (k : i ≡ in_block 65536 v) where
  pub half_place_fits : Fits w64 (b.at + block * b.full + i.0 / 2)
  half_place_fits = rw k (omega (arith, place_small s h))

  pub whole_place_fits : Fits w64 (b.at + block * b.full + i.0)
  whole_place_fits = rw k (omega (arith, place_small s h))

module _ (b : Blocks) (v : FileVariant) {block : ℕ} {i : BlockVariant} (d : block ≡ block_of 65536 v) (k : i ≡ in_block 65536 v) where
  pub half_place : b.half ≡ true → (f : Fixed) → b ≡ blocks_of f → b.at + block * b.full + i.0 / 2 ≡ type_place 65536 f v
  unfolding type_place
  half_place h f e =
      let t : pick b.half four eight ≡ four = rw h refl in
      rw (d, k, ← bits_are b f e, t) (ap (λ (x : ℕ). x + v.0 % 65536 / 2) (place_is b f e (block_of 65536 v)))

  pub whole_place : b.half ≡ false → (f : Fixed) → b ≡ blocks_of f → b.at + block * b.full + i.0 ≡ type_place 65536 f v
  unfolding type_place
  whole_place h f e =
      let t : pick b.half four eight ≡ eight = rw h refl in
      rw (d, k, ← bits_are b f e, t, div-one) (ap (λ (x : ℕ). x + v.0 % 65536) (place_is b f e (block_of 65536 v)))

pub ruleset place_laws = (block_few, blocks_before_fit, block_place_fits, half_place_fits, whole_place_fits, half_place, whole_place)
