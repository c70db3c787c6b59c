-- Where a block's arrays stand, and where the header ends.
-- Assumes nothing.
use mathlib.Core.Path.{◌≡◌, refl, ◌∙◌}
use Prim.Native.Nat.{ℕ, ◌+◌, ◌*◌, ◌/◌, ◌%◌, ◌≤◌}
use native.Mathlib.Nat.{zero-mul, mul-le-mul}
use native.Mathlib.Numerals.{add-one}
use mathlib.Core.Bool.{true, false}
use lib.Dec.{eqb, ltb, lit<}
use mir.Syntax.{w64}
use mir.Val.{Fits}
use native.Mathlib.Omega.{arith}
use Rattle.std.specs.Int.{div_ceil}
use Rattle.format.specs.declared.Fields.{Fields}
use Rattle.format.specs.Base.{pick}
use Rattle.format.specs.Packed.{one, packed_size}
use Rattle.format.specs.Layout.{Fixed, unblocked, form_of, block_count, block_size, header_end}
use Rattle.format.specs.Header.{block_place}
use Rattle.format.proofs.BlocksLaws.{block_count_is}
use Rattle.head_index.proofs.RefusalsByIndex.{arrays_size_blocked, arrays_size_unblocked}
use Rattle.head_blocks.specs.declared.Blocks.{Blocks}
use Rattle.head_blocks.specs.Parts.{fixed, blocks_of, BlocksSmall, form_from}
use Rattle.head_blocks.proofs.Answers.{holds, fails}
use Rattle.head_blocks.proofs.Sizes.{block_most}

-- the first block's arrays come after the offsets
place_zero : (f : Fixed) → block_place 65536 f 0 ≡ 12 + 8 * block_count 65536 f
unfolding block_place
place_zero f = omega (arith, zero-mul (block_size (form_of f) 65536))

first_place : (f : Fixed) → unblocked f.mode ≡ false → block_place 65536 f 0 ≡ 12 + 8 * ((f.variants + 65535) / 65536)
first_place f e = place_zero f ∙ rw (block_count_is 65536 f e) refl

-- the numbers that code computes
abbrev read_blocks : Fields → ℕ → ℕ → Blocks
read_blocks f blocks full = record {
  at = 12 + 8 * blocks;
  full = full;
  half = ltb (f.form % 16) 4;
  width = f.form % 4 + 1;
  stored = eqb (f.form / 64) 3;
}

-- are those of the header
module _ (f : Fields) {blocks : ℕ} (c : blocks ≡ div_ceil f.variants 65536) {full : ℕ}
    (d : full ≡ block_size (form_from (ltb (f.form % 16) 4) (f.form % 4 + 1) (eqb (f.form / 64) 3)) 65536) where
  pub blocks_are : unblocked f.mode ≡ false → ◌≡◌ {A = Blocks} (read_blocks f blocks full) (blocks_of (fixed f))
  blocks_are e =
      let n : blocks ≡ (f.variants + 65535) / 65536 = omega arith in
      rw (n, d, ← first_place (fixed f) e, add-one) refl

  pub blocks_small : f.variants ≤ 16777216 → BlocksSmall (read_blocks f blocks full)
  blocks_small l = record {
    at_most = omega arith;
    full_most = rw d (block_most 65536 (ltb (f.form % 16) 4) (f.form % 4 + 1) (eqb (f.form / 64) 3) (omega arith));
    width_least = omega arith;
    width_most = omega arith;
  }

pub ruleset blocks_laws = (blocks_are, blocks_small)

-- ---- where block j starts

module _ {b : Blocks} (s : BlocksSmall b) {j : ℕ} (h : j ≤ 256) where
  blocks_before : j * b.full ≤ 100663296
  blocks_before = mul-le-mul {n₁ = j} {m₁ = b.full} {n₂ = 256} {m₂ = 393216} h s.full_most

  pub place_small : b.at + j * b.full ≤ 100665356
  place_small = omega (arith, blocks_before, s.at_most)

  pub blocks_before_fit : Fits w64 (j * b.full)
  blocks_before_fit = omega (arith, blocks_before)

  pub block_place_fits : Fits w64 (b.at + j * b.full)
  block_place_fits = omega (arith, place_small)

-- ---- the header's end

-- with no blocks
pub unblocked_end : (f : Fields) {flags : ℕ} → unblocked f.mode ≡ true → flags ≡ packed_size one (pick (eqb (f.form / 64) 3) f.variants 0)
    → 12 + flags ≡ header_end 65536 (fixed f)
unblocked_end f e d = rw (arrays_size_unblocked 65536 (fixed f) e, d) refl

pub unblocked_end_small : (f : Fields) {flags : ℕ} → f.variants ≤ 16777216 → flags ≤ f.variants → 12 + flags ≤ 134217728
unblocked_end_small f l s = omega arith

-- with blocks: the full blocks and one more
pub full_blocks_few : (f : Fields) → f.variants ≤ 16777216 → f.variants / 65536 ≤ 256
full_blocks_few f l = omega arith

module _ (f : Fields) (b : Blocks) (l : f.variants ≤ 16777216) (s : BlocksSmall b) where
  full_blocks : f.variants / 65536 * b.full ≤ 100663296
  full_blocks = blocks_before s (full_blocks_few f l)

  module _ {last : ℕ} (k : last ≤ 6 * (f.variants % 65536)) where
    pub all_blocks_fit : Fits w64 (f.variants / 65536 * b.full + last)
    all_blocks_fit = omega (arith, full_blocks)

    pub blocked_end_small : b.at + (f.variants / 65536 * b.full + last) ≤ 134217728
    blocked_end_small = omega (arith, full_blocks, s.at_most)

    pub blocked_end_fits : Fits w64 (b.at + (f.variants / 65536 * b.full + last))
    blocked_end_fits = omega (arith, blocked_end_small)

pub blocked_end : (f : Fields) (b : Blocks) {last : ℕ} → unblocked f.mode ≡ false → b ≡ blocks_of (fixed f)
    → last ≡ block_size (form_from b.half b.width b.stored) (f.variants % 65536)
    → b.at + (f.variants / 65536 * b.full + last) ≡ header_end 65536 (fixed f)
blocked_end f b n e d = rw (d, e) (omega (arith, arrays_size_blocked 65536 (fixed f) (lit< tt) n, place_zero (fixed f)))

pub ruleset end_laws =
    (holds, fails, unblocked_end, unblocked_end_small, full_blocks_few, blocks_before_fit, all_blocks_fit, blocked_end_small, blocked_end_fits, blocked_end)
