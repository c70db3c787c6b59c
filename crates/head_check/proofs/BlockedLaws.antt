-- What the check of a file with blocks rests on: its blocks are in the file, and only the last can have unused bits.
-- Assumes nothing.
use mathlib.Core.Path.{◌≡◌, refl, ap, ◌∙◌}
use Prim.Native.Nat.{ℕ, zero, suc, min, ◌+◌, ◌-◌, ◌*◌, ◌/◌, ◌%◌, ◌≤◌, ◌<◌}
use native.Mathlib.Nat.{zero-mul, suc-mul, mul-le-mul_right}
use mathlib.Core.Bool.{Bool, true, false}
use mathlib.Core.List.{List, []}
use lib.ListN.{length, drop}
use lib.Dec.{eqb, lit<}
use native.Mathlib.Omega.{arith}
use Rattle.format.specs.Base.{pick, Out, ok}
use Rattle.format.specs.Packed.{Bits, one, two, four, eight, more, packed_size}
use Rattle.format.specs.Layout.{Fixed, unblocked, Form, form_of, flag_count, block_count, cut, block_size, header_end}
use Rattle.format.specs.Header.{block_place}
use Rattle.format.proofs.Rules.{split}
use Rattle.format.proofs.BlocksLaws.{block_count_is}
use Rattle.head_index.specs.NumbersAt.{unused_bits}
use Rattle.head_index.specs.VariantsAt.{block_variants}
use Rattle.head_index.specs.Rules.{need_unused, unused_in, unused_arrays}
use Rattle.head_index.proofs.RefusalsByIndex.{arrays_size_blocked}
use Rattle.head_index.proofs.RefusalsByIndexTurns.{first_7, turn_7}
use Rattle.head_blocks.specs.declared.Blocks.{Blocks}
use Rattle.head_blocks.specs.Parts.{blocks_of, BlocksSmall, count_in, BlocksFit}
use Rattle.head_blocks.proofs.UnusedLaws.{none_set}

-- ---- the blocks are in the file

module _ (f : Fixed) (blocked : unblocked f.mode ≡ false) (some : 1 ≤ f.variants) (most : f.variants ≤ 16777216) where
  -- what there is up to the header's end
  closed : header_end 65536 f
      ≡ 12 + (8 * ((f.variants + 65535) / 65536) + (f.variants / 65536 * block_size (form_of f) 65536 + block_size (form_of f) (f.variants % 65536)))
  closed = omega (arith, arrays_size_blocked 65536 f (lit< tt) blocked, block_count_is 65536 f blocked)

  -- where block j starts
  place : (j : ℕ) → block_place 65536 f j ≡ 12 + 8 * ((f.variants + 65535) / 65536) + j * block_size (form_of f) 65536
  unfolding block_place
  place j = omega (arith, block_count_is 65536 f blocked)

  -- the arrays of block j end before the header's end
  pub block_ends : (j : ℕ) → j * 65536 < f.variants → block_place 65536 f j + block_size (form_of f) (count_in f.variants j) ≤ header_end 65536 f
  block_ends j h =
      let size : ℕ = block_size (form_of f) 65536 in
      split (suc j * 65536) f.variants
      (λ l.
      let n : count_in f.variants j ≡ 65536 = omega arith in
      let e : block_size (form_of f) (count_in f.variants j) ≡ size = ap (block_size (form_of f)) n in
      omega (arith, place j, closed, suc-mul j size, mul-le-mul_right {m = suc j} {n = f.variants / 65536} size (omega arith)))
      (λ l.
      let n : count_in f.variants j ≡ f.variants % 65536 = omega arith in
      let e : block_size (form_of f) (count_in f.variants j) ≡ block_size (form_of f) (f.variants % 65536) = ap (block_size (form_of f)) n in
      let d : j * size ≡ f.variants / 65536 * size = ap (λ (z : ℕ). z * size) (let q : j ≡ f.variants / 65536 = omega arith in q) in
      omega (arith, place j, closed))

  -- so a file that reaches there has them
  pub blocks_fit : (bs : List ℕ) (b : Blocks) → b ≡ blocks_of f → BlocksSmall b → header_end 65536 f ≤ length bs → BlocksFit bs f.variants b
  blocks_fit bs b e s h = record {
    some = some;
    most = most;
    small = s;
    each = λ j l. rw e (omega (arith, block_ends j l, place j, place 0, zero-mul (block_size (form_of f) 65536)));
    after_offsets = λ j l. omega (arith, closed);
  }

-- ---- only the last block can have unused bits

full_block : (bits : Bits) → 65536 % suc (more bits) ≡ 0
full_block one = refl
full_block two = refl
full_block four = refl
full_block eight = refl

flags_full : (stored : Bool) → pick stored 65536 0 % 8 ≡ 0
flags_full true = refl
flags_full false = refl

-- a full block has none
full_clear : {A : Type 0} (form : Form) (place : ℕ) (bs : List ℕ) (next : Out A) → need_unused form place 65536 bs next ≡ next
unfolding need_unused
full_clear form place bs next =
    let size : ℕ = packed_size form.type_bits 65536 in
    let flags : ℕ = place + (size + form.length_width * 65536) in
    let t : true ≡ eqb (unused_bits form.type_bits 65536 (drop place bs)) 0
    = none_set form.type_bits 65536 place bs (full_block form.type_bits) in
    let u : true ≡ eqb (unused_bits one (flag_count form 65536) (drop flags bs)) 0
    = none_set one (flag_count form 65536) flags bs (flags_full form.flags_stored) in
    simp (← t, ← u)

module _ (f : Fixed) (bs : List ℕ) (blocked : unblocked f.mode ≡ false) (some : 1 ≤ f.variants) where
  -- from block j on, with so many before the last
  only_last : (left j last : ℕ) → j + left ≡ last → last ≡ (f.variants - 1) / 65536
      → unused_in (form_of f) (block_place 65536 f j) (cut 65536 (block_count 65536 f - j) (f.variants - j * 65536)) bs
      ≡ need_unused (form_of f) (block_place 65536 f last) (block_variants 65536 f last) bs (ok tt [])
  unfolding unused_in cut block_variants
  only_last zero j last e d =
      let s : j ≡ last = omega arith in
      let none : block_count 65536 f - suc last ≡ 0 = rw (block_count_is 65536 f blocked) (omega arith) in
      rw s (turn_7 65536 last f bs (lit< tt) blocked (omega arith) ∙ rw none refl)
  only_last (suc left) j last e d =
      let full : min 65536 (f.variants - j * 65536) ≡ 65536 = omega arith in
      turn_7 65536 j f bs (lit< tt) blocked (omega arith)
      ∙ rw full (full_clear (form_of f) (block_place 65536 f j) bs _)
      ∙ only_last left (suc j) last (omega arith) d

  pub last_unused : unused_arrays 65536 f bs
      ≡ need_unused (form_of f) (block_place 65536 f ((f.variants - 1) / 65536)) (block_variants 65536 f ((f.variants - 1) / 65536)) bs (ok tt [])
  last_unused = first_7 65536 f bs blocked ∙ only_last ((f.variants - 1) / 65536) 0 ((f.variants - 1) / 65536) (omega arith) refl
