-- One turn of the loop of `records_end`, over a block.
-- Assumes nothing.
use Rattle.std.specs.Prelude.{Ok, Err}
use mathlib.Core.Path.{◌≡◌, refl, sym, ap, ◌∙◌}
use Prim.Native.Nat.{ℕ, suc, ◌+◌, ◌*◌, ◌/◌, ◌≤◌, ◌<◌}
use native.Mathlib.Numerals.{add-one}
use mathlib.Core.List.{List, []}
use lib.ListN.{length, take, drop, get_or, drop_of_length-le}
use lib.Seq.{take-length}
use lib.Dec.{eqb}
use native.Mathlib.Omega.{arith}
use borrow.Author.Tests.{lt-ltb, le-ltb, eq-eqb, ne_eqb}
use Rattle.format.specs.Base.{pick}
use Rattle.format.specs.Packed.{four, eight, packed_size}
use Rattle.format.specs.Layout.{Fixed, form_of, Arrays, sum, block_count, first_record, in_parts}
use Rattle.format.proofs.BlocksLaws.{block_count_is}
use Rattle.format.proofs.OffsetsLaws.{starts_count}
use Rattle.head_index.specs.NumbersAt.{number_at, numbers_at}
use Rattle.head_index.specs.VariantsAt.{offset_at, block_variants, lengths_place}
use Rattle.head_index.specs.Rules.{wrong_offset, starts_of}
use Rattle.head_index.proofs.StartLaws.{offset_at_is}
use Rattle.head_index.proofs.RefusalsByIndexTurns.{turn_9, start_of_block, next_start}
use Rattle.head_blocks.specs.declared.Blocks.{Blocks}
use Rattle.head_blocks.specs.Parts.{count_in, Arranged}
use Rattle.head_columns.specs.Looks.{EndOfRecords}
use Rattle.head_columns.proofs.Arrangement.{arrangement_laws, block_inside, count_is, width_is, lengths_place_is}
use Rattle.head_columns.proofs.Over.{passed}

-- the offsets of the first j blocks are right, and their records end at `start`
pub record OverOffsets (bs : List ℕ) (m : ℕ) (b : Blocks) (first start j : ℕ) : Type 0 where
  pub inside : j ≤ (m + 65535) / 65536
  pub small : start ≤ first + 281474976645120 * j
  pub same : (f : Fixed) (a : Arrays) (records : List ℕ) → Arranged bs m b f a records → first ≡ first_record 65536 f
      → (wrong_offset j (drop j a.offsets) (drop j (starts_of 65536 f a)) ≡ wrong_offset 0 a.offsets (starts_of 65536 f a))
      × (start ≡ first + sum (take (passed m j) a.columns.lengths))

-- of none
pub starts : (bs : List ℕ) (m : ℕ) (b : Blocks) (first : ℕ) → OverOffsets bs m b first first 0
unfolding sum
starts bs m b first =
    let e : passed m 0 ≡ 0 = omega arith in
    record { inside = omega arith; small = omega arith; same = λ f a records g q. (refl, rw e (omega arith)) }

module _ (bs : List ℕ) (m : ℕ) (b : Blocks) (j x start first : ℕ) (h : j < (m + 65535) / 65536) (d : x ≡ number_at 8 (drop (12 + 8 * j) bs))
    (f : Fixed) (a : Arrays) (records : List ℕ) (g : Arranged bs m b f a records) (q : first ≡ first_record 65536 f)
    (s : start ≡ first + sum (take (passed m j) a.columns.lengths)) where
  -- the two numbers that are compared
  stored : get_or a.offsets j 0 ≡ x
  unfolding offset_at
  stored =
      let l : j < block_count 65536 f = rw (block_count_is 65536 f g.known.blocked) (omega (arith, g.m_is)) in
      sym (offset_at_is 65536 j f a records g.known l) ∙ rw (← g.parts) (sym d)

  wanted : get_or (starts_of 65536 f a) j 0 ≡ start
  wanted =
      let l : j * 65536 < m = block_inside m j h in
      let here : passed m j ≡ j * 65536 = omega arith in
      start_of_block 65536 j f a g.known (omega (arith, g.m_is)) ∙ omega (arith, ap (λ (z : ℕ). sum (take z a.columns.lengths)) here)

  -- one offset decides
  pub next_offset : wrong_offset j (drop j a.offsets) (drop j (starts_of 65536 f a))
      ≡ pick (eqb x start) (wrong_offset (suc j) (drop (suc j) a.offsets) (drop (suc j) (starts_of 65536 f a))) j
  next_offset =
      let n : length a.offsets ≡ block_count 65536 f = g.known.offsets_fit.0 in
      let l : j < length a.offsets = rw (n, block_count_is 65536 f g.known.blocked) (omega (arith, g.m_is)) in
      rw (stored, wanted) at (turn_9 j a.offsets (starts_of 65536 f a) (n ∙ sym (starts_count 65536 _ f a.columns.lengths)) l)

  -- the records of the next block end where they should
  pub next_end : (total : ℕ)
      → total ≡ sum (numbers_at b.width (count_in m j) (drop (b.at + j * b.full + packed_size (pick b.half four eight) (count_in m j)) bs))
      → start + total ≡ first + sum (take (passed m (j + 1)) a.columns.lengths)
  next_end total e =
      let l : j * 65536 < m = block_inside m j h in
      let here : passed m j ≡ j * 65536 = omega arith in
      let next : j * 65536 + count_in m j ≡ passed m (j + 1) = omega arith in
      let c : count_in m j ≡ block_variants 65536 f j = count_is m f g.m_is j in
      let e₁ : total ≡ sum (numbers_at (form_of f).length_width (block_variants 65536 f j) (drop (lengths_place 65536 f j) (in_parts 65536 f a records)))
      = rw (← width_is b f g.b_is, ← lengths_place_is m b f g.m_is g.b_is j, ← g.parts, ← c) e in
      let n : sum (take (passed m (j + 1)) a.columns.lengths) ≡ sum (take (j * 65536) a.columns.lengths) + total
      = ap (λ (z : ℕ). sum (take z a.columns.lengths)) (sym next) ∙ rw (c, e₁) (next_start 65536 j f a records g.known (omega (arith, g.m_is))) in
      omega (arith, ap (λ (z : ℕ). sum (take z a.columns.lengths)) here)

module _ {bs : List ℕ} {m : ℕ} {b : Blocks} {first start j : ℕ} (o : OverOffsets bs m b first start j) where
  module _ (h : j < (m + 65535) / 65536) {x : ℕ} (d : x ≡ number_at 8 (drop (12 + 8 * j) bs)) where
    -- an offset is wrong
    pub stops : (x ≡ start → ⊥) → EndOfRecords bs m b first (Err (record { 0 = j }))
    stops n f a records g q =
        let k = o.same f a records g q in
        let wrong : wrong_offset 0 a.offsets (starts_of 65536 f a) ≡ j
        = sym k.0 ∙ next_offset bs m b j x start first h d f a records g q k.1 ∙ simp (ne_eqb x start n) in
        rw wrong (simp (lt-ltb j ((m + 65535) / 65536) h))

    -- it is right
    pub goes_on : x ≡ start → {n size total : ℕ} → n ≡ count_in m j → size ≡ packed_size (pick b.half four eight) n
        → total ≡ sum (numbers_at b.width n (drop (b.at + j * b.full + size) bs)) → total ≤ 4294967295 * n → n ≤ 65536
        → OverOffsets bs m b first (start + total) (j + 1)
    goes_on y {n} {size} {total} e z t l k = record {
      inside = omega arith;
      small = omega (arith, o.small);
      same = λ f a records g c.
          let o₁ = o.same f a records g c in
          let t₁ : total ≡ sum (numbers_at b.width (count_in m j) (drop (b.at + j * b.full + packed_size (pick b.half four eight) (count_in m j)) bs))
          = rw (← e, ← z) t in (
            rw add-one (sym (next_offset bs m b j x start first h d f a records g c o₁.1 ∙ simp (eq-eqb x start y)) ∙ o₁.0),
            next_end bs m b j x start first h d f a records g c o₁.1 total t₁,
          );
    }

  -- all are
  pub ends : (m + 65535) / 65536 ≤ j → EndOfRecords bs m b first (Ok start)
  unfolding wrong_offset
  ends h f a records g q =
      let k = o.same f a records g q in
      let n : length a.offsets ≡ block_count 65536 f = g.known.offsets_fit.0 in
      let none : drop j a.offsets ≡ []
      = drop_of_length-le a.offsets {i = j} (rw (n, block_count_is 65536 f g.known.blocked) (omega (arith, g.m_is))) in
      let wrong : wrong_offset 0 a.offsets (starts_of 65536 f a) ≡ j = sym (rw none at k.0) in
      let all : passed m j ≡ length a.columns.lengths = omega (arith, g.known.all_fit.lengths_count, g.m_is) in
      let s : start ≡ first + sum a.columns.lengths = k.1 ∙ rw (all, take-length) refl in
      rw wrong (simp (le-ltb j ((m + 65535) / 65536) h) (ap Ok s))

pub ruleset offsets_laws = (arrangement_laws, starts, stops, goes_on, ends)
