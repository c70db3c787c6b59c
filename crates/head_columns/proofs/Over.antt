-- One turn of the loop of `bad_type`, over a block.
-- Assumes nothing.
use Rattle.std.specs.Prelude.{Option, Some, None}
use mathlib.Core.Path.{◌≡◌, refl, sym, ap, ◌∙◌}
use Prim.Native.Nat.{ℕ, zero, suc, min, ◌+◌, ◌*◌, ◌/◌, ◌≤◌, ◌<◌}
use mathlib.Core.List.{List, []}
use lib.ListN.{length, drop, drop_of_length-le}
use native.Mathlib.Omega.{arith}
use Rattle.format.specs.declared.FileVariant.{FileVariant}
use Rattle.format.specs.declared.BlockVariant.{BlockVariant}
use Rattle.format.specs.Base.{pick}
use Rattle.format.specs.Packed.{Bits, four, eight}
use Rattle.format.specs.Variant.{file_variant, block_variant, in_file}
use Rattle.format.specs.Layout.{Fixed, form_of, Arrays, in_parts}
use Rattle.format.specs.Header.{block_place}
use Rattle.head_index.specs.NumbersAt.{digits_at}
use Rattle.head_index.specs.VariantsAt.{block_variants}
use Rattle.head_index.specs.Rules.{bad_type, bad_in_block, found_or}
use Rattle.head_index.proofs.RefusalsByIndexTurns.{found_below, turn_8}
use Rattle.head_blocks.specs.declared.Blocks.{Blocks}
use Rattle.head_blocks.specs.Parts.{count_in, Arranged}
use Rattle.head_columns.specs.Looks.{FirstBad}
use Rattle.head_columns.proofs.Arrangement.{arrangement_laws, block_inside, place_is, count_is, bits_are}

-- where the first j blocks end
abbrev pub passed : ℕ → ℕ → ℕ
passed m j = min m (j * 65536)

-- the types of the first j blocks are allowed
pub record Over (bs : List ℕ) (m : ℕ) (b : Blocks) (j : ℕ) : Type 0 where
  pub inside : j ≤ (m + 65535) / 65536
  pub same : (f : Fixed) (a : Arrays) (records : List ℕ) → Arranged bs m b f a records
      → bad_type 65536 (file_variant (passed m j)) (drop (passed m j) a.columns.types) ≡ bad_type 65536 (file_variant 0) a.columns.types

-- of none
pub starts : (bs : List ℕ) (m : ℕ) (b : Blocks) → Over bs m b 0
starts bs m b =
    let e : passed m 0 ≡ 0 = omega arith in
    record { inside = omega arith; same = λ f a records g. rw e refl }

module _ (bs : List ℕ) (m : ℕ) (b : Blocks) (j : ℕ) (x : Option BlockVariant) (h : j < (m + 65535) / 65536)
    (d : x ≡ bad_in_block (block_variant 0) (digits_at (pick b.half four eight) (drop (b.at + j * b.full) bs) 0 (count_in m j))) where
  -- what the look at block j found
  found : (f : Fixed) (a : Arrays) (records : List ℕ) → Arranged bs m b f a records
      → bad_type 65536 (file_variant (passed m j)) (drop (passed m j) a.columns.types)
      ≡ found_or 65536 j x (bad_type 65536 (file_variant (passed m (j + 1))) (drop (passed m (j + 1)) a.columns.types))
  found f a records g =
      let l : j * 65536 < m = block_inside m j h in
      let here : j * 65536 ≡ passed m j = omega arith in
      let next : j * 65536 + count_in m j ≡ passed m (j + 1) = omega arith in
      let c : count_in m j ≡ block_variants 65536 f j = count_is m f g.m_is j in
      let types : List ℕ = digits_at (form_of f).type_bits (drop (block_place 65536 f j) (in_parts 65536 f a records)) 0 (block_variants 65536 f j) in
      let d₁ : x ≡ bad_in_block (block_variant 0) types
      = rw (← bits_are b f g.b_is, ← place_is b f g.b_is j, ← g.parts, ← c) d in
      ap (λ (z : ℕ). bad_type 65536 (file_variant z) (drop z a.columns.types)) (sym here)
      ∙ rw (← c, next) at (turn_8 65536 j x f a records g.known (omega (arith, g.m_is)) d₁)

-- as many as were asked for
digits_count : (bits : Bits) (bs : List ℕ) (i n : ℕ) → length (digits_at bits bs i n) ≡ n
unfolding digits_at
digits_count bits bs i zero = refl
digits_count bits bs i (suc n) = ap suc (digits_count bits bs (i + 1) n)

-- what is found in a block is one of its variants
pub found_in_it : (bits : Bits) (bs : List ℕ) (n : ℕ) {x : Option BlockVariant} {i : BlockVariant} → x ≡ bad_in_block (block_variant 0) (digits_at bits bs 0 n)
    → x ≡ Some i → n ≤ 65536 → i.0 < 65536
found_in_it bits bs n d e l = omega (arith, found_below (block_variant 0) (digits_at bits bs 0 n) (sym e ∙ d), digits_count bits bs 0 n)

module _ {bs : List ℕ} {m : ℕ} {b : Blocks} {j : ℕ} (o : Over bs m b j) where
  -- in all blocks
  pub ends : (m + 65535) / 65536 ≤ j → FirstBad bs m b None
  unfolding bad_type
  ends h = record {
    is = λ f a records g.
        let all : passed m j ≡ m = omega arith in
        let n : drop m a.columns.types ≡ [] = drop_of_length-le a.columns.types {i = m} (omega (arith, g.known.all_fit.types_count, g.m_is)) in
        rw (all, n) at (o.same f a records g);
    below = λ v e. absurd (let z : ◌≡◌ {A = ℕ} 0 1 = cc in omega arith);
  }

  module _ (h : j < (m + 65535) / 65536) {n : ℕ} (e : n ≡ count_in m j) {x : Option BlockVariant}
      (d : x ≡ bad_in_block (block_variant 0) (digits_at (pick b.half four eight) (drop (b.at + j * b.full) bs) 0 n)) where
    -- what was found in block j
    in_it : x ≡ bad_in_block (block_variant 0) (digits_at (pick b.half four eight) (drop (b.at + j * b.full) bs) 0 (count_in m j))
    in_it = rw (← e) d

    -- one that is not allowed
    pub stops : {i : BlockVariant} → x ≡ Some i → {v : FileVariant} → v ≡ in_file 65536 j i → FirstBad bs m b (Some v)
    stops {i} l {v} w =
        let types : List ℕ = digits_at (pick b.half four eight) (drop (b.at + j * b.full) bs) 0 n in
        let few : i.0 < n
        = omega (arith, found_below (block_variant 0) types (sym l ∙ d), digits_count (pick b.half four eight) (drop (b.at + j * b.full) bs) 0 n) in
        record {
          is = λ f a records g. ap Some w ∙ sym (found bs m b j x h in_it f a records g ∙ rw l refl) ∙ o.same f a records g;
          below = λ u t. let s : v ≡ u = cc in omega (arith, few, ap (λ (z : FileVariant). z.0) w, ap (λ (z : FileVariant). z.0) s);
        }

    -- all are allowed
    pub goes_on : x ≡ None → Over bs m b (j + 1)
    goes_on l = record {
      inside = omega arith;
      same = λ f a records g. sym (found bs m b j x h in_it f a records g ∙ rw l refl) ∙ o.same f a records g;
    }

pub ruleset over_laws = (arrangement_laws, found_in_it, starts, ends, stops, goes_on)
