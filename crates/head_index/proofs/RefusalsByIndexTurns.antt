-- One turn of each of the code's loops over blocks, for rules 7, 8 and 9: from what was found in block j, what is left.
-- Assumes nothing.
use Rattle.std.specs.Prelude.{Option, Some}
use mathlib.Core.Path.{◌≡◌, refl, sym, ap, ◌∙◌}
use Prim.Native.Nat.{ℕ, zero, suc, ◌+◌, ◌-◌, ◌*◌, ◌/◌, ◌%◌, ◌≤◌, ◌<◌, min}
use native.Mathlib.Nat.{add-zero, zero-add, zero-mul, suc-mul, mul-add-mod_self_right, mod-eq_of_lt, min-eq_left, min-le_left, min-le_right, div-lt_iff_lt-mul}
use native.Mathlib.Nat.{sub-zero}
use mathlib.Core.Bool.{Bool, true, false}
use mathlib.Core.List.{List, [], ◌∷◌, ◌++◌, append_assoc}
use lib.ListN.{length, take, drop, get_or, take-append-drop}
use lib.Seq.{drop-drop, take-length, drop-cons, take-add}
use lib.Dec.{eqb}
use native.Mathlib.Omega.{arith}
use Rattle.format.specs.declared.BlockVariant.{BlockVariant}
use Rattle.format.specs.Base.{pick}
use Rattle.format.specs.Variant.{file_variant, block_variant}
use Rattle.format.specs.Layout.{Fixed, unblocked, form_of, Arrays, sum, block_count, cut, block_bytes, block_size, first_record, in_parts, type_allowed}
use Rattle.format.specs.Header.{block_place}
use Rattle.format.proofs.Rules.{split, below_take, below_drop}
use Rattle.format.proofs.BlocksLaws.{block_count_is, blocks_hold_all}
use Rattle.format.proofs.OffsetsLaws.{sum_append}
unfoldable pub use Rattle.head_index.specs.Rules.{bad_in_block}
use Rattle.head_index.specs.NumbersAt.{numbers_at, digits_at}
use Rattle.head_index.specs.VariantsAt.{block_variants, lengths_place}
use Rattle.head_index.specs.Rules.{need_unused, unused_in, unused_arrays, bad_type, found_or, starts_of, wrong_offset}
use Rattle.head_index.specs.Known.{Known}
use Rattle.head_index.proofs.ByIndex.{numbers_at_are, digits_at_are}
use Rattle.head_index.proofs.PlaceLaws.{block_there, block_at, column_length, lengths_found}
use Rattle.head_index.proofs.StartLaws.{block_start_is}

-- ---- a block's part of the columns, by index

module _ (K j : ℕ) (f : Fixed) (a : Arrays) (records : List ℕ) (h : Known K f a) (lt : j * K < f.variants) where
  -- its types
  pub block_types_at : digits_at (form_of f).type_bits (drop (block_place K f j) (in_parts K f a records)) 0 (block_variants K f j)
      ≡ take (block_variants K f j) (drop (j * K) a.columns.types)
  unfolding block_bytes block_variants
  block_types_at =
      let n : ℕ = min K (f.variants - j * K) in
      let types : List ℕ = take n (drop (j * K) a.columns.types) in
      let l : length types ≡ n = column_length f.variants (j * K) n a.columns.types h.all_fit.types_count (min-le_right K _) in
      let b = block_at K j f a records h lt in
      ap (λ (z : List ℕ). digits_at (form_of f).type_bits z 0 n) (simp append_assoc at b.1)
      ∙ digits_at_are (form_of f).type_bits 0 n types _
      (below_take _ n (drop (j * K) a.columns.types) (below_drop _ (j * K) a.columns.types h.all_fit.types_small)) (omega arith)
      ∙ ap (λ (z : ℕ). take z types) (sym l) ∙ take-length types

  -- its lengths
  pub block_lengths_at : numbers_at (form_of f).length_width (block_variants K f j) (drop (lengths_place K f j) (in_parts K f a records))
      ≡ take (block_variants K f j) (drop (j * K) a.columns.lengths)
  unfolding block_variants
  block_lengths_at =
      let n : ℕ = min K (f.variants - j * K) in
      let lengths : List ℕ = take n (drop (j * K) a.columns.lengths) in
      let l : length lengths ≡ n = column_length f.variants (j * K) n a.columns.lengths h.all_fit.lengths_count (min-le_right K _) in
      let b = lengths_found K j f a records h lt in
      ap (numbers_at (form_of f).length_width n) b.1
      ∙ numbers_at_are (form_of f).length_width n lengths b.0
      (below_take _ n (drop (j * K) a.columns.lengths) (below_drop _ (j * K) a.columns.lengths h.all_fit.lengths_small)) (omega arith)
      ∙ ap (λ (z : ℕ). take z lengths) (sym l) ∙ take-length lengths

-- ---- rule 7: one block

-- a block that is not full is the last
last_block : (K j : ℕ) (f : Fixed) → zero < K → unblocked f.mode ≡ false → f.variants ≤ suc j * K → block_count K f - suc j ≡ 0
last_block K j f p e l =
    let h : (f.variants + (K - 1)) / K < suc (suc j) = (div-lt_iff_lt-mul p).1 (omega (arith, suc-mul (suc j) K)) in
    rw (block_count_is K f e) (omega arith)

-- the arrays after block j start at the place of the next block, if there is one
next_block : (K j : ℕ) (f : Fixed) (bs : List ℕ) → zero < K → unblocked f.mode ≡ false
    → unused_in (form_of f) (block_place K f j + block_size (form_of f) (min K (f.variants - j * K)))
    (cut K (block_count K f - suc j) (f.variants - j * K - K)) bs
    ≡ unused_in (form_of f) (block_place K f (suc j)) (cut K (block_count K f - suc j) (f.variants - suc j * K)) bs
unfolding unused_in cut block_place
next_block K j f bs p e =
    split (suc j * K) f.variants
    (λ l.
    let full : min K (f.variants - j * K) ≡ K = min-eq_left (omega (arith, suc-mul j K)) in
    let left : f.variants - j * K - K ≡ f.variants - suc j * K = omega (arith, suc-mul j K) in
    let size : ℕ = block_size (form_of f) K in
    let place : 12 + 8 * block_count K f + j * size + size ≡ 12 + 8 * block_count K f + suc j * size = omega (arith, suc-mul j size) in
    rw (full, left, place) refl)
    (λ l. let none : block_count K f - suc j ≡ 0 = last_block K j f p e (omega arith) in rw none refl)

-- from the arrays of block j to those of the next
pub turn_7 : (K j : ℕ) (f : Fixed) (bs : List ℕ) → zero < K → unblocked f.mode ≡ false → j * K < f.variants
    → unused_in (form_of f) (block_place K f j) (cut K (block_count K f - j) (f.variants - j * K)) bs
    ≡ need_unused (form_of f) (block_place K f j) (block_variants K f j) bs
    (unused_in (form_of f) (block_place K f (suc j)) (cut K (block_count K f - suc j) (f.variants - suc j * K)) bs)
unfolding unused_in cut block_variants
turn_7 K j f bs p e lt =
    let q : block_count K f - j ≡ suc (block_count K f - suc j)
    = omega (arith, block_there K j (block_count K f) f.variants lt (blocks_hold_all K f p e)) in
    rw q (ap (need_unused (form_of f) (block_place K f j) (min K (f.variants - j * K)) bs) (next_block K j f bs p e))

-- before the first block
pub first_7 : (K : ℕ) (f : Fixed) (bs : List ℕ) → unblocked f.mode ≡ false
    → unused_arrays K f bs ≡ unused_in (form_of f) (block_place K f 0) (cut K (block_count K f - 0) (f.variants - 0 * K)) bs
unfolding unused_arrays block_place
first_7 K f bs e = simp (e, zero-mul, sub-zero, add-zero)

-- ---- rule 8: the types of one block

-- what is found is one of them
pub found_below : (i : BlockVariant) (types : List ℕ) {x : BlockVariant} → Some x ≡ bad_in_block i types → x.0 < i.0 + length types
unfolding bad_in_block
found_below i [] e = absurd (let z : ◌≡◌ {A = ℕ} 0 1 = cc in omega arith)
found_below i (type ∷ types) {x} e = go (type_allowed i type) (λ q. found_below (block_variant (suc i.0)) types q) e
  where
    go : (t : Bool) → (Some x ≡ bad_in_block (block_variant (suc i.0)) types → x.0 < suc i.0 + length types)
        → Some x ≡ pick t (bad_in_block (block_variant (suc i.0)) types) (Some i) → x.0 < i.0 + suc (length types)
    go true h q = omega (arith, h q)
    go false h q = let z : x ≡ i = cc in rw z (omega arith)

-- of the types of block j from number i on, with what follows them
bad_block : (K j i : ℕ) (types rest : List ℕ) → i + length types ≤ K
    → bad_type K (file_variant (j * K + i)) (types ++ rest)
    ≡ found_or K j (bad_in_block (block_variant i) types) (bad_type K (file_variant (j * K + (i + length types))) rest)
unfolding bad_type bad_in_block
bad_block K j i [] rest l = rw add-zero refl
bad_block K j i (type ∷ types) rest l =
    let m : (j * K + i) % K ≡ i = mul-add-mod_self_right j K i ∙ mod-eq_of_lt (omega arith) in
    let s : j * K + suc i ≡ suc (j * K + i) = omega arith in
    let e : i + suc (length types) ≡ suc i + length types = omega arith in
    rw (m, e) (go (type_allowed (block_variant i) type) (rw s at (bad_block K j (suc i) types rest (omega arith))))
  where
    later : Option BlockVariant
    later = bad_in_block (block_variant (suc i)) types

    go : (t : Bool) → bad_type K (file_variant (suc (j * K + i))) (types ++ rest)
        ≡ found_or K j later (bad_type K (file_variant (j * K + (suc i + length types))) rest)
        → pick t (bad_type K (file_variant (suc (j * K + i))) (types ++ rest)) (Some (file_variant (j * K + i)))
        ≡ found_or K j (pick t later (Some (block_variant i))) (bad_type K (file_variant (j * K + (suc i + length types))) rest)
    go true h = h
    go false h = refl

-- from the types of block j to those of the next
pub turn_8 : (K j : ℕ) (x : Option BlockVariant) (f : Fixed) (a : Arrays) (records : List ℕ) → Known K f a → j * K < f.variants
    → x ≡ bad_in_block (block_variant 0) (digits_at (form_of f).type_bits (drop (block_place K f j) (in_parts K f a records)) 0 (block_variants K f j))
    → bad_type K (file_variant (j * K)) (drop (j * K) a.columns.types)
    ≡ found_or K j x (bad_type K (file_variant (j * K + block_variants K f j)) (drop (j * K + block_variants K f j) a.columns.types))
unfolding block_variants
turn_8 K j x f a records h lt e =
    let n : ℕ = min K (f.variants - j * K) in
    let left : List ℕ = drop (j * K) a.columns.types in
    let types : List ℕ = take n left in
    let l : length types ≡ n = column_length f.variants (j * K) n a.columns.types h.all_fit.types_count (min-le_right K _) in
    let x₁ : x ≡ bad_in_block (block_variant 0) types = e ∙ ap (bad_in_block (block_variant 0)) (block_types_at K j f a records h lt) in
    let b : bad_type K (file_variant (j * K)) (types ++ drop n left)
    ≡ found_or K j (bad_in_block (block_variant 0) types) (bad_type K (file_variant (j * K + n)) (drop n left))
    = simp (add-zero, zero-add, l) at (bad_block K j 0 types (drop n left) (omega (arith, min-le_left K (f.variants - j * K)))) in
    ap (bad_type K (file_variant (j * K))) (sym (take-append-drop n left)) ∙ b ∙ rw (x₁, drop-drop) refl

-- ---- rule 9: one offset, and the sum of one block's lengths

-- from one offset to the next
pub turn_9 : (j : ℕ) (offsets starts : List ℕ) → length offsets ≡ length starts → j < length offsets
    → wrong_offset j (drop j offsets) (drop j starts)
    ≡ pick (eqb (get_or offsets j 0) (get_or starts j 0)) (wrong_offset (suc j) (drop (suc j) offsets) (drop (suc j) starts)) j
unfolding wrong_offset
turn_9 j offsets starts l h =
    let a : drop j offsets ≡ get_or offsets j 0 ∷ drop (suc j) offsets = drop-cons offsets j 0 h in
    let b : drop j starts ≡ get_or starts j 0 ∷ drop (suc j) starts = drop-cons starts j 0 (omega arith) in
    rw (a, b) refl

-- where the records of block j should start
pub start_of_block : (K j : ℕ) (f : Fixed) (a : Arrays) → Known K f a → j * K < f.variants
    → get_or (starts_of K f a) j 0 ≡ first_record K f + sum (take (j * K) a.columns.lengths)
start_of_block K j f a h lt =
    block_start_is K j (block_count K f) f.variants (first_record K f) a.columns.lengths lt (blocks_hold_all K f h.some h.blocked)
    h.all_fit.lengths_count

-- where the records after block j should start
pub next_start : (K j : ℕ) (f : Fixed) (a : Arrays) (records : List ℕ) → Known K f a → j * K < f.variants
    → sum (take (j * K + block_variants K f j) a.columns.lengths)
    ≡ sum (take (j * K) a.columns.lengths)
    + sum (numbers_at (form_of f).length_width (block_variants K f j) (drop (lengths_place K f j) (in_parts K f a records)))
next_start K j f a records h lt =
    rw (block_lengths_at K j f a records h lt, take-add (j * K) (block_variants K f j) a.columns.lengths)
    (sum_append (take (j * K) a.columns.lengths) (take (block_variants K f j) (drop (j * K) a.columns.lengths)))
