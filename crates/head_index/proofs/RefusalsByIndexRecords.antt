-- The header check by index: refusals 8 and 9, and acceptance, of a file that has passed 1 to 7.
-- Assumes nothing.
use Rattle.std.specs.Prelude.{Some}
use mathlib.Core.Path.{◌≡◌, refl, sym, ap, ◌∙◌}
use Prim.Native.Nat.{ℕ, zero, suc, ◌+◌, ◌*◌, ◌≤◌, ◌<◌}
use native.Mathlib.Nat.{zero-mul, suc-mul}
use mathlib.Core.Bool.{Bool, true, false, not, ◌&&◌}
use mathlib.Core.List.{List, [], ◌∷◌}
use lib.ListN.{length, take, drop, replicate, length-drop}
use lib.Dec.{eqb, ltb}
use native.Mathlib.Omega.{arith}
use borrow.Author.Tests.{lt-ltb, le-ltb}
use Rattle.format.specs.declared.FileVariant.{FileVariant}
use Rattle.format.specs.Base.{pick, Out, ok, refuse, map_out, numbered, refused, refuse_of}
use Rattle.format.specs.Numbers.{read_bytes}
use Rattle.format.specs.Variant.{file_variant, next_variant, in_block, no_variant}
use Rattle.format.specs.Layout.{Fixed, unblocked, Arrays, sum, block_count, first_record, fixed_size, ColumnsUnblocked}
use Rattle.format.specs.Layout.{type_allowed, TypesAllowed}
use Rattle.format.specs.Header.{Header, header_with, type_place, need_types, need_offsets, split_bodies, layout_of, read_bodies, read_data}
use Rattle.format.proofs.Rules.{split}
use Rattle.format.proofs.ColumnsLaws.{no_element}
use Rattle.format.proofs.OffsetsLaws.{types_pass, starts_count, lengths_counted}
unfoldable pub use Rattle.head_index.specs.Rules.{bad_type, refuse_found, starts_of, wrong_offset, cut_bodies, layout_at, after_offsets, after_types}
use Rattle.head_index.specs.NumbersAt.{fixed_at}
use Rattle.head_index.specs.Rules.{after_fixed}
use Rattle.head_index.specs.Known.{Passed}

-- ---- 8: the first type that is not allowed

-- the rule by that type
pub types_by_index : {A : Type 0} (K : ℕ) (f : Fixed) (v : FileVariant) (types : List ℕ) (next : Out A)
    → need_types K f v types next ≡ refuse_found K f (bad_type K v types) next
unfolding need_types bad_type
types_by_index K f v [] next = refl
types_by_index K f v (type ∷ types) next = go (type_allowed (in_block K v) type) (types_by_index K f (next_variant v) types next)
  where
    go : (t : Bool) → need_types K f (next_variant v) types next ≡ refuse_found K f (bad_type K (next_variant v) types) next
        → pick t (need_types K f (next_variant v) types next) (refuse_of v 8 (type_place K f v))
        ≡ refuse_found K f (pick t (bad_type K (next_variant v) types) (Some v)) next
    go true h = h
    go false h = refl

-- ---- 9: the first offset that is wrong

-- that of block j is; the refusal names no variant
abbrev pub offset_wrong : {A : Type 0} → Fixed → ℕ → Out A
offset_wrong f j = refuse_of (no_variant f.variants) 9 (12 + 8 * j)

-- the rule by that offset
pub offsets_by_index : {A : Type 0} (f : Fixed) (j : ℕ) (offsets starts : List ℕ) (next : Out A) → length offsets ≡ length starts
    → need_offsets f (12 + 8 * j) offsets starts next
    ≡ pick (ltb (wrong_offset j offsets starts) (j + length offsets)) (offset_wrong f (wrong_offset j offsets starts)) next
unfolding need_offsets wrong_offset
offsets_by_index f j [] starts next l = simp (le-ltb j (j + 0) (omega arith))
offsets_by_index f j (offset ∷ offsets) [] next l = absurd (omega arith)
offsets_by_index f j (offset ∷ offsets) (start ∷ starts) next l =
    let a : 12 + 8 * j + 8 ≡ 12 + 8 * suc j = omega arith in
    let b : j + suc (length offsets) ≡ suc j + length offsets = omega arith in
    rw (a, b) (go (eqb offset start) (offsets_by_index f (suc j) offsets starts next (omega arith)))
  where
    later : ℕ
    later = wrong_offset (suc j) offsets starts

    go : (t : Bool) → need_offsets f (12 + 8 * suc j) offsets starts next ≡ pick (ltb later (suc j + length offsets)) (offset_wrong f later) next
        → pick t (need_offsets f (12 + 8 * suc j) offsets starts next) (offset_wrong f j)
        ≡ pick (ltb (pick t later j) (suc j + length offsets)) (offset_wrong f (pick t later j)) next
    go true h = h
    go false h = simp (lt-ltb j (suc j + length offsets) (omega arith))

-- ---- 9: the records end where the file ends

-- bytes that are there are read
bytes_there : (end count : ℕ) (bs : List ℕ) → count ≤ length bs → read_bytes end count bs ≡ ok (take count bs) (drop count bs)
unfolding read_bytes
bytes_there end zero bs h = refl
bytes_there end (suc count) [] h = absurd (omega arith)
bytes_there end (suc count) (b ∷ bs) h = simp (bytes_there end count bs (omega arith))

-- too few are refused
bytes_short : (end count : ℕ) (bs : List ℕ) → length bs < count → read_bytes end count bs ≡ refuse 12 end
unfolding read_bytes
bytes_short end zero bs h = absurd (omega arith)
bytes_short end (suc count) [] h = refl
bytes_short end (suc count) (b ∷ bs) h = simp (bytes_short end count bs (omega arith))

-- a body for each length
cut_bodies_length : (lengths bs : List ℕ) → length (cut_bodies lengths bs) ≡ length lengths
unfolding cut_bodies
cut_bodies_length [] bs = refl
cut_bodies_length (n ∷ ns) bs = ap suc (cut_bodies_length ns (drop n bs))

-- bodies that end where the bytes end are read
bodies_there : (end : ℕ) (lengths bs : List ℕ) → sum lengths ≡ length bs → split_bodies end lengths bs ≡ ok (cut_bodies lengths bs) []
unfolding split_bodies cut_bodies sum
bodies_there end [] [] h = refl
bodies_there end [] (b ∷ bs) h = absurd (omega arith)
bodies_there end (n ∷ ns) bs h = simp (bytes_there end n bs (omega arith), bodies_there end ns (drop n bs) (rw length-drop (omega arith)))

-- a use of the result refuses the same
map_refused : {A B : Type 0} (f : A → B) (m : Out A) (end : ℕ) → numbered 9 m ≡ refuse 9 end → numbered 9 (map_out f m) ≡ refuse 9 end
map_refused f (ok a left) end h = absurd (let z : ◌≡◌ {A = ℕ} 0 1 = cc in omega arith)
map_refused f (refused why) end h = cc

-- bodies that do not are refused
bodies_amiss : (end : ℕ) (lengths bs : List ℕ) → (sum lengths ≡ length bs → ⊥) → numbered 9 (split_bodies end lengths bs) ≡ refuse 9 end
unfolding split_bodies sum
bodies_amiss end [] [] h = absurd (h refl)
bodies_amiss end [] (b ∷ bs) h = refl
bodies_amiss end (n ∷ ns) bs h =
    split n (length bs)
    (λ a. simp (bytes_there end n bs a)
    (map_refused _ (split_bodies end ns (drop n bs)) end (bodies_amiss end ns (drop n bs) (λ e. h (omega (arith, length-drop n bs))))))
    (λ a. simp (bytes_short end n bs a))

-- ---- the records' bytes after any header: those of a file in one piece, or of one that holds the records alone and ends at `end`

module _ (end : ℕ) (h : Header) (bs : List ℕ) where
  abbrev offsets : List ℕ
  offsets = h.arrays.offsets

  abbrev lengths : List ℕ
  lengths = h.arrays.columns.lengths

  abbrev wrong : ℕ → ℕ
  wrong K = wrong_offset 0 offsets (starts_of K h.fixed h.arrays)

  -- 9: by the first offset that is wrong
  pub data_by_index : (K : ℕ) → length offsets ≡ block_count K h.fixed
      → read_data K end h bs ≡ pick (ltb (wrong K) (block_count K h.fixed)) (offset_wrong h.fixed (wrong K)) (read_bodies end h bs)
  unfolding read_data
  data_by_index K n =
      let e : 0 + length offsets ≡ block_count K h.fixed = omega arith in
      rw e at
      (offsets_by_index h.fixed 0 offsets (starts_of K h.fixed h.arrays) (read_bodies end h bs) (n ∙ sym (starts_count K _ h.fixed lengths)))

  -- 9: the records do not end where their bytes do
  pub data_amiss : (sum lengths ≡ length bs → ⊥) → read_bodies end h bs ≡ refuse_of (no_variant h.fixed.variants) 9 end
  unfolding read_bodies
  data_amiss n = simp (bodies_amiss end lengths bs n)

  -- accepted: they do
  pub data_there : sum lengths ≡ length bs → read_bodies end h bs ≡ ok (layout_of h.fixed h.arrays.columns (cut_bodies lengths bs)) []
  unfolding read_bodies
  data_there n = simp (bodies_there end lengths bs n)

-- ---- of a file that has passed 1 to 7

module _ (K : ℕ) (bs : List ℕ) (a : Arrays) (h : Passed K bs a) where
  -- 8: by the first type that is not allowed
  pub refusal_8 : after_fixed K bs ≡ refuse_found K (fixed_at bs) (bad_type K (file_variant 0) a.columns.types) (after_types K bs a)
  refusal_8 = h.goes_on ∙ types_by_index K (fixed_at bs) (file_variant 0) a.columns.types (after_types K bs a)

  -- 9: by the first offset that is wrong
  pub refusal_9_offset : after_types K bs a
      ≡ pick (ltb (wrong_offset 0 a.offsets (starts_of K (fixed_at bs) a)) (block_count K (fixed_at bs)))
      (offset_wrong (fixed_at bs) (wrong_offset 0 a.offsets (starts_of K (fixed_at bs) a))) (after_offsets K bs a)
  unfolding after_types after_offsets
  refusal_9_offset = data_by_index (length bs) (header_with (fixed_at bs) a) (drop (first_record K (fixed_at bs)) bs) K h.offsets.0

  -- 9: the records do not end at the file's end
  pub refusal_9_end : first_record K (fixed_at bs) ≤ length bs → (first_record K (fixed_at bs) + sum a.columns.lengths ≡ length bs → ⊥)
      → after_offsets K bs a ≡ refuse_of (no_variant (fixed_at bs).variants) 9 (length bs)
  unfolding after_offsets
  refusal_9_end l n =
      data_amiss (length bs) (header_with (fixed_at bs) a) (drop (first_record K (fixed_at bs)) bs)
      (λ q. n (omega (arith, length-drop (first_record K (fixed_at bs)) bs)))

  -- accepted: they do
  pub accepted : first_record K (fixed_at bs) + sum a.columns.lengths ≡ length bs → after_offsets K bs a ≡ ok (layout_at K bs a) []
  unfolding after_offsets
  accepted n = data_there (length bs) (header_with (fixed_at bs) a) (drop (first_record K (fixed_at bs)) bs) (rw length-drop (omega arith))

  -- with as many variants as the field says
  pub accepted_variants : length (layout_at K bs a).bodies ≡ (fixed_at bs).variants
  accepted_variants =
      cut_bodies_length a.columns.lengths (drop (first_record K (fixed_at bs)) bs) ∙ lengths_counted (fixed_at bs) a.columns h.columns

-- ---- no blocks

-- type 0 is allowed everywhere
zeros_allowed : (K : ℕ) (v : FileVariant) (n : ℕ) → TypesAllowed K v (replicate n 0)
zeros_allowed K v zero = tt
zeros_allowed K v (suc n) = (allowed (eqb (in_block K v).0 0), zeros_allowed K (next_variant v) n)
  where
    allowed : (t : Bool) → true && (true && not (t && false)) ≡ true
    allowed true = refl
    allowed false = refl

-- the sum of n equal numbers
sum_replicate : (n w : ℕ) → sum (replicate n w) ≡ n * w
unfolding sum
sum_replicate zero w = sym (zero-mul w)
sum_replicate (suc n) w = omega (arith, sum_replicate n w, suc-mul n w)

-- there are no offsets, and every type is allowed
pub unblocked_goes_on : (K : ℕ) (bs : List ℕ) (a : Arrays) → unblocked (fixed_at bs).mode ≡ true → Passed K bs a → after_fixed K bs ≡ after_offsets K bs a
unfolding after_types after_offsets read_data need_offsets block_count
unblocked_goes_on K bs a e h =
    let f : Fixed = fixed_at bs in
    let c : ColumnsUnblocked f a.columns = simp e at h.columns in
    let n : length a.offsets ≡ 0 = simp e at h.offsets.0 in
    h.goes_on
    ∙ types_pass K f (file_variant 0) a.columns.types _ (rw c.types_same (zeros_allowed K (file_variant 0) f.variants))
    ∙ rw (no_element a.offsets n) refl

-- and the lengths add up to M records of the one length
pub unblocked_lengths_sum : (K : ℕ) (bs : List ℕ) (a : Arrays) → unblocked (fixed_at bs).mode ≡ true → Passed K bs a
    → sum a.columns.lengths ≡ (fixed_at bs).variants * fixed_size (fixed_at bs)
unblocked_lengths_sum K bs a e h =
    let c : ColumnsUnblocked (fixed_at bs) a.columns = simp e at h.columns in
    ap sum c.lengths_same ∙ sum_replicate (fixed_at bs).variants (fixed_size (fixed_at bs))
