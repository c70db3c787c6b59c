-- The header check by index: refusal 7, the unused bits of the arrays in stored order, and what is known of a file that has passed 1 to 7.
-- Assumes nothing.
use mathlib.Core.Path.{◌≡◌, refl, sym, ap, ◌∙◌}
use Prim.Native.Nat.{ℕ, zero, ◌+◌, ◌-◌, ◌*◌, ◌≤◌, ◌<◌}
use mathlib.Core.Bool.{Bool, true, false}
use mathlib.Core.List.{List, [], ◌∷◌, ◌++◌, map}
use lib.ListN.{length, drop, length-drop}
use lib.Seq.{drop-drop, drop_at}
use lib.Dec.{eqb}
use native.Mathlib.Omega.{arith}
use borrow.Author.Tests.{le-leb}
use Rattle.format.specs.Base.{pick, Bytes, Out, ok, refuse, map_out, need, numbered, refused, refuse_of}
use Rattle.format.specs.Numbers.{read_numbers}
use Rattle.format.specs.Packed.{Bits, one, packed_size, read_packed}
use Rattle.format.specs.Variant.{file_variant, no_variant}
use Rattle.format.specs.Layout.{Fixed, fixed_bytes, unblocked, Form, form_of, flag_count, Columns, Arrays, sum, block_count, block_sizes, block_size}
use Rattle.format.specs.Layout.{blocked_size, arrays_bytes, arrays_size, header_end, in_parts}
use Rattle.format.specs.Header.{read_block, read_blocks, read_blocked, unblocked_arrays, read_arrays, header_with, need_types, read_after_fixed, read_data}
use Rattle.format.proofs.Rules.{Holds, by_test, below_drop}
use Rattle.format.proofs.ArraysLaws.{AreArrays, arrays_as_written, arrays_length, header_apart}
use Rattle.format.proofs.OffsetsLaws.{types_then}
unfoldable pub use Rattle.head_index.specs.Rules.{need_unused, unused_in, unused_arrays}
pub use Rattle.head_index.specs.Known.{Passed}
use Rattle.head_index.specs.NumbersAt.{numbers_at, digits_at, unused_bits, fixed_at}
use Rattle.head_index.specs.Rules.{after_fixed, after_types}
use Rattle.head_index.specs.Known.{Known}
use Rattle.head_index.proofs.ByIndex.{numbers_there}
use Rattle.head_index.proofs.UnusedBits.{packed_amiss_at, packed_there_at}
use Rattle.head_index.proofs.RefusalsByIndex.{fixed_at_written}

-- ---- the blocks

-- read or refused with 7, whatever was read
abbrev pub outcome_7 : {A : Type 0} → Out A → Out (Unit {0})
outcome_7 (ok a left) = ok tt []
outcome_7 (refused why) = refuse 7 why.place

-- a use of the result changes no outcome
outcome_map : {A B : Type 0} (f : A → B) (m : Out A) → outcome_7 (map_out f m) ≡ outcome_7 m
outcome_map f (ok a left) = refl
outcome_map f (refused why) = refl

-- the blocks from a place on
unused_blocks : (form : Form) (place : ℕ) (ns bs : List ℕ) → Bytes bs → place + sum (map (block_size form) ns) ≤ length bs
    → outcome_7 (read_blocks (length bs) form ns (drop place bs)) ≡ unused_in form place ns bs
unfolding read_blocks read_block unused_in need_unused sum block_size
unused_blocks form place [] bs y h = refl
unused_blocks form place (n ∷ ns) bs y h =
    let bits : Bits = form.type_bits in
    let p : ℕ = packed_size bits n in
    let w : ℕ = form.length_width * n in
    let k : ℕ = flag_count form n in
    let q : ℕ = packed_size one k in
    let m : Out Columns = read_blocks (length bs) form (n ∷ ns) (drop place bs) in
    let e : place + p + w ≡ place + (p + w) = omega arith in
    let d : place + (p + w) + q ≡ place + (p + (w + q)) = omega arith in
    by_test (λ (z : Out (Unit {0})). outcome_7 m ≡ z) (eqb (unused_bits bits n (drop place bs)) 0)
    (λ t₁.
    let a : read_packed (length bs) bits n (drop place bs) ≡ ok (digits_at bits (drop place bs) 0 n) (drop (place + p) bs)
    = packed_there_at bits n place bs y (omega arith) t₁ in
    let b : read_numbers (length bs) form.length_width n (drop (place + p) bs)
    ≡ ok (numbers_at form.length_width n (drop (place + p) bs)) (drop (place + (p + w)) bs)
    = numbers_there (length bs) form.length_width n (drop (place + p) bs) (rw length-drop (omega arith))
    ∙ ap (ok (numbers_at form.length_width n (drop (place + p) bs))) (drop-drop w (place + p) bs ∙ ap (λ (z : ℕ). drop z bs) e) in
    by_test (λ (z : Out (Unit {0})). outcome_7 m ≡ z) (eqb (unused_bits one k (drop (place + (p + w)) bs)) 0)
    (λ t₂.
    let c : read_packed (length bs) one k (drop (place + (p + w)) bs) ≡ ok (digits_at one (drop (place + (p + w)) bs) 0 k) (drop (place + (p + (w + q))) bs)
    = packed_there_at one k (place + (p + w)) bs y (omega arith) t₂ ∙ ap (λ (z : ℕ). ok (digits_at one (drop (place + (p + w)) bs) 0 k) (drop z bs)) d in
    simp (a, b, c) (outcome_map _ (read_blocks (length bs) form ns (drop (place + (p + (w + q))) bs))
    ∙ unused_blocks form (place + (p + (w + q))) ns bs y (omega arith)))
    (λ t₂.
    let c : read_packed (length bs) one k (drop (place + (p + w)) bs) ≡ refuse 18 (place + (p + (w + q)) - 1)
    = packed_amiss_at one k (place + (p + w)) bs y (omega arith) t₂ ∙ ap (λ (z : ℕ). refuse 18 (z - 1)) d in
    simp (a, b, c)))
    (λ t₁. simp (packed_amiss_at bits n place bs y (omega arith) t₁))

-- all arrays of a file with blocks
unused_blocked : (K : ℕ) (f : Fixed) (bs : List ℕ) → Bytes bs → 12 + blocked_size K f ≤ length bs
    → outcome_7 (read_blocked K (length bs) f (drop 12 bs)) ≡ unused_in (form_of f) (12 + 8 * block_count K f) (block_sizes K f) bs
unfolding read_blocked blocked_size
unused_blocked K f bs y h =
    let place : ℕ = 12 + 8 * block_count K f in
    let a : read_numbers (length bs) 8 (block_count K f) (drop 12 bs) ≡ ok (numbers_at 8 (block_count K f) (drop 12 bs)) (drop place bs)
    = numbers_there (length bs) 8 (block_count K f) (drop 12 bs) (rw length-drop (omega arith))
    ∙ ap (ok (numbers_at 8 (block_count K f) (drop 12 bs))) (drop-drop (8 * block_count K f) 12 bs) in
    simp a (outcome_map _ (read_blocks (length bs) (form_of f) (block_sizes K f) (drop place bs))
    ∙ unused_blocks (form_of f) place (block_sizes K f) bs y (omega arith))

-- where the arrays fit, the reading of them is refused as their unused bits say
pub unused_arrays_decide : (K : ℕ) (f : Fixed) (bs : List ℕ) → Bytes bs → 12 + arrays_size K f ≤ length bs
    → outcome_7 (read_arrays K (length bs) f (drop 12 bs)) ≡ unused_arrays K f bs
unfolding read_arrays arrays_size unused_arrays
unused_arrays_decide K f bs y h = go (unblocked f.mode) h
  where
    k : ℕ
    k = flag_count (form_of f) f.variants

    go : (t : Bool) → 12 + pick t (packed_size one k) (blocked_size K f) ≤ length bs
        → outcome_7 (pick t (map_out (unblocked_arrays f) (read_packed (length bs) one k (drop 12 bs))) (read_blocked K (length bs) f (drop 12 bs)))
        ≡ pick t (need (eqb (unused_bits one k (drop 12 bs)) 0) 7 (12 + packed_size one k - 1) (ok tt []))
        (unused_in (form_of f) (12 + 8 * block_count K f) (block_sizes K f) bs)
    go true h =
        outcome_map _ (read_packed (length bs) one k (drop 12 bs))
        ∙ by_test (λ (z : Out (Unit {0})). outcome_7 (read_packed (length bs) one k (drop 12 bs)) ≡ z) (eqb (unused_bits one k (drop 12 bs)) 0)
        (λ t. simp (packed_there_at one k 12 bs y h t)) (λ t. simp (packed_amiss_at one k 12 bs y h t))
    go false h = unused_blocked K f bs y h

-- ---- refusal 7

-- a refusal under number 7
was_refused : {A : Type 0} (m : Out A) (place : ℕ) → outcome_7 m ≡ refuse 7 place → numbered 7 m ≡ refuse 7 place
was_refused (ok a left) place h = absurd (let z : ◌≡◌ {A = ℕ} 0 1 = cc in omega arith)
was_refused (refused why) place h = cc

-- what had an outcome was read
was_ok : {A : Type 0} (P : A → List ℕ → Type 0) (m : Out A) → outcome_7 m ≡ ok tt [] → Holds P m → (a : A) × (left : List ℕ) × (m ≡ ok a left) × P a left
was_ok P (ok a left) h k = (a, left, refl, k)
was_ok P (refused why) h k = absurd (let z : ◌≡◌ {A = ℕ} 0 1 = cc in omega arith)

-- what fits the file fits what is left of it
fits_rest : (K : ℕ) (bs : List ℕ) → header_end K (fixed_at bs) ≤ length bs → arrays_size K (fixed_at bs) ≤ length (drop 12 bs)
fits_rest K bs h = rw length-drop (omega arith)

-- 7: unused bits are set
pub refusal_7 : (K place : ℕ) (bs : List ℕ) → Bytes bs → header_end K (fixed_at bs) ≤ length bs → unused_arrays K (fixed_at bs) bs ≡ refuse 7 place
    → after_fixed K bs ≡ refuse_of (no_variant (fixed_at bs).variants) 7 place
unfolding after_fixed read_after_fixed
refusal_7 K place bs y h u =
    let e : numbered 7 (read_arrays K (length bs) (fixed_at bs) (drop 12 bs)) ≡ refuse 7 place
    = was_refused (read_arrays K (length bs) (fixed_at bs) (drop 12 bs)) place (unused_arrays_decide K (fixed_at bs) bs y h ∙ u) in
    simp (le-leb (arrays_size K (fixed_at bs)) (length (drop 12 bs)) (fits_rest K bs h), e)

-- once the arrays are read, rules 8 and 9 are left
goes_on_with : (K : ℕ) (bs : List ℕ) (a : Arrays) (left : List ℕ) → header_end K (fixed_at bs) ≤ length bs
    → read_arrays K (length bs) (fixed_at bs) (drop 12 bs) ≡ ok a left
    → after_fixed K bs ≡ need_types K (fixed_at bs) (file_variant 0) a.columns.types (read_data K (length bs) (header_with (fixed_at bs) a) left)
unfolding after_fixed read_after_fixed
goes_on_with K bs a left h e =
    simp (le-leb (arrays_size K (fixed_at bs)) (length (drop 12 bs)) (fits_rest K bs h), e)
    (types_then K (fixed_at bs) (file_variant 0) a.columns.types (ok (header_with (fixed_at bs) a) left) _)

-- no unused bits are set
pub passed_7 : (K : ℕ) (bs : List ℕ) → zero < K → Bytes bs → header_end K (fixed_at bs) ≤ length bs → unused_arrays K (fixed_at bs) bs ≡ ok tt []
    → (a : Arrays) × Passed K bs a
unfolding after_types
passed_7 K bs p y h u =
    let f : Fixed = fixed_at bs in
    let g = was_ok (AreArrays K f (drop 12 bs)) (read_arrays K (length bs) f (drop 12 bs)) (unused_arrays_decide K f bs y h ∙ u)
    (arrays_as_written K (length bs) f (drop 12 bs) p (below_drop 256 12 bs y)) in
    let a : Arrays = g.0 in
    let left : List ℕ = g.1 in
    let is : AreArrays K f (drop 12 bs) a left = g.3 in
    let e : left ≡ drop (header_end K f) bs
    = sym (sym (drop-drop (arrays_size K f) 12 bs) ∙ ap (drop (arrays_size K f)) is.written
    ∙ drop_at (arrays_bytes K f a) left (arrays_size K f) (arrays_length K f a p is.offsets is.columns)) in (
      a,
      record {
        parts = fixed_at_written bs y (omega arith) ∙ ap (λ (z : List ℕ). fixed_bytes f ++ z) is.written
            ∙ sym (header_apart K f a left) ∙ ap (in_parts K f a) e;
        offsets = is.offsets;
        columns = is.columns;
        goes_on = goes_on_with K bs a left h g.2
            ∙ ap (λ (z : List ℕ). need_types K f (file_variant 0) a.columns.types (read_data K (length bs) (header_with f a) z)) e;
      },
    )

-- where there are blocks the laws by index then hold of it
pub passed_known : (K : ℕ) (bs : List ℕ) (a : Arrays) → zero < K → unblocked (fixed_at bs).mode ≡ false → Passed K bs a → Known K (fixed_at bs) a
passed_known K bs a p e h = record { some = p; blocked = e; offsets_fit = h.offsets; all_fit = simp e at h.columns }
