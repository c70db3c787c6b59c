-- Rules 8 and 9: the types, the block offsets, the bodies; and that an offset fits its eight bytes.
-- Assumes nothing.
use mathlib.Core.Path.{◌≡◌, refl, ap, ◌∙◌}
use Prim.Native.Nat.{ℕ, zero, suc, ◌+◌, ◌-◌, ◌*◌, ◌/◌, ◌^◌, ◌≤◌, ◌<◌, zero-le}
use native.Mathlib.Nat.{pow-le-pow_right, mul-le-mul_left, div-le_self, mul-le-mul_right, div-le_of_le-mul, le_refl, suc-mul, mul-suc}
use mathlib.Core.Bool.{Bool, true, false, ◌||◌}
use mathlib.Core.List.{List, [], ◌∷◌, ◌++◌, map}
use lib.ListN.{length, take, drop, length-replicate}
use lib.Dec.{eqb, leb, lit<, lit≤}
use native.Mathlib.Omega.{arith}
use borrow.Author.Tests.{leb-true, eqb-true, eq-eqb}
use Rattle.format.specs.declared.FileVariant.{FileVariant}
use Rattle.format.specs.Base.{pick, Below, Out, ok, bind, need_of}
use Rattle.format.specs.Limits.{most_variants}
use Rattle.format.specs.Numbers.{read_bytes}
use Rattle.format.specs.Packed.{Bits, one, two, four, eight, more, packed_size}
use Rattle.format.specs.Variant.{next_variant, in_block}
use Rattle.format.specs.Layout.{Fixed, from_1_to, unblocked, mode_covered, Form, form_of, flag_count, Columns, sum, block_count, cut, block_sizes}
use Rattle.format.specs.Layout.{block_size, blocked_size, arrays_size, first_record, Layout, fixed_of, body_lengths, columns_of, block_starts, arrays_of}
use Rattle.format.specs.Layout.{joined, fixed_type, fixed_size, ColumnsUnblocked, ColumnsObey, type_allowed, TypesAllowed, LayoutObeys}
use Rattle.format.specs.Header.{type_place, need_types, need_offsets, split_bodies}
use Rattle.format.proofs.Rules.{Holds, by_test, need_of_then, by_need_of, by_bind, by_map, both}
use Rattle.format.proofs.NumbersLaws.{bytes_read_back, AreBytes, bytes_as_written}
use Rattle.format.proofs.BlocksLaws.{cut_length, block_count_is, sizes_sum}
use Rattle.format.proofs.ArraysLaws.{OffsetsFit, AllFit}

-- ---- rule 8

-- what comes after the types may take them as allowed
pub by_types : {A : Type 0} (Q : A → List ℕ → Type 0) (K : ℕ) (f : Fixed) (v : FileVariant) (types : List ℕ) (next : Out A)
    → (TypesAllowed K v types → Holds Q next) → Holds Q (need_types K f v types next)
unfolding need_types
by_types Q K f v [] next h = h tt
by_types Q K f v (type ∷ types) next h =
    by_need_of Q v (type_allowed (in_block K v) type) _ _ _ (λ e. by_types Q K f (next_variant v) types next (λ g. h (e, g)))

-- allowed types pass
pub types_pass : {A : Type 0} (K : ℕ) (f : Fixed) (v : FileVariant) (types : List ℕ) (next : Out A) → TypesAllowed K v types
    → need_types K f v types next ≡ next
unfolding need_types
types_pass K f v [] next h = refl
types_pass K f v (type ∷ types) next h = simp h.0 (types_pass K f (next_variant v) types next h.1)

-- what follows them all may be said after each
pub types_then : {A B : Type 0} (K : ℕ) (f : Fixed) (v : FileVariant) (types : List ℕ) (m : Out A) (next : A → List ℕ → Out B)
    → bind (need_types K f v types m) next ≡ need_types K f v types (bind m next)
unfolding need_types
types_then K f v [] m next = refl
types_then K f v (type ∷ types) m next =
    need_of_then v (type_allowed (in_block K v) type) 8 (type_place K f v) (need_types K f (next_variant v) types m) next
    ∙ ap (need_of v (type_allowed (in_block K v) type) 8 (type_place K f v)) (types_then K f (next_variant v) types m next)

-- ---- rule 9, the offset fields

-- what comes after the offsets may take them as the starts
pub by_offsets : {A : Type 0} (Q : A → List ℕ → Type 0) (f : Fixed) (place : ℕ) (offsets starts : List ℕ) (next : Out A) → length offsets ≡ length starts
    → (offsets ≡ starts → Holds Q next) → Holds Q (need_offsets f place offsets starts next)
unfolding need_offsets
by_offsets Q f place [] [] next l h = h refl
by_offsets Q f place [] (start ∷ starts) next l h = absurd (omega arith)
by_offsets Q f place (offset ∷ offsets) [] next l h = absurd (omega arith)
by_offsets Q f place (offset ∷ offsets) (start ∷ starts) next l h =
    by_need_of Q _ (eqb offset start) _ _ _ (λ t. by_offsets Q f (place + 8) offsets starts next (omega arith) (λ g. h (cc (eqb-true offset start t))))

-- right offsets pass
pub offsets_pass : {A : Type 0} (f : Fixed) (place : ℕ) (offsets : List ℕ) (next : Out A) → need_offsets f place offsets offsets next ≡ next
unfolding need_offsets
offsets_pass f place [] next = refl
offsets_pass f place (offset ∷ offsets) next = simp (eq-eqb offset offset refl) (offsets_pass f (place + 8) offsets next)

-- ---- rule 9, the bodies

-- joined bodies are split again
pub bodies_read_back : (end : ℕ) (bodies : List (List ℕ)) → split_bodies end (map length bodies) (joined bodies) ≡ ok bodies []
unfolding split_bodies joined
bodies_read_back end [] = refl
bodies_read_back end (body ∷ bodies) = simp (bytes_read_back end body (joined bodies), bodies_read_back end bodies)

pub record AreBodies (lengths bs : List ℕ) (bodies : List (List ℕ)) (left : List ℕ) : Type 0 where
  pub ended : left ≡ []
  pub written : bs ≡ joined bodies
  pub lengths_same : map length bodies ≡ lengths

-- what was split are the bodies joined, to the last byte
pub bodies_as_written : (end : ℕ) (lengths bs : List ℕ) → Holds (AreBodies lengths bs) (split_bodies end lengths bs)
unfolding split_bodies joined
bodies_as_written end [] [] = record { ended = refl; written = refl; lengths_same = refl }
bodies_as_written end [] (b ∷ bs) = tt
bodies_as_written end (n ∷ ns) bs =
    by_bind (AreBytes n bs) (AreBodies (n ∷ ns) bs) (read_bytes end n bs) _ (bytes_as_written end n bs) (λ body left₁ h₁.
    by_map (AreBodies ns left₁) (AreBodies (n ∷ ns) bs) (split_bodies end ns left₁) _ (bodies_as_written end ns left₁) (λ bodies left h.
    record { ended = h.ended; written = simp (h₁.0, h.written); lengths_same = cc (h₁.1, h.lengths_same) }))

-- ---- how many there are

-- a start for each number of variants
pub starts_length : (start : ℕ) (ns lengths : List ℕ) → length (block_starts start ns lengths) ≡ length ns
unfolding block_starts
starts_length start [] lengths = refl
starts_length start (n ∷ ns) lengths = ap suc (starts_length (start + sum (take n lengths)) ns (drop n lengths))

-- a start for each block
pub starts_count : (K start : ℕ) (f : Fixed) (lengths : List ℕ) → length (block_starts start (block_sizes K f) lengths) ≡ block_count K f
starts_count K start f lengths = starts_length start (block_sizes K f) lengths ∙ cut_length K (block_count K f) f.variants

-- a length for each variant
pub lengths_counted : (f : Fixed) (c : Columns) → ColumnsObey f c → length c.lengths ≡ f.variants
lengths_counted f c h = go (unblocked f.mode) h
  where
    go : (b : Bool) → pick b (ColumnsUnblocked f c) (AllFit f c) → length c.lengths ≡ f.variants
    go true g = ap length g.lengths_same ∙ length-replicate f.variants (fixed_size f)
    go false g = g.lengths_count

-- a type for each variant
pub types_counted : (f : Fixed) (c : Columns) → ColumnsObey f c → length c.types ≡ f.variants
types_counted f c h = go (unblocked f.mode) h
  where
    go : (b : Bool) → pick b (ColumnsUnblocked f c) (AllFit f c) → length c.types ≡ f.variants
    go true g = ap length g.types_same ∙ length-replicate f.variants (fixed_type f)
    go false g = g.types_count

-- ---- sums

-- a sum is that of a first part and the rest
pub sum_split : (n : ℕ) (ns : List ℕ) → sum (take n ns) + sum (drop n ns) ≡ sum ns
unfolding sum
sum_split zero ns = omega arith
sum_split (suc n) [] = refl
sum_split (suc n) (x ∷ ns) = omega (arith, sum_split n ns)

-- the sum of two lists joined
pub sum_append : (xs ys : List ℕ) → sum (xs ++ ys) ≡ sum xs + sum ys
unfolding sum
sum_append [] ys = omega arith
sum_append (x ∷ xs) ys = omega (arith, sum_append xs ys)

-- a sum of numbers below m
sum_below : (m : ℕ) (ns : List ℕ) → Below m ns → sum ns ≤ length ns * m
unfolding sum
sum_below m [] h = zero-le
sum_below m (x ∷ ns) h = omega (arith, sum_below m ns h.1, h.0, suc-mul (length ns) m)

-- starts are below what all records end below
starts_below : (m start : ℕ) (ns lengths : List ℕ) → start + sum lengths < m → Below m (block_starts start ns lengths)
unfolding block_starts
starts_below m start [] lengths h = tt
starts_below m start (n ∷ ns) lengths h =
    (omega arith, starts_below m (start + sum (take n lengths)) ns (drop n lengths) (omega (arith, sum_split n lengths)))

-- ---- an offset fits its eight bytes

-- a number in its range is at most the most
pub from_1_to_most : (most n : ℕ) → from_1_to most n ≡ true → n ≤ most
from_1_to_most most n e = leb-true n most (both (leb 1 n) (leb n most) e).1

-- and not zero
pub from_1_to_positive : (most n : ℕ) → from_1_to most n ≡ true → zero < n
from_1_to_positive most n e = leb-true 1 n (both (leb 1 n) (leb n most) e).0

-- a covered mode is a byte
pub mode_byte : (mode : ℕ) → mode_covered mode ≡ true → mode < 256
mode_byte mode e = go (unblocked mode) (eqb mode 0x10) (eqb-true mode 0x02) (eqb-true mode 0x10) e
  where
    go : (a b : Bool) → (a ≡ true → mode ≡ 0x02) → (b ≡ true → mode ≡ 0x10) → a || b ≡ true → mode < 256
    go true b f g q = omega (arith, f refl)
    go false b f g q = omega (arith, g q)

-- a packed array is not longer than its numbers and seven
packed_small : (bits : Bits) (n : ℕ) → packed_size bits n ≤ n + 7
packed_small bits n = omega (arith, div-le_self (n + more bits) (suc (more bits)), most bits)
  where
    most : (bits : Bits) → more bits ≤ 7
    most one = lit≤ tt
    most two = lit≤ tt
    most four = lit≤ tt
    most eight = lit≤ tt

-- the arrays of a block are not long
block_small : (form : Form) (n : ℕ) → form.length_width ≤ 4 → block_size form n ≤ 6 * n + 14
unfolding block_size
block_small form n w =
    omega (
      arith,
      packed_small form.type_bits n,
      packed_small one (flag_count form n),
      mul-le-mul_right n w,
      by_test (λ (k : ℕ). k ≤ n) form.flags_stored (λ t. le_refl n) (λ t. zero-le),
    )

-- nor those of all blocks
blocks_small : (form : Form) (ns : List ℕ) → form.length_width ≤ 4 → sum (map (block_size form) ns) ≤ 6 * sum ns + 14 * length ns
unfolding sum
blocks_small form [] w = zero-le
blocks_small form (n ∷ ns) w = omega (arith, block_small form n w, blocks_small form ns w)

-- rounded up, a quotient is at most its dividend
few_blocks : (K n : ℕ) → zero < K → zero < n → (n + (K - 1)) / K ≤ n
few_blocks zero n p q = absurd (omega arith)
few_blocks (suc k) zero p q = absurd (omega arith)
few_blocks (suc k) (suc n) p q = div-le_of_le-mul (suc k) (omega (arith, suc-mul k (suc n), mul-suc k n))

-- a length has at most four bytes
pub length_width_most : (f : Fixed) → (form_of f).length_width ≤ 4
length_width_most f = omega arith

-- a block has a variant, so there are at most as many blocks as variants
pub block_count_most : (K : ℕ) (f : Fixed) → zero < K → unblocked f.mode ≡ false → zero < f.variants → block_count K f ≤ f.variants
block_count_most K f p e q = rw (block_count_is K f e) (few_blocks K f.variants p q)

-- the arrays are not long: 28 bytes for each variant suffice
pub arrays_small : (K : ℕ) (f : Fixed) → zero < K → unblocked f.mode ≡ false → zero < f.variants → arrays_size K f ≤ 28 * f.variants
unfolding arrays_size blocked_size
arrays_small K f p e q =
    simp e (omega (
      arith,
      block_count_most K f p e q,
      blocks_small (form_of f) (block_sizes K f) (length_width_most f),
      sizes_sum K f p e,
      cut_length K (block_count K f) f.variants,
    ))

-- each offset of a layout that obeys fits eight bytes
pub offsets_small : (K : ℕ) (l : Layout) → zero < K → LayoutObeys K l → Below (256 ^ 8) (arrays_of K l).offsets
unfolding cut block_starts block_count
offsets_small K l p h = go (unblocked l.mode) refl
  where
    go : (b : Bool) → unblocked l.mode ≡ b → Below (256 ^ 8) (arrays_of K l).offsets
    go true e = simp e tt
    go false e =
        let f : Fixed = fixed_of l in
        let g : AllFit f (columns_of l) = simp e at h.columns in
        starts_below (256 ^ 8) (first_record K f) (block_sizes K f) (body_lengths l)
        (omega (
          arith,
          arrays_small K f p e (from_1_to_positive most_variants f.variants h.fixed.variants),
          from_1_to_most most_variants f.variants h.fixed.variants,
          g.lengths_count,
          sum_below (256 ^ (form_of f).length_width) (body_lengths l) g.lengths_small,
          mul-le-mul_left (length (body_lengths l)) (pow-le-pow_right {n = 256} (lit< tt) (length_width_most f)),
        ))

-- the offsets of a layout that obeys fit
pub offsets_fit : (K : ℕ) (l : Layout) → zero < K → LayoutObeys K l → OffsetsFit K (fixed_of l) (arrays_of K l).offsets
offsets_fit K l p h = (starts_count K _ (fixed_of l) (body_lengths l), offsets_small K l p h)
