-- Where code finds a variant's type and length in a file with blocks that has passed 1 to 7.
-- Assumes nothing.
use mathlib.Core.Path.{◌≡◌, refl, sym, ap, ◌∙◌}
use Prim.Native.Nat.{ℕ, zero, suc, ◌+◌, ◌-◌, ◌*◌, ◌/◌, ◌%◌, ◌^◌, ◌≤◌, ◌<◌, min}
use native.Mathlib.Nat.{mod-lt, div-add-mod', le-min, zero-mul, suc-mul, mul-le-mul_right, min-eq_left, min-le_right, sub-zero}
use mathlib.Core.Bool.{false}
use mathlib.Core.List.{List, ◌++◌, append_assoc}
use lib.ListN.{length, take, drop, get_or, length-drop}
use lib.Seq.{drop-append-add, drop_at, drop-drop, get_or-drop, get_or-take, length-take-le}
use native.Mathlib.Omega.{arith}
use Rattle.format.specs.declared.FileVariant.{FileVariant}
use Rattle.format.specs.Numbers.{numbers_bytes}
use Rattle.format.specs.Packed.{one, limit, more, packed, packed_size}
use Rattle.format.specs.Layout.{Fixed, fixed_bytes, unblocked, Form, form_of, Columns, take_columns, drop_columns, Arrays, block_count, cut, block_sizes}
use Rattle.format.specs.Layout.{block_bytes, blocks_bytes, blocked_bytes, arrays_bytes, header_bytes, block_size, Layout, fixed_of, arrays_of, in_parts}
use Rattle.format.specs.Layout.{ColumnsFit, LayoutObeys}
use Rattle.format.specs.Header.{block_place, type_place}
use Rattle.format.proofs.Rules.{split, below_take, below_drop}
use Rattle.format.proofs.NumbersLaws.{numbers_length}
use Rattle.format.proofs.PackedLaws.{packed_length, packed_at}
use Rattle.format.proofs.ColumnsLaws.{columns_taken, columns_dropped}
use Rattle.format.proofs.BlocksLaws.{blocks_hold_all, block_length}
use Rattle.format.proofs.ArraysLaws.{fixed_length, AllFit}
use Rattle.format.proofs.OffsetsLaws.{offsets_fit}
pub use Rattle.head_index.specs.Known.{Known}
use Rattle.head_index.specs.NumbersAt.{number_at}
use Rattle.head_index.specs.VariantsAt.{block_variants, lengths_place, type_at, length_at}
use Rattle.head_index.proofs.ByIndex.{row_number_at}

-- ---- past full blocks

-- past j full blocks stand the arrays of the variants from j * K on
pub past_blocks : (form : Form) (K j blocks M : ℕ) (c : Columns) (left : List ℕ) → j * K < M → M ≤ blocks * K → ColumnsFit form M c
    → drop (j * block_size form K) (blocks_bytes form (cut K blocks M) c ++ left)
    ≡ blocks_bytes form (cut K (blocks - j) (M - j * K)) (drop_columns (j * K) c) ++ left
unfolding blocks_bytes cut
past_blocks form K zero blocks M c left a b h = simp (zero-mul, sub-zero)
past_blocks form K (suc j) zero M c left a b h = absurd (omega (arith, zero-mul K))
past_blocks form K (suc j) (suc blocks) M c left a b h =
    let e : K + (M - K) ≡ M = omega (arith, suc-mul j K) in
    let full : min K M ≡ K = min-eq_left (omega arith) in
    let whole : ColumnsFit form (K + (M - K)) c = rw e h in
    let block : List ℕ = block_bytes form (take_columns K c) in
    let size : length block ≡ block_size form K = block_length form K (take_columns K c) (columns_taken form K (M - K) c whole) in
    let later : drop (j * block_size form K) (blocks_bytes form (cut K blocks (M - K)) (drop_columns K c) ++ left)
    ≡ blocks_bytes form (cut K (blocks - j) (M - K - j * K)) (drop_columns (j * K) (drop_columns K c)) ++ left
    = past_blocks form K j blocks (M - K) (drop_columns K c) left (omega (arith, suc-mul j K)) (omega (arith, suc-mul blocks K))
    (columns_dropped form K (M - K) c whole) in
    let past : suc j * block_size form K ≡ length block + j * block_size form K = omega (arith, suc-mul j (block_size form K), size) in
    let e₂ : blocks - j ≡ suc blocks - suc j = omega arith in
    let e₃ : M - K - j * K ≡ M - suc j * K = omega (arith, suc-mul j K) in
    let e₄ : K + j * K ≡ suc j * K = omega (arith, suc-mul j K) in
    rw (full, past, append_assoc, drop-append-add) (later ∙ simp (drop-drop, e₂, e₃, e₄))

-- a block that starts before the end is one of the blocks
pub block_there : (K j blocks M : ℕ) → j * K < M → M ≤ blocks * K → j < blocks
block_there K j blocks M a b = split blocks j (λ h. absurd (omega (arith, mul-le-mul_right K h))) (λ h. h)

-- the arrays of block j, of n variants, and what stands after them
block_found : (form : Form) (K j blocks M n : ℕ) (c : Columns) (left : List ℕ) → j * K < M → M ≤ blocks * K → ColumnsFit form M c → min K (M - j * K) ≡ n
    → (after : List ℕ) × (drop (j * block_size form K) (blocks_bytes form (cut K blocks M) c ++ left)
    ≡ block_bytes form (take_columns n (drop_columns (j * K) c)) ++ after)
unfolding blocks_bytes cut
block_found form K j blocks M n c left a b h e =
    let q : blocks - j ≡ suc (blocks - suc j) = omega (arith, block_there K j blocks M a b) in
    (_, rw (q, e, append_assoc) at (past_blocks form K j blocks M c left a b h))

-- ---- in a file

-- of a layout that obeys
pub known : (K : ℕ) (l : Layout) → zero < K → LayoutObeys K l → unblocked l.mode ≡ false → Known K (fixed_of l) (arrays_of K l)
known K l p h e = record { some = p; blocked = e; offsets_fit = offsets_fit K l p h; all_fit = simp e at h.columns }

-- the parts of a file with blocks, one after another
pub in_parts_blocked : (K : ℕ) (f : Fixed) (a : Arrays) (records : List ℕ) → unblocked f.mode ≡ false
    → in_parts K f a records
    ≡ fixed_bytes f ++ (numbers_bytes 8 a.offsets ++ (blocks_bytes (form_of f) (block_sizes K f) a.columns ++ records))
unfolding in_parts header_bytes arrays_bytes blocked_bytes
in_parts_blocked K f a records e = simp (e, append_assoc)

-- at its place stand the arrays of block j
pub block_at : (K j : ℕ) (f : Fixed) (a : Arrays) (records : List ℕ) → Known K f a → j * K < f.variants
    → (after : List ℕ) × (drop (block_place K f j) (in_parts K f a records)
    ≡ block_bytes (form_of f) (take_columns (block_variants K f j) (drop_columns (j * K) a.columns)) ++ after)
unfolding block_place block_variants
block_at K j f a records h lt =
    let offsets : List ℕ = a.offsets in
    let rest : List ℕ = blocks_bytes (form_of f) (block_sizes K f) a.columns ++ records in
    let past : ℕ = j * block_size (form_of f) K in
    let b = block_found (form_of f) K j (block_count K f) f.variants (min K (f.variants - j * K)) a.columns records lt
    (blocks_hold_all K f h.some h.blocked) h.all_fit refl in
    let k : 12 + 8 * block_count K f + past ≡ length (fixed_bytes f) + (length (numbers_bytes 8 offsets) + past)
    = omega (arith, fixed_length f, numbers_length 8 offsets, h.offsets_fit.0) in (
      b.0,
      ap (λ (z : List ℕ). drop (12 + 8 * block_count K f + past) z) (in_parts_blocked K f a records h.blocked)
          ∙ ap (λ (z : ℕ). drop z (fixed_bytes f ++ (numbers_bytes 8 offsets ++ rest))) k ∙ drop-append-add (fixed_bytes f) _ _
          ∙ drop-append-add (numbers_bytes 8 offsets) _ _ ∙ b.1,
    )

-- the two numbers of variant v of M: its block's start and its number there
pub record TwoNumbers (K M v : ℕ) : Type 0 where
  pub both : v / K * K + v % K ≡ v
  pub small : v % K < K
  pub inside : v / K * K < M
  pub counted : v % K < min K (M - v / K * K)

-- a variant of the file has them
pub two_numbers : (K M v : ℕ) → zero < K → v < M → TwoNumbers K M v
two_numbers K M v p l =
    let e : v / K * K + v % K ≡ v = div-add-mod' v K in
    let s : v % K < K = mod-lt v p in
    record { both = e; small = s; inside = omega arith; counted = le-min s (omega arith) }

-- a block's part of a column: its length, and one element of it
pub column_length : (M start n : ℕ) (xs : List ℕ) → length xs ≡ M → n ≤ M - start → length (take n (drop start xs)) ≡ n
column_length M start n xs e l = length-take-le n (drop start xs) (rw (length-drop, e) l)

-- one element of it
column_at : (K v n : ℕ) (xs : List ℕ) → v / K * K + v % K ≡ v → v % K < n → get_or (take n (drop (v / K * K) xs)) (v % K) 0 ≡ get_or xs v 0
column_at K v n xs e l =
    get_or-take n (drop (v / K * K) xs) (v % K) 0 l ∙ get_or-drop (v / K * K) xs (v % K) 0 ∙ ap (λ (z : ℕ). get_or xs z 0) e

-- the type that code computes is the column's
pub type_at_is : (K : ℕ) (v : FileVariant) (f : Fixed) (a : Arrays) (records : List ℕ) → Known K f a → v.0 < f.variants
    → type_at K f (in_parts K f a records) v ≡ get_or a.columns.types v.0 0
unfolding type_at type_place block_bytes block_variants
type_at_is K v f a records h lt =
    let block : ℕ = v.0 / K in
    let i : ℕ = v.0 % K in
    let per : ℕ = suc (more (form_of f).type_bits) in
    let most : ℕ = limit (form_of f).type_bits in
    let c : TwoNumbers K f.variants v.0 = two_numbers K f.variants v.0 h.some lt in
    let g : AllFit f a.columns = h.all_fit in
    let n : ℕ = min K (f.variants - block * K) in
    let types : List ℕ = take n (drop (block * K) a.columns.types) in
    let b = block_at K block f a records h c.inside in
    let d : get_or (in_parts K f a records) (block_place K f block + i / per) 0 ≡ get_or (packed (form_of f).type_bits types ++ _) (i / per) 0
    = sym (get_or-drop (block_place K f block) (in_parts K f a records) (i / per) 0) ∙ ap (λ (z : List ℕ). get_or z (i / per) 0) (rw append_assoc at b.1) in
    ap (λ (z : ℕ). z / most ^ (i % per) % most) d
    ∙ packed_at (form_of f).type_bits i types _
    (below_take _ n (drop (block * K) a.columns.types) (below_drop _ (block * K) a.columns.types g.types_small))
    (rw (column_length f.variants (block * K) n a.columns.types g.types_count (min-le_right K _)) c.counted)
    ∙ column_at K v.0 n a.columns.types c.both c.counted

-- at their place stand the lengths of block j
pub lengths_found : (K j : ℕ) (f : Fixed) (a : Arrays) (records : List ℕ) → Known K f a → j * K < f.variants
    → (after : List ℕ) × (drop (lengths_place K f j) (in_parts K f a records)
    ≡ numbers_bytes (form_of f).length_width (take (block_variants K f j) (drop (j * K) a.columns.lengths)) ++ after)
unfolding lengths_place block_bytes block_variants
lengths_found K j f a records h lt =
    let g : AllFit f a.columns = h.all_fit in
    let n : ℕ = block_variants K f j in
    let types : List ℕ = take n (drop (j * K) a.columns.types) in
    let size : ℕ = packed_size (form_of f).type_bits n in
    let b = block_at K j f a records h lt in
    let m : length (packed (form_of f).type_bits types) ≡ size
    = packed_length (form_of f).type_bits n types (column_length f.variants (j * K) n a.columns.types g.types_count (min-le_right K _)) in (
      packed one (take n (drop (j * K) a.columns.flags)) ++ b.0,
      sym (drop-drop size (block_place K f j) (in_parts K f a records)) ∙ ap (drop size) (simp append_assoc at b.1)
          ∙ drop_at (packed (form_of f).type_bits types) _ _ m,
    )

-- the length that code computes is the column's
pub length_at_is : (K : ℕ) (v : FileVariant) (f : Fixed) (a : Arrays) (records : List ℕ) → Known K f a → v.0 < f.variants
    → length_at K f (in_parts K f a records) v ≡ get_or a.columns.lengths v.0 0
unfolding length_at block_variants
length_at_is K v f a records h lt =
    let block : ℕ = v.0 / K in
    let i : ℕ = v.0 % K in
    let w : ℕ = (form_of f).length_width in
    let c : TwoNumbers K f.variants v.0 = two_numbers K f.variants v.0 h.some lt in
    let g : AllFit f a.columns = h.all_fit in
    let n : ℕ = min K (f.variants - block * K) in
    let lengths : List ℕ = take n (drop (block * K) a.columns.lengths) in
    let b = lengths_found K block f a records h c.inside in
    ap (number_at w) (sym (drop-drop (w * i) (lengths_place K f block) (in_parts K f a records)) ∙ ap (drop (w * i)) b.1)
    ∙ row_number_at w i lengths b.0
    (below_take _ n (drop (block * K) a.columns.lengths) (below_drop _ (block * K) a.columns.lengths g.lengths_small))
    (rw (column_length f.variants (block * K) n a.columns.lengths g.lengths_count (min-le_right K _)) c.counted)
    ∙ column_at K v.0 n a.columns.lengths c.both c.counted
