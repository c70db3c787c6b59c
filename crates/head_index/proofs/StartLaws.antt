-- Where the record of a variant starts, and its bytes: what code computes from an index and finds in the data is the layout's.
-- Assumes nothing.
use mathlib.Core.Path.{◌≡◌, refl, sym, ap, ◌∙◌}
use Prim.Native.Nat.{ℕ, zero, suc, ◌+◌, ◌-◌, ◌*◌, ◌/◌, ◌%◌, ◌≤◌, ◌<◌, min}
use native.Mathlib.Nat.{add-zero, zero-mul, suc-mul, min-eq_left, min-le_right}
use mathlib.Core.Bool.{true, false}
use mathlib.Core.List.{List, [], ◌∷◌, ◌++◌, map}
use lib.ListN.{length, take, drop, get_or, replicate, get_or-replicate, length-drop, length-map, get_or-map}
use lib.Seq.{drop-append-add, drop-drop, take-take, take-add, take_at, take-suc, take-length, take-nil}
use native.Mathlib.Omega.{arith}
use Rattle.format.specs.declared.FileVariant.{FileVariant}
use Rattle.format.specs.Numbers.{numbers_bytes}
use Rattle.format.specs.Variant.{file_variant, next_variant, block_of, in_block}
use Rattle.format.specs.Layout.{Fixed, fixed_bytes, unblocked, form_of, Arrays, sum, block_count, cut, block_sizes, blocks_bytes, first_record}
use Rattle.format.specs.Layout.{Layout, fixed_of, body_lengths, columns_of, block_starts, arrays_of, joined, in_parts, layout_bytes, record_start, fixed_size}
use Rattle.format.specs.Layout.{ColumnsUnblocked, LayoutObeys, fixed_type}
use Rattle.format.proofs.Rules.{below_take, below_drop}
use Rattle.format.proofs.BlocksLaws.{blocks_hold_all}
use Rattle.format.proofs.ArraysLaws.{fixed_length, AllFit}
use Rattle.format.proofs.OffsetsLaws.{sum_append, sum_split}
use Rattle.head_index.specs.NumbersAt.{number_at, numbers_at}
use Rattle.head_index.specs.VariantsAt.{block_variants, lengths_place, offset_at, type_at, length_at, start_at}
use Rattle.head_index.specs.Known.{Known}
use Rattle.head_index.specs.Stored.{Stored}
use Rattle.head_index.proofs.StoredLaws.{stored_layout, stored_data}
use Rattle.head_index.proofs.ByIndex.{row_number_at}
use Rattle.head_index.proofs.ByIndex.{numbers_at_are}
use Rattle.head_index.proofs.PlaceLaws.{block_there, known, in_parts_blocked, TwoNumbers, two_numbers, column_length, lengths_found, type_at_is}
use Rattle.head_index.proofs.PlaceLaws.{length_at_is}

-- ---- offsets

-- start j: where its block's records start
pub block_start_is : (K j blocks M start : ℕ) (lengths : List ℕ) → j * K < M → M ≤ blocks * K → length lengths ≡ M
    → get_or (block_starts start (cut K blocks M) lengths) j 0 ≡ start + sum (take (j * K) lengths)
unfolding block_starts cut sum
block_start_is K j zero M start lengths a b e = absurd (omega (arith, zero-mul K))
block_start_is K zero (suc blocks) M start lengths a b e = simp (zero-mul, add-zero)
block_start_is K (suc j) (suc blocks) M start lengths a b e =
    let full : min K M ≡ K = min-eq_left (omega (arith, suc-mul j K)) in
    let y : suc j * K ≡ K + j * K = omega (arith, suc-mul j K) in
    rw full (block_start_is K j blocks (M - K) (start + sum (take K lengths)) (drop K lengths) (omega (arith, suc-mul j K)) (omega (arith, suc-mul blocks K))
    (length-drop K lengths ∙ omega arith)
    ∙ rw (y, take-add K (j * K) lengths) (omega (arith, sum_append (take K lengths) (take (j * K) (drop K lengths)))))

-- the offset that code computes is the stored one
pub offset_at_is : (K j : ℕ) (f : Fixed) (a : Arrays) (records : List ℕ) → Known K f a → j < block_count K f
    → offset_at (in_parts K f a records) j ≡ get_or a.offsets j 0
unfolding offset_at
offset_at_is K j f a records h lt =
    let offsets : List ℕ = a.offsets in
    let rest : List ℕ = blocks_bytes (form_of f) (block_sizes K f) a.columns ++ records in
    let k : 12 + 8 * j ≡ length (fixed_bytes f) + 8 * j = omega (arith, fixed_length f) in
    let d : drop (12 + 8 * j) (in_parts K f a records) ≡ drop (8 * j) (numbers_bytes 8 offsets ++ rest)
    = ap (λ (z : List ℕ). drop (12 + 8 * j) z) (in_parts_blocked K f a records h.blocked)
    ∙ ap (λ (z : ℕ). drop z (fixed_bytes f ++ (numbers_bytes 8 offsets ++ rest))) k ∙ drop-append-add (fixed_bytes f) _ _ in
    ap (number_at 8) d ∙ row_number_at 8 j offsets rest h.offsets_fit.1 (rw h.offsets_fit.0 lt)

-- the lengths before variant v in its block
pub lengths_before : (K : ℕ) (v : FileVariant) (f : Fixed) (a : Arrays) (records : List ℕ) → Known K f a → v.0 < f.variants
    → numbers_at (form_of f).length_width (in_block K v).0 (drop (lengths_place K f (block_of K v)) (in_parts K f a records))
    ≡ take (in_block K v).0 (drop (block_of K v * K) a.columns.lengths)
unfolding block_variants
lengths_before K v f a records h lt =
    let start : ℕ = v.0 / K * K in
    let i : ℕ = v.0 % K in
    let w : ℕ = (form_of f).length_width in
    let c : TwoNumbers K f.variants v.0 = two_numbers K f.variants v.0 h.some lt in
    let g : AllFit f a.columns = h.all_fit in
    let n : ℕ = min K (f.variants - start) in
    let all : List ℕ = a.columns.lengths in
    let lengths : List ℕ = take n (drop start all) in
    let b = lengths_found K (v.0 / K) f a records h c.inside in
    ap (numbers_at w i) b.1
    ∙ numbers_at_are w i lengths b.0 (below_take _ n (drop start all) (below_drop _ start all g.lengths_small))
    (rw (column_length f.variants start n all g.lengths_count (min-le_right K _)) (omega (arith, c.counted)))
    ∙ take-take i n (drop start all) (omega (arith, c.counted))

-- ---- by the index, with blocks

module _ (K : ℕ) (index held : List ℕ) (l : Layout) (p : zero < K) (s : Stored K index held l) (blocked : unblocked l.mode ≡ false) (v : FileVariant)
    (there : v.0 < length l.bodies) where
  -- the type that code computes is the layout's
  pub stored_type : type_at K (fixed_of l) index v ≡ get_or l.types v.0 0
  stored_type =
      ap (λ (z : List ℕ). type_at K (fixed_of l) z v) s.index_is
      ∙ type_at_is K v (fixed_of l) (arrays_of K l) s.after (known K l p s.obeys blocked) there

  -- the length that code computes is the body's
  pub stored_length : length_at K (fixed_of l) index v ≡ get_or (body_lengths l) v.0 0
  stored_length =
      ap (λ (z : List ℕ). length_at K (fixed_of l) z v) s.index_is
      ∙ length_at_is K v (fixed_of l) (arrays_of K l) s.after (known K l p s.obeys blocked) there

  -- the start that code computes, by the block's offset and the lengths before, is the record's
  pub stored_start : start_at K (fixed_of l) index v ≡ record_start K l v
  unfolding start_at record_start
  stored_start =
      let f : Fixed = fixed_of l in
      let a : Arrays = arrays_of K l in
      let k : Known K f a = known K l p s.obeys blocked in
      let c : TwoNumbers K f.variants v.0 = two_numbers K f.variants v.0 p there in
      let block : ℕ = v.0 / K in
      let lengths : List ℕ = body_lengths l in
      let before : List ℕ = take (block * K) lengths in
      let inside : List ℕ = take (v.0 % K) (drop (block * K) lengths) in
      let q : f.variants ≤ block_count K f * K = blocks_hold_all K f p blocked in
      let o : offset_at (in_parts K f a s.after) block ≡ first_record K f + sum before
      = offset_at_is K block f a s.after k (block_there K block (block_count K f) f.variants c.inside q)
      ∙ block_start_is K block (block_count K f) f.variants (first_record K f) lengths c.inside q k.all_fit.lengths_count in
      let cut_there : take v.0 lengths ≡ before ++ inside = ap (λ (z : ℕ). take z lengths) (sym c.both) ∙ take-add (block * K) (v.0 % K) lengths in
      ap (λ (z : List ℕ). start_at K f z v) s.index_is
      ∙ omega (arith, o, ap sum (lengths_before K v f a s.after k there), ap sum cut_there, sum_append before inside)

-- the same in a file in one piece
module _ (K : ℕ) (l : Layout) (p : zero < K) (h : LayoutObeys K l) (blocked : unblocked l.mode ≡ false) (v : FileVariant)
    (there : v.0 < length l.bodies) where
  pub layout_type_at : type_at K (fixed_of l) (layout_bytes K l) v ≡ get_or l.types v.0 0
  layout_type_at = stored_type K (layout_bytes K l) (layout_bytes K l) l p (stored_layout K l p h) blocked v there

  pub layout_length_at : length_at K (fixed_of l) (layout_bytes K l) v ≡ get_or (body_lengths l) v.0 0
  layout_length_at = stored_length K (layout_bytes K l) (layout_bytes K l) l p (stored_layout K l p h) blocked v there

  pub start_at_is : start_at K (fixed_of l) (layout_bytes K l) v ≡ record_start K l v
  start_at_is = stored_start K (layout_bytes K l) (layout_bytes K l) l p (stored_layout K l p h) blocked v there

-- ---- no blocks: records of one type and one length

-- the sum of equal numbers
sum_same : (v m w : ℕ) → v ≤ m → sum (take v (replicate m w)) ≡ v * w
unfolding sum
sum_same zero m w h = sym (zero-mul w)
sum_same (suc v) zero w h = absurd (omega arith)
sum_same (suc v) (suc m) w h = omega (arith, sum_same v m w (omega arith), suc-mul v w)

-- there a record starts after as many equal ones as its variant's number
pub unblocked_start : (K : ℕ) (v : FileVariant) (l : Layout) → LayoutObeys K l → unblocked l.mode ≡ true → v.0 ≤ length l.bodies
    → record_start K l v ≡ first_record K (fixed_of l) + v.0 * fixed_size (fixed_of l)
unfolding record_start
unblocked_start K v l h e lt =
    let g : ColumnsUnblocked (fixed_of l) (columns_of l) = simp e at h.columns in
    ap (λ (z : List ℕ). first_record K (fixed_of l) + sum (take v.0 z)) g.lengths_same
    ∙ ap (λ (z : ℕ). first_record K (fixed_of l) + z) (sum_same v.0 (length l.bodies) (fixed_size (fixed_of l)) lt)

-- and has the one type
pub unblocked_type : (K : ℕ) (v : FileVariant) (l : Layout) → LayoutObeys K l → unblocked l.mode ≡ true → v.0 < length l.bodies
    → get_or l.types v.0 0 ≡ fixed_type (fixed_of l)
unblocked_type K v l h e lt =
    let g : ColumnsUnblocked (fixed_of l) (columns_of l) = simp e at h.columns in
    ap (λ (z : List ℕ). get_or z v.0 0) g.types_same ∙ get_or-replicate (length l.bodies) v.0 (fixed_type (fixed_of l)) 0 lt

-- and the one length
pub unblocked_length : (K : ℕ) (v : FileVariant) (l : Layout) → LayoutObeys K l → unblocked l.mode ≡ true → v.0 < length l.bodies
    → get_or (body_lengths l) v.0 0 ≡ fixed_size (fixed_of l)
unblocked_length K v l h e lt =
    let g : ColumnsUnblocked (fixed_of l) (columns_of l) = simp e at h.columns in
    ap (λ (z : List ℕ). get_or z v.0 0) g.lengths_same ∙ get_or-replicate (length l.bodies) v.0 (fixed_size (fixed_of l)) 0 lt

-- ---- where a record ends

-- a body's length by its index
pub body_length_at : (v : FileVariant) (l : Layout) → get_or (body_lengths l) v.0 0 ≡ length (get_or l.bodies v.0 [])
body_length_at v l = get_or-map length l.bodies v.0 []

-- a record ends where the next starts
pub record_end : (K : ℕ) (v : FileVariant) (l : Layout) → v.0 < length l.bodies
    → record_start K l (next_variant v) ≡ record_start K l v + length (get_or l.bodies v.0 [])
unfolding record_start sum
record_end K v l lt =
    let n : v.0 < length (body_lengths l) = rw length-map lt in
    omega (
      arith,
      ap sum (take-suc (body_lengths l) v.0 0 n),
      sum_append (take v.0 (body_lengths l)) (get_or (body_lengths l) v.0 0 ∷ []),
      body_length_at v l,
    )

-- ---- in the data, with blocks or without

-- past the bodies before it stands a body
body_found : (v : ℕ) (bodies : List (List ℕ)) → v < length bodies
    → (after : List ℕ) × (drop (sum (take v (map length bodies))) (joined bodies) ≡ get_or bodies v [] ++ after)
unfolding sum joined
body_found v [] l = absurd (omega arith)
body_found zero (body ∷ bodies) l = (joined bodies, refl)
body_found (suc v) (body ∷ bodies) l = let h = body_found v bodies (omega arith) in (h.0, drop-append-add body (joined bodies) _ ∙ h.1)

-- the first bytes from a place on, and what is left of the bytes up to where those end
drop_of_take : (start size : ℕ) (bs : List ℕ) → drop start (take (start + size) bs) ≡ take size (drop start bs)
drop_of_take zero size bs = let e : 0 + size ≡ size = omega arith in rw e refl
drop_of_take (suc start) size [] = simp take-nil
drop_of_take (suc start) size (b ∷ bs) = let e : suc start + size ≡ suc (start + size) = omega arith in rw e (drop_of_take start size bs)

module _ (K : ℕ) (index held : List ℕ) (l : Layout) (s : Stored K index held l) where
  -- the last record ends where the data does
  pub stored_end : record_start K l (file_variant (length l.bodies)) ≡ length held
  unfolding record_start
  stored_end =
      let e : take (length l.bodies) (body_lengths l) ≡ body_lengths l
      = ap (λ (n : ℕ). take n (body_lengths l)) (sym (length-map l.bodies length)) ∙ take-length (body_lengths l) in
      omega (arith, ap sum e, stored_data K index held l s)

  module _ (v : FileVariant) (there : v.0 < length l.bodies) where
    -- at a record's start, as long as its length says, stands its body
    pub stored_body : take (get_or (body_lengths l) v.0 0) (drop (record_start K l v) held) ≡ get_or l.bodies v.0 []
    unfolding record_start
    stored_body =
        let before : ℕ = sum (take v.0 (body_lengths l)) in
        let b = body_found v.0 l.bodies there in
        let d : drop (first_record K (fixed_of l) + before) held ≡ get_or l.bodies v.0 [] ++ b.0
        = sym (drop-drop before (first_record K (fixed_of l)) held) ∙ ap (drop before) s.data_is ∙ b.1 in
        ap (take (get_or (body_lengths l) v.0 0)) d ∙ take_at (get_or l.bodies v.0 []) b.0 _ (sym (body_length_at v l))

    -- as code cuts it out of the data
    pub stored_record : drop (record_start K l v) (take (record_start K l (next_variant v)) held) ≡ get_or l.bodies v.0 []
    stored_record =
        ap (λ (end : ℕ). drop (record_start K l v) (take end held))
        (record_end K v l there ∙ ap (λ (n : ℕ). record_start K l v + n) (sym (body_length_at v l)))
        ∙ drop_of_take (record_start K l v) (get_or (body_lengths l) v.0 0) held ∙ stored_body

    -- so a record lies inside the data
    pub stored_inside : record_start K l v + length (get_or l.bodies v.0 []) ≤ length held
    unfolding record_start
    stored_inside =
        let lengths : List ℕ = body_lengths l in
        omega (arith, record_end K v l there, stored_data K index held l s, sum_split (suc v.0) lengths)

-- the same in a file in one piece
pub body_at_is : (K : ℕ) (v : FileVariant) (l : Layout) → zero < K → LayoutObeys K l → v.0 < length l.bodies
    → take (get_or (body_lengths l) v.0 0) (drop (record_start K l v) (layout_bytes K l)) ≡ get_or l.bodies v.0 []
body_at_is K v l p h lt = stored_body K (layout_bytes K l) (layout_bytes K l) l (stored_layout K l p h) v lt

pub records_end : (K : ℕ) (l : Layout) → zero < K → LayoutObeys K l → record_start K l (file_variant (length l.bodies)) ≡ length (layout_bytes K l)
records_end K l p h = stored_end K (layout_bytes K l) (layout_bytes K l) l (stored_layout K l p h)
