-- The anchor that code finds in the header's bytes is the layout's.
-- Assumes nothing.
use mathlib.Core.Path.{◌≡◌, refl, ap, ◌∙◌}
use Prim.Native.Nat.{ℕ, zero, suc, ◌-◌, ◌*◌, ◌/◌, ◌%◌, ◌≤◌, ◌<◌, min}
use native.Mathlib.Nat.{min-le_right}
use mathlib.Core.Bool.{false}
use mathlib.Core.List.{List, append_assoc}
use lib.ListN.{length, take, drop, get_or}
use lib.Seq.{get_or-take, take-take}
use native.Mathlib.Omega.{arith}
use Rattle.format.specs.declared.FileVariant.{FileVariant}
use Rattle.format.specs.Variant.{in_file, last_standing, anchor}
use Rattle.format.specs.Layout.{Fixed, form_of, Arrays, block_bytes, Layout, fixed_of, arrays_of, in_parts, layout_bytes, unblocked, LayoutObeys}
use Rattle.format.specs.Header.{block_place}
use Rattle.format.proofs.Rules.{below_take, below_drop}
unfoldable pub use Rattle.head_index.specs.VariantsAt.{anchor_at}
use Rattle.head_index.specs.NumbersAt.{digits_at}
use Rattle.head_index.specs.VariantsAt.{block_variants}
use Rattle.head_index.specs.Known.{Known}
use Rattle.head_index.specs.Stored.{Stored}
use Rattle.head_index.proofs.StoredLaws.{stored_layout}
use Rattle.head_index.proofs.ByIndex.{digits_at_are}
use Rattle.head_index.proofs.PlaceLaws.{known, block_at, TwoNumbers, two_numbers, column_length}

-- only the first i types matter
nearest_first : (types : List ℕ) (n i : ℕ) → i ≤ n → last_standing (take n types) i ≡ last_standing types i
unfolding last_standing
nearest_first types n zero h = refl
nearest_first types n (suc i) h =
    let e : get_or (take n types) i 0 ≡ get_or types i 0 = get_or-take n types i 0 (omega arith) in
    rw (e, nearest_first types n i (omega arith)) refl

-- in a file that has passed 1 to 7
pub anchor_at_is : (K : ℕ) (v : FileVariant) (f : Fixed) (a : Arrays) (records : List ℕ) → Known K f a → v.0 < f.variants
    → anchor_at K f (in_parts K f a records) v ≡ anchor K a.columns.types v
unfolding anchor_at anchor block_bytes block_variants
anchor_at_is K v f a records h lt =
    let start : ℕ = v.0 / K * K in
    let i : ℕ = v.0 % K in
    let c : TwoNumbers K f.variants v.0 = two_numbers K f.variants v.0 h.some lt in
    let n : ℕ = min K (f.variants - start) in
    let left : List ℕ = drop start a.columns.types in
    let types : List ℕ = take n left in
    let l : length types ≡ n = column_length f.variants start n a.columns.types h.all_fit.types_count (min-le_right K _) in
    let b = block_at K (v.0 / K) f a records h c.inside in
    let d : digits_at (form_of f).type_bits (drop (block_place K f (v.0 / K)) (in_parts K f a records)) 0 i ≡ take i left
    = ap (λ (z : List ℕ). digits_at (form_of f).type_bits z 0 i) (simp append_assoc at b.1)
    ∙ digits_at_are (form_of f).type_bits 0 i types _ (below_take _ n left (below_drop _ start a.columns.types h.all_fit.types_small))
    (omega (arith, c.counted))
    ∙ take-take i n left (omega (arith, c.counted)) in
    ap (in_file K (v.0 / K)) (ap (λ (z : List ℕ). last_standing z i) d ∙ nearest_first left i i (omega arith))

-- by the index of a layout
pub stored_anchor : (K : ℕ) (index held : List ℕ) (l : Layout) → zero < K → Stored K index held l → unblocked l.mode ≡ false → (v : FileVariant)
    → v.0 < length l.bodies → anchor_at K (fixed_of l) index v ≡ anchor K l.types v
stored_anchor K index held l p s e v lt =
    ap (λ (z : List ℕ). anchor_at K (fixed_of l) z v) s.index_is
    ∙ anchor_at_is K v (fixed_of l) (arrays_of K l) s.after (known K l p s.obeys e) lt

-- the same in a file in one piece
pub layout_anchor_at : (K : ℕ) (v : FileVariant) (l : Layout) → zero < K → LayoutObeys K l → unblocked l.mode ≡ false → v.0 < length l.bodies
    → anchor_at K (fixed_of l) (layout_bytes K l) v ≡ anchor K l.types v
layout_anchor_at K v l p h e lt = stored_anchor K (layout_bytes K l) (layout_bytes K l) l p (stored_layout K l p h) e v lt
