-- The header check accepts exactly the bytes of a layout that obeys: its header, then its records.
-- Assumes nothing.
use mathlib.Core.Path.{◌≡◌, refl, sym, ap, ap₂, ◌∙◌, subst}
use Prim.Native.Nat.{ℕ, zero, ◌<◌}
use mathlib.Core.Bool.{true}
use mathlib.Core.Logic.{◌↔◌}
use mathlib.Core.List.{List, [], ◌++◌}
use lib.ListN.{length, length-append, length-map}
use lib.Dec.{leb, lit<}
use native.Mathlib.Omega.{arith}
use borrow.Author.Tests.{le-leb}
use Rattle.format.specs.Base.{Bytes, ok, numbered, naming}
use Rattle.format.specs.Limits.{most_samples, most_variants}
use Rattle.format.specs.Variant.{file_variant}
use Rattle.format.specs.Layout.{Fixed, fixed_bytes, Arrays, arrays_bytes, arrays_size, Layout, fixed_of, body_lengths, block_offsets, arrays_of, joined}
use Rattle.format.specs.Layout.{in_parts, layout_bytes, FixedObeys, OffsetsFit, ColumnsObey, TypesAllowed, LayoutObeys}
use Rattle.format.specs.Header.{Header, header_with, header_of, read_fixed, read_arrays, need_types, read_after_fixed, read_header}
use Rattle.format.specs.Header.{split_bodies, layout_of, read_bodies, read_data, read_layout}
use Rattle.format.proofs.Rules.{Holds, by_bind, by_map, by_numbered, weaken, below_after, by_need_of, by_naming}
use Rattle.format.proofs.ArraysLaws.{fixed_read_back, AreFixed, fixed_as_written, by_fixed, fixed_pass, AreArrays, arrays_as_written, same_arrays}
use Rattle.format.proofs.ArraysLaws.{arrays_length, arrays_read_back, header_apart}
use Rattle.format.proofs.OffsetsLaws.{by_types, types_pass, by_offsets, offsets_pass, bodies_read_back, AreBodies, bodies_as_written, starts_count}
use Rattle.format.proofs.OffsetsLaws.{lengths_counted, from_1_to_most, mode_byte, offsets_fit}

-- ---- read back

-- fields that obey are read back, whatever stands after them
pub obeying_read_back : (end : ℕ) (f : Fixed) (left : List ℕ) → FixedObeys f → read_fixed end (fixed_bytes f ++ left) ≡ ok f left
obeying_read_back end f left h =
    fixed_read_back end f left (rw h.magic (lit< tt)) (mode_byte f.mode h.mode)
    (omega (arith, from_1_to_most most_variants f.variants h.variants)) (omega (arith, from_1_to_most most_samples f.samples h.samples))
    h.form_byte

-- the header of a layout that obeys is read back, whatever stands after it
pub header_read_back : (K : ℕ) (l : Layout) (after : List ℕ) → zero < K → LayoutObeys K l
    → read_header K (in_parts K (fixed_of l) (arrays_of K l) after) ≡ ok (header_of K l) after
unfolding read_header read_after_fixed
header_read_back K l after p h =
    let f : Fixed = fixed_of l in
    let a : Arrays = arrays_of K l in
    let left : List ℕ = arrays_bytes K f a ++ after in
    let end : ℕ = length (fixed_bytes f ++ left) in
    let fixed_back : read_fixed end (fixed_bytes f ++ left) ≡ ok f left = obeying_read_back end f left h.fixed in
    let arrays_back : read_arrays K end f left ≡ ok a after = arrays_read_back K end f a after p (offsets_fit K l p h) h.columns in
    let room : leb (arrays_size K f) (length left) ≡ true
    = le-leb (arrays_size K f) (length left)
    (omega (arith, length-append (arrays_bytes K f a) after, arrays_length K f a p (offsets_fit K l p h) h.columns)) in
    let types_back : need_types K f (file_variant 0) l.types (ok (header_of K l) after) ≡ ok (header_of K l) after
    = types_pass K f (file_variant 0) l.types _ h.types in
    let g : FixedObeys f = h.fixed in
    ap (read_header K) (header_apart K f a after) ∙ simp (fixed_back, fixed_pass, room, arrays_back, types_back)

-- its offsets pass, and its bodies are read back
pub data_read_back : (K end : ℕ) (l : Layout) → read_data K end (header_of K l) (joined l.bodies) ≡ ok l []
unfolding read_data read_bodies
data_read_back K end l = offsets_pass _ 12 _ _ ∙ simp (bodies_read_back end l.bodies)

-- the bytes of a layout that obeys are read back as that layout
pub layout_read_back : (K : ℕ) (l : Layout) → zero < K → LayoutObeys K l → read_layout K (layout_bytes K l) ≡ ok l []
unfolding read_layout layout_bytes
layout_read_back K l p h = simp (header_read_back K l (joined l.bodies) p h, data_read_back)

-- ---- as written

pub record HeaderObeys (K : ℕ) (h : Header) : Type 0 where
  pub fixed : FixedObeys h.fixed
  pub offsets : OffsetsFit K h.fixed h.arrays.offsets
  pub columns : ColumnsObey h.fixed h.arrays.columns
  pub types : TypesAllowed K (file_variant 0) h.arrays.columns.types

pub record IsHeader (K : ℕ) (bs : List ℕ) (h : Header) (left : List ℕ) : Type 0 where
  pub obeys : HeaderObeys K h
  pub written : bs ≡ in_parts K h.fixed h.arrays left

-- a header that was read obeys 1 to 8, and is what was written
pub header_as_written : (K : ℕ) (bs : List ℕ) → zero < K → Bytes bs → Holds (IsHeader K bs) (read_header K bs)
unfolding read_header read_after_fixed
header_as_written K bs p y =
    by_bind (AreFixed bs) (IsHeader K bs) (numbered 1 (read_fixed (length bs) bs)) _
    (by_numbered _ 1 (read_fixed (length bs) bs) (fixed_as_written (length bs) bs y)) (λ f left₁ h₁.
    by_fixed (IsHeader K bs) f _ h₁.form_byte (λ u.
    by_need_of (IsHeader K bs) _ (leb (arrays_size K f) (length left₁)) _ _ _ (λ t.
    let y₁ : Bytes left₁ = below_after 256 (fixed_bytes f) left₁ (rw h₁.written at y) in
    by_bind (AreArrays K f left₁) (IsHeader K bs) (naming _ (numbered 7 (read_arrays K (length bs) f left₁))) _
    (by_naming _ _ (numbered 7 (read_arrays K (length bs) f left₁))
    (by_numbered _ 7 (read_arrays K (length bs) f left₁) (arrays_as_written K (length bs) f left₁ p y₁))) (λ a left h.
    by_types (IsHeader K bs) K f (file_variant 0) a.columns.types (ok (header_with f a) left) (λ g.
    record {
      obeys = record { fixed = u; offsets = h.offsets; columns = h.columns; types = g };
      written = h₁.written ∙ ap (λ (x : List ℕ). fixed_bytes f ++ x) h.written ∙ sym (header_apart K f a left);
    })))))

-- the layout that was read is the header's, and its bodies are all of the bytes
pub record IsData (K : ℕ) (h : Header) (bs : List ℕ) (l : Layout) (left : List ℕ) : Type 0 where
  pub ended : left ≡ []
  pub same_header : header_of K l ≡ h
  pub written : bs ≡ joined l.bodies

-- fixed fields put together again from equal parts
same_fixed : (f : Fixed) (magic variants : ℕ) → f.magic ≡ magic → f.variants ≡ variants
    → ◌≡◌ {A = Fixed} (record { magic = magic; mode = f.mode; variants = variants; samples = f.samples; form = f.form }) f
same_fixed f magic variants e₁ e₂ = rw (← e₁, ← e₂)

-- records that were read after a header
pub data_as_written : (K end : ℕ) (h : Header) (bs : List ℕ) → HeaderObeys K h → Holds (IsData K h bs) (read_data K end h bs)
unfolding read_data read_bodies
data_as_written K end h bs o =
    let f : Fixed = h.fixed in
    let a : Arrays = h.arrays in
    let lengths : List ℕ = a.columns.lengths in
    by_offsets (IsData K h bs) f 12 a.offsets (block_offsets K f lengths) _ (o.offsets.0 ∙ sym (starts_count K _ f lengths)) (λ q.
    by_map (AreBodies lengths bs) (IsData K h bs) (naming _ (numbered 9 (split_bodies end lengths bs))) _
    (by_naming _ _ (numbered 9 (split_bodies end lengths bs))
    (by_numbered _ 9 (split_bodies end lengths bs) (bodies_as_written end lengths bs))) (λ bodies left b.
    let l : Layout = layout_of f a.columns bodies in
    let n : length bodies ≡ f.variants = sym (length-map bodies length) ∙ ap length b.lengths_same ∙ lengths_counted f a.columns o.columns in
    let e : fixed_of l ≡ f = same_fixed f 0x1b6c (length bodies) o.fixed.magic (sym n) in
    let k : arrays_of K l ≡ a
    = same_arrays a _ a.columns.types (body_lengths l)
    (q ∙ ap (λ (x : Fixed). block_offsets K x lengths) (sym e) ∙ ap (block_offsets K (fixed_of l)) (sym b.lengths_same))
    refl (sym b.lengths_same) in
    record { ended = b.ended; same_header = ap₂ header_with e k; written = b.written }))

pub record IsLayout (K : ℕ) (bs : List ℕ) (l : Layout) (left : List ℕ) : Type 0 where
  pub ended : left ≡ []
  pub obeys : LayoutObeys K l
  pub written : bs ≡ layout_bytes K l

-- a header that obeys, of a layout: the layout does
pub layout_obeys : (K : ℕ) (l : Layout) → HeaderObeys K (header_of K l) → LayoutObeys K l
layout_obeys K l o = record { fixed = o.fixed; columns = o.columns; types = o.types }

-- header and records together
is_layout : (K : ℕ) (bs left : List ℕ) (h : Header) (l : Layout) (after : List ℕ) → IsHeader K bs h left → IsData K h left l after → IsLayout K bs l after
unfolding layout_bytes
is_layout K bs left h l after w d = record {
  ended = d.ended;
  obeys = layout_obeys K l (subst (HeaderObeys K) (sym d.same_header) w.obeys);
  written = w.written ∙ ap (λ (x : Header). in_parts K x.fixed x.arrays left) (sym d.same_header)
      ∙ ap (in_parts K (fixed_of l) (arrays_of K l)) d.written;
}

-- what the header check accepts obeys, and its bytes are those of the layout
pub layout_as_written : (K : ℕ) (bs : List ℕ) → zero < K → Bytes bs → Holds (IsLayout K bs) (read_layout K bs)
unfolding read_layout
layout_as_written K bs p y =
    by_bind (IsHeader K bs) (IsLayout K bs) (read_header K bs) _ (header_as_written K bs p y) (λ h left w.
    weaken (IsData K h left) (IsLayout K bs) (read_data K (length bs) h left) (λ l after d. is_layout K bs left h l after w d)
    (data_as_written K (length bs) h left w.obeys))

-- ---- the theorem

-- accepted exactly when the bytes are those of a layout that obeys
pub header_exactly : (K : ℕ) (bs : List ℕ) (l : Layout) → zero < K → Bytes bs → (read_layout K bs ≡ ok l []) ↔ (LayoutObeys K l × (bs ≡ layout_bytes K l))
header_exactly K bs l p y = (
  λ e. let h : IsLayout K bs l [] = subst (Holds (IsLayout K bs)) e (layout_as_written K bs p y) in (h.obeys, h.written),
  λ h. rw h.1 (layout_read_back K l p h.0),
)

-- a file has one layout
pub layout_unique : (K : ℕ) (l m : Layout) → zero < K → LayoutObeys K l → LayoutObeys K m → layout_bytes K l ≡ layout_bytes K m → l ≡ m
layout_unique K l m p f g e =
    let a : read_layout K (layout_bytes K l) ≡ ok l [] = layout_read_back K l p f in
    let b : read_layout K (layout_bytes K m) ≡ ok m [] = layout_read_back K m p g in
    cc
