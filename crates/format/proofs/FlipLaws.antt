-- DEMAND 3, on the bytes of a PGEN file: a flipped file is accepted again with the same lengths and offsets, its members read exchanged and all others as
-- before; two flips are one. The lengths and offsets apart, these are the laws of any container.
-- Assumes nothing.
use mathlib.Core.Path.{◌≡◌, refl, sym, ap, ap₂, ◌∙◌, subst}
use Prim.Native.Nat.{ℕ, zero, ◌*◌, ◌%◌, ◌<◌}
use native.Mathlib.Nat.{zero-add}
use mathlib.Core.Bool.{Bool, true, false}
use mathlib.Core.List.{List, [], map}
use lib.ListN.{length, length-map}
use lib.Dec.{ltb}
use Rattle.format.specs.declared.FileVariant.{FileVariant}
use Rattle.format.specs.Base.{pick, Bytes, ok, map_out}
use Rattle.format.specs.Category.{just_one}
use Rattle.format.specs.Packed.{four, eight, limit}
use Rattle.format.specs.Body.{Body, body_type, body_bytes, Reading, exchange_reading}
use Rattle.format.specs.Variant.{file_variant}
use Rattle.format.specs.Layout.{Fixed, form_of, unblocked, block_offsets, Layout, fixed_of, body_lengths, columns_of, arrays_of}
use Rattle.format.specs.Layout.{FixedObeys, ColumnsFit, ColumnsUnblocked, ColumnsObey}
use Rattle.format.specs.File.{File, file_of, layout_of_file, file_bytes, BodiesFit, Obeys, read_file, read_row}
use Rattle.format.specs.File.{flip_bodies, flip_file, pgen_file, flip_bytes}
use Rattle.format.proofs.Rules.{Holds}
use Rattle.format.proofs.CategoryLaws.{exchange_all_none}
use Rattle.format.proofs.PhaseFlipLaws.{exchange_phases_none}
use Rattle.format.proofs.FlipBodiesLaws.{bodies_fit_flip, row_flip, flip_bodies_twice, flip_bodies_none, flip_count, flip_lengths}
use Rattle.format.proofs.FlipBodiesLaws.{types_allowed_flip, types_small_flip, types_zero_flip}
use Rattle.format.proofs.FileLaws.{file_read_back, IsFile, file_as_written}
use Rattle.format.proofs.ReadsLaws.{row_reads}
use Rattle.format.proofs.ContainerLaws
use Rattle.format.proofs.ContainerLaws.{IsStored, IsContainer}

-- ---- the layout of the flipped file

-- all but types and bodies
pub record SameLayout (K : ℕ) (l m : Layout) : Type 0 where
  pub same_fixed : fixed_of m ≡ fixed_of l
  pub same_flags : m.flags ≡ l.flags
  pub same_lengths : body_lengths m ≡ body_lengths l
  pub same_offsets : (arrays_of K m).offsets ≡ (arrays_of K l).offsets

-- in either case of a choice, what holds of the old holds of the new
in_either : (b : Bool) {P P' Q Q' : Type 0} → (P → P') → (Q → Q') → pick b P Q → pick b P' Q'
in_either true f g h = f h
in_either false f g h = g h

-- the limit of a type is eight times some number
eights : (bits : Bool) → limit (pick bits four eight) ≡ pick bits 2 32 * 8
eights true = refl
eights false = refl

module _ (K : ℕ) (member : FileVariant → Bool) (f : File) where
  abbrev old : Layout
  old = layout_of_file f

  abbrev new : Layout
  new = layout_of_file (flip_file member f)

  abbrev turned : List Body
  turned = flip_bodies member (file_variant 0) false f.bodies

  -- whatever is given for each body: as many, before and after
  counted : {X : Type 0} (g : Body → X) → length (map g turned) ≡ length (map g f.bodies)
  counted g = length-map turned g ∙ flip_count member (file_variant 0) false f.bodies ∙ sym (length-map f.bodies g)

  fixed_kept : fixed_of new ≡ fixed_of old
  fixed_kept =
      ap (λ (M : ℕ). record { magic = 0x1b6c; mode = f.mode; variants = M; samples = f.samples; form = f.form }) (counted (body_bytes f.samples))

  lengths_kept : body_lengths new ≡ body_lengths old
  lengths_kept = flip_lengths f.samples member (file_variant 0) false f.bodies

  -- DEMAND 3: "same lengths and offsets"; 01, Flipping: "The flag bits and every length and offset stay"
  pub flip_layout : SameLayout K old new
  flip_layout = record {
    same_fixed = fixed_kept;
    same_flags = refl;
    same_lengths = lengths_kept;
    same_offsets = ap₂ (λ (x : Fixed) (ns : List ℕ). block_offsets K x ns) fixed_kept lengths_kept;
  }

  unblocked_kept : ColumnsUnblocked (fixed_of old) (columns_of old) → ColumnsUnblocked (fixed_of old) (columns_of new)
  unblocked_kept c = record {
    types_same = types_zero_flip (length old.bodies) member (file_variant 0) false f.bodies c.types_same;
    lengths_same = lengths_kept ∙ c.lengths_same;
    flags_count = c.flags_count;
    flags_small = c.flags_small;
  }

  module _ (h : Obeys K f) where
    bodies_kept : BodiesFit f.samples [] turned
    bodies_kept = bodies_fit_flip f.samples member (file_variant 0) false [] f.bodies h.bodies

    abbrev half : Bool
    half = ltb (f.form % 16) 4

    fit_kept : ColumnsFit (form_of (fixed_of old)) (length old.bodies) (columns_of old)
        → ColumnsFit (form_of (fixed_of old)) (length old.bodies) (columns_of new)
    fit_kept c = record {
      types_count = counted body_type ∙ c.types_count;
      lengths_count = ap length lengths_kept ∙ c.lengths_count;
      flags_count = c.flags_count;
      types_small = rw (eights half) (types_small_flip f.samples (pick half 2 32) member (file_variant 0) false [] f.bodies h.bodies
          (rw (eights half) at c.types_small));
      lengths_small = rw lengths_kept c.lengths_small;
      flags_small = c.flags_small;
    }

    columns_kept : ColumnsObey (fixed_of old) (columns_of new)
    columns_kept = in_either (unblocked old.mode) unblocked_kept fit_kept h.layout.columns

    -- a file that obeys, flipped, obeys
    pub flip_obeys : Obeys K (flip_file member f)
    flip_obeys = record {
      layout = record {
        fixed = subst FixedObeys (sym fixed_kept) h.layout.fixed;
        columns = subst (λ (x : Fixed). ColumnsObey x (columns_of new)) (sym fixed_kept) columns_kept;
        types = types_allowed_flip K f.samples member (file_variant 0) false [] f.bodies h.bodies h.layout.types;
      };
      bodies = bodies_kept;
    }

-- what is not exchanged stays
exchange_reading_none : (reading : Reading) → exchange_reading false reading ≡ reading
exchange_reading_none reading =
    ap₂ (λ (c p : List ℕ). record { categories = c; phases = p }) (exchange_all_none reading.categories) (exchange_phases_none reading.phases)

-- ---- a file in one piece is a container

module _ (K : ℕ) (p : zero < K) where
  -- what the whole-file check accepts
  file_read : (bs : List ℕ) (f : File) (left : List ℕ) → Bytes bs → read_file K bs ≡ ok f left → IsStored (pgen_file K) bs f left
  file_read bs f left y e =
      let w : IsFile K bs f left = subst (Holds (IsFile K bs)) e (file_as_written K bs p y) in
      record { obeys = w.obeys; written = w.written; ended = w.ended }

  -- each row is exchanged exactly if its variant is in the set
  row_flips : (member : FileVariant → Bool) (f : File) (v : FileVariant)
      → (pgen_file K).row (flip_file member f) v ≡ exchange_reading (member v) ((pgen_file K).row f v)
  row_flips member f v =
      row_flip f.samples member (file_variant 0) false [] f.bodies v.0
      ∙ ap (λ (u : ℕ). exchange_reading (member (file_variant u)) ((pgen_file K).row f v)) (zero-add v.0)

  pub pgen_laws : IsContainer (pgen_file K)
  pgen_laws = record {
    read_back = λ f h. file_read_back K f p h;
    as_written = λ bs f left y e. file_read bs f left y e;
    row_reads = λ f h v l. row_reads K f p h v l;
    flip_obeys = λ member f h. flip_obeys K member f h;
    flip_variants = λ member f h. flip_count member (file_variant 0) false f.bodies;
    flip_row = λ member f h v l. row_flips member f v;
    exchange_none = λ row. search exchange_reading_none;
    flip_just_one = λ m m' f h. ap (file_of (layout_of_file f)) (flip_bodies_twice m m' (file_variant 0) false false f.bodies);
    flip_none = λ f h. ap (file_of (layout_of_file f)) (flip_bodies_none (file_variant 0) f.bodies);
  }

-- ---- on bytes: the laws of containers, of this one

-- the flip of an accepted file's bytes are the bytes of the flipped file
pub flip_of_file : (K : ℕ) (member : FileVariant → Bool) (f : File) → zero < K → Obeys K f
    → flip_bytes K member (file_bytes K f) ≡ file_bytes K (flip_file member f)
unfolding flip_bytes
flip_of_file K member f p h = ContainerLaws.flip_written (pgen_file K) (pgen_laws K p) member f h

-- DEMAND 3: "still accepted"
pub flip_accepted : (K : ℕ) (member : FileVariant → Bool) (bs : List ℕ) (f : File) → zero < K → Bytes bs → read_file K bs ≡ ok f []
    → read_file K (flip_bytes K member bs) ≡ ok (flip_file member f) []
unfolding flip_bytes
flip_accepted K member bs f p y e = ContainerLaws.flip_accepted (pgen_file K) (pgen_laws K p) member bs f y e

-- DEMAND 3: "members read with categories 0 and 2 exchanged, all others as before, even where their stored differences lean on a flipped one"
pub flip_reads : (K : ℕ) (member : FileVariant → Bool) (bs : List ℕ) (f : File) → zero < K → Bytes bs → read_file K bs ≡ ok f []
    → (v : FileVariant) → v.0 < length f.bodies → read_row K (flip_bytes K member bs) v ≡ map_out (exchange_reading (member v)) (read_row K bs v)
unfolding flip_bytes
flip_reads K member bs f p y e v l = ContainerLaws.flip_reads (pgen_file K) (pgen_laws K p) member bs f y e v l

-- DEMAND 3: "Flipping one set, then a second, gives byte for byte the flip of the variants in just one of the two". Of every byte string.
pub flip_xor : (K : ℕ) (m m' : FileVariant → Bool) (bs : List ℕ) → zero < K → Bytes bs
    → flip_bytes K m (flip_bytes K m' bs) ≡ flip_bytes K (λ (v : FileVariant). just_one (m v) (m' v)) bs
unfolding flip_bytes
flip_xor K m m' bs p y = ContainerLaws.flip_xor (pgen_file K) (pgen_laws K p) m m' bs y

-- DEMAND 3: "so twice restores the file"
pub flip_twice : (K : ℕ) (m : FileVariant → Bool) (bs : List ℕ) → zero < K → Bytes bs → flip_bytes K m (flip_bytes K m bs) ≡ bs
unfolding flip_bytes
flip_twice K m bs p y = ContainerLaws.flip_twice (pgen_file K) (pgen_laws K p) m bs y
