-- THE LAW of the flip in place: on the bytes of a file that obeys, with the phases of members flipped, the two passes leave the bytes of the flipped file.
-- Assumes nothing.
use mathlib.Core.Path.{◌≡◌, refl, sym, ap, ap₂, ◌∙◌}
use Prim.Native.Nat.{ℕ, zero, ◌≤◌, ◌<◌}
use native.Mathlib.Nat.{add-zero, zero-add}
use mathlib.Core.Bool.{Bool, true, false}
use mathlib.Core.List.{List, [], ◌++◌, map}
use lib.ListN.{length, length-map}
use Rattle.format.specs.declared.FileVariant.{FileVariant}
use Rattle.format.specs.Base.{pick, Bytes, Out, ok}
use Rattle.format.specs.Body.{Body, body_type, body_bytes}
use Rattle.format.specs.Variant.{file_variant}
use Rattle.format.specs.Limits.{most_samples}
use Rattle.format.specs.Layout.{Fixed, unblocked, Layout, fixed_of, body_lengths, first_record}
use Rattle.format.specs.Layout.{Arrays, arrays_bytes, header_bytes, arrays_of, in_parts, layout_bytes}
use Rattle.format.specs.File.{File, layout_of_file, file_bytes, Obeys, read_file, flip_bodies, flip_file, flip_bytes}
use Rattle.format.proofs.OffsetsLaws.{offsets_fit, from_1_to_most}
use Rattle.format.proofs.ArraysLaws.{header_length}
use Rattle.head_index.proofs.PlaceLaws.{known}
use Rattle.format.proofs.FileLaws.{file_exactly}
use Rattle.format.proofs.FlipLaws.{SameLayout, flip_layout, flip_of_file}
use Rattle.head_records.specs.Extent.{record_type, record_size}
use Rattle.head_records.proofs.FoundLaws.{types_found, sizes_found}
use Rattle.flip_phase.specs.AllRecords.{turn_all, records_bytes, phases_turned, turned_if_read, phases_flipped}
use Rattle.flip_file.specs.Passes.{bodies_flipped, types_flipped, all_bodies, all_types, types_after, passes}
use Rattle.flip_file.proofs.PutLaws.{with_types}
use Rattle.flip_file.proofs.TypesLaws.{types_law}
use Rattle.flip_file.proofs.BodiesLaws.{bodies_law}

-- where there are no blocks there are no types
unblocked_types : (K : ℕ) (f : Fixed) (a : Arrays) (types records : List ℕ) → unblocked f.mode ≡ true
    → in_parts K f a records ≡ in_parts K f (with_types a types) records
unfolding in_parts header_bytes arrays_bytes
unblocked_types K f a types records e = simp e

module _ (K : ℕ) (member : FileVariant → Bool) (g : File) (p : zero < K) (h : Obeys K g) where
  abbrev l : Layout
  l = layout_of_file g

  abbrev f : Fixed
  f = fixed_of l

  abbrev a : Arrays
  a = arrays_of K l

  abbrev new : List Body
  new = flip_bodies member (file_variant 0) false g.bodies

  -- its records with the phases of members flipped
  abbrev phased : List Body
  phased = turn_all member (file_variant 0) g.bodies

  abbrev bytes_of : List Body → List ℕ
  bytes_of bodies = records_bytes g.samples bodies

  few : g.samples ≤ most_samples
  few = from_1_to_most most_samples g.samples h.layout.fixed.samples

  counted : length l.bodies ≡ length g.bodies
  counted = length-map g.bodies (body_bytes g.samples)

  -- what stands before the records
  abbrev top : List ℕ
  top = header_bytes K f a

  top_parts : (records : List ℕ) → in_parts K f a records ≡ top ++ records
  unfolding in_parts
  top_parts records = refl

  top_length : length top ≡ first_record K f
  top_length = header_length K f a p (offsets_fit K l p h.layout) h.layout.columns

  -- the first pass
  bodies_done : all_bodies K f member (in_parts K f a (bytes_of phased)) ≡ in_parts K f a (bytes_of new)
  bodies_done =
      let whole : List ℕ = bytes_of phased in
      ap₂ (λ (n : ℕ) (x : List ℕ). bodies_flipped K f member n (file_variant 0) (first_record K f) false x) counted (top_parts whole)
      ∙ bodies_law K f member top l.types (body_lengths l)
      (λ records v lt. ap (λ (x : List ℕ). record_type K f x v) (sym (top_parts records)) ∙ types_found K l p h.layout records v lt)
      (λ records v lt. ap (λ (x : List ℕ). record_size K f x v) (sym (top_parts records)) ∙ sizes_found K l p h.layout records v lt)
      few [] g.bodies [] (file_variant 0) (first_record K f) false h.bodies refl refl (zero-add (length g.bodies) ∙ sym counted)
      (sym top_length ∙ sym (add-zero (length top)))
      ∙ sym (top_parts (bytes_of new))

  -- the second
  types_done : types_after K f member (in_parts K f a (bytes_of new)) ≡ in_parts K f (with_types a (map body_type new)) (bytes_of new)
  types_done = go (unblocked f.mode) refl
    where
      go : (t : Bool) → unblocked f.mode ≡ t
          → pick t (in_parts K f a (bytes_of new)) (all_types K f member (in_parts K f a (bytes_of new)))
          ≡ in_parts K f (with_types a (map body_type new)) (bytes_of new)
      go true e = unblocked_types K f a (map body_type new) (bytes_of new) e
      go false e =
          ap (λ (n : ℕ). types_flipped K f member n (file_variant 0) false (in_parts K f a (bytes_of new))) counted
          ∙ types_law K f member a (bytes_of new) g.samples [] g.bodies [] (file_variant 0) false h.bodies (known K l p h.layout e) refl

  -- the flipped file has the same fixed fields, offsets, lengths and flags
  new_bytes : in_parts K f (with_types a (map body_type new)) (bytes_of new) ≡ file_bytes K (flip_file member g)
  unfolding file_bytes layout_bytes
  new_bytes =
      let s : SameLayout K l (layout_of_file (flip_file member g)) = flip_layout K member g in
      let arrays : List ℕ → List ℕ → Arrays
      = λ offsets lengths. record { offsets = offsets; columns = record { types = map body_type new; lengths = lengths; flags = g.flags } } in
      sym (ap₂ (λ (x : Fixed) (y : Arrays). in_parts K x y (bytes_of new)) s.same_fixed (ap₂ arrays s.same_offsets s.same_lengths))

  pub in_place_law : passes K f member (phases_turned K member g) ≡ file_bytes K (flip_file member g)
  unfolding phases_turned
  in_place_law = ap (types_after K f member) bodies_done ∙ types_done ∙ new_bytes

-- DEMAND 3, in place: of an accepted file, with the phases of members flipped, the passes leave its flip
pub in_place_is_flip : (K : ℕ) (member : FileVariant → Bool) (bs : List ℕ) (g : File) → zero < K → Bytes bs → read_file K bs ≡ ok g []
    → passes K (fixed_of (layout_of_file g)) member (phases_flipped K member bs) ≡ flip_bytes K member bs
unfolding phases_flipped
in_place_is_flip K member bs g p y a =
    let h = (file_exactly K bs g p y).0 a in
    ap (λ (o : Out File). passes K (fixed_of (layout_of_file g)) member (turned_if_read K member bs o)) a
    ∙ in_place_law K member g p h.0 ∙ sym (flip_of_file K member g p h.0) ∙ ap (flip_bytes K member) (sym h.1)
