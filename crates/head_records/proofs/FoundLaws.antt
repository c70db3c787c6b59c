-- The type and the size that code reads of each variant of a file that obeys, whatever stands for its records.
-- Assumes nothing.
use mathlib.Core.Path.{◌≡◌, refl, sym}
use Prim.Native.Nat.{ℕ, zero, ◌<◌}
use mathlib.Core.Bool.{Bool, true, false}
use mathlib.Core.List.{List}
use lib.ListN.{length, get_or}
use Rattle.format.specs.declared.FileVariant.{FileVariant}
use Rattle.format.specs.Base.{pick}
use Rattle.format.specs.Layout.{Fixed, unblocked, fixed_type, fixed_size, Arrays, Layout, fixed_of, body_lengths, arrays_of, in_parts, LayoutObeys}
use Rattle.head_index.specs.VariantsAt.{type_at, length_at}
use Rattle.head_index.proofs.PlaceLaws.{known, type_at_is, length_at_is}
use Rattle.head_index.proofs.StartLaws.{unblocked_type, unblocked_length}
use Rattle.head_records.specs.Extent.{record_type, record_size}

module _ (K : ℕ) (l : Layout) (p : zero < K) (h : LayoutObeys K l) (records : List ℕ) (v : FileVariant) (lt : v.0 < length l.bodies) where
  abbrev f : Fixed
  f = fixed_of l

  abbrev a : Arrays
  a = arrays_of K l

  pub types_found : record_type K f (in_parts K f a records) v ≡ get_or l.types v.0 0
  unfolding record_type
  types_found = go (unblocked l.mode) refl
    where
      go : (t : Bool) → unblocked l.mode ≡ t → pick t (fixed_type f) (type_at K f (in_parts K f a records) v) ≡ get_or l.types v.0 0
      go true e = sym (unblocked_type K v l h e lt)
      go false e = type_at_is K v f a records (known K l p h e) lt

  pub sizes_found : record_size K f (in_parts K f a records) v ≡ get_or (body_lengths l) v.0 0
  unfolding record_size
  sizes_found = go (unblocked l.mode) refl
    where
      go : (t : Bool) → unblocked l.mode ≡ t → pick t (fixed_size f) (length_at K f (in_parts K f a records) v) ≡ get_or (body_lengths l) v.0 0
      go true e = sym (unblocked_length K v l h e lt)
      go false e = length_at_is K v f a records (known K l p h e) lt
