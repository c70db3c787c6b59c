-- Every refusal of the header check is of its class.
-- Assumes nothing.
use mathlib.Core.Path.{refl}
use Prim.Native.Nat.{ℕ, ◌+◌}
use mathlib.Core.List.{List, [], ◌∷◌}
use lib.ListN.{length}
use lib.Dec.{eqb, leb}
use Rattle.format.specs.declared.FileVariant.{FileVariant}
use Rattle.format.specs.Base.{Out, ok, numbered, naming}
use Rattle.format.specs.Limits.{most_samples, most_variants}
use Rattle.format.specs.Variant.{file_variant, next_variant, in_block}
use Rattle.format.specs.Layout.{Fixed, from_1_to, mode_covered, form_allowed, arrays_size, block_offsets, type_allowed}
use Rattle.format.specs.Header.{Header, header_with, read_fixed, need_fixed, read_arrays, type_place, need_types, read_after_fixed, read_header}
use Rattle.format.specs.Header.{need_offsets, split_bodies, layout_of, read_bodies, read_data, read_layout}
use Rattle.format.proofs.Refuses.{Refuses, HeaderNumber, refuses_need, refuses_then, refuses_map, refuses_numbered, refuses_need_of, refuses_naming}

-- 2 to 5
fixed_refusals : {A : Type 0} (f : Fixed) (next : Out A) → Refuses HeaderNumber next → Refuses HeaderNumber (need_fixed f next)
unfolding need_fixed
fixed_refusals f next h =
    refuses_need HeaderNumber (eqb f.magic 0x1b6c) 2 0 _ refl
    (refuses_need HeaderNumber (mode_covered f.mode) 3 2 _ refl
    (refuses_need HeaderNumber (from_1_to most_variants f.variants) 4 3 _ refl
    (refuses_need HeaderNumber (from_1_to most_samples f.samples) 4 7 _ refl
    (refuses_need_of HeaderNumber _ (form_allowed f.mode f.form) 5 11 next refl h))))

-- 8
types_refusals : {A : Type 0} (K : ℕ) (f : Fixed) (v : FileVariant) (types : List ℕ) (next : Out A) → Refuses HeaderNumber next
    → Refuses HeaderNumber (need_types K f v types next)
unfolding need_types
types_refusals K f v [] next h = h
types_refusals K f v (type ∷ types) next h =
    refuses_need_of HeaderNumber v (type_allowed (in_block K v) type) 8 (type_place K f v) _ refl (types_refusals K f (next_variant v) types next h)

-- 9
offsets_refusals : {A : Type 0} (f : Fixed) (place : ℕ) (offsets starts : List ℕ) (next : Out A) → Refuses HeaderNumber next
    → Refuses HeaderNumber (need_offsets f place offsets starts next)
unfolding need_offsets
offsets_refusals f place [] starts next h = h
offsets_refusals f place (offset ∷ offsets) [] next h = h
offsets_refusals f place (offset ∷ offsets) (start ∷ starts) next h =
    refuses_need_of HeaderNumber _ (eqb offset start) 9 place _ refl (offsets_refusals f (place + 8) offsets starts next h)

-- the header alone
header_part_refusals : (K : ℕ) (bs : List ℕ) → Refuses HeaderNumber (read_header K bs)
unfolding read_header read_after_fixed
header_part_refusals K bs =
    refuses_then HeaderNumber (numbered 1 (read_fixed (length bs) bs)) _ (refuses_numbered HeaderNumber 1 (read_fixed (length bs) bs) refl) (λ f left.
    fixed_refusals f _
    (refuses_need_of HeaderNumber _ (leb (arrays_size K f) (length left)) 6 (length bs) _ refl
    (refuses_then HeaderNumber (naming _ (numbered 7 (read_arrays K (length bs) f left))) _
    (refuses_naming HeaderNumber _ (numbered 7 (read_arrays K (length bs) f left)) (refuses_numbered HeaderNumber 7 (read_arrays K (length bs) f left) refl))
    (λ a after. types_refusals K f (file_variant 0) a.columns.types (ok (header_with f a) after) tt))))

-- the records
data_refusals : (K end : ℕ) (h : Header) (bs : List ℕ) → Refuses HeaderNumber (read_data K end h bs)
unfolding read_data read_bodies
data_refusals K end h bs =
    let lengths : List ℕ = h.arrays.columns.lengths in
    offsets_refusals h.fixed 12 h.arrays.offsets (block_offsets K h.fixed lengths) _
    (refuses_map HeaderNumber (layout_of h.fixed h.arrays.columns) (naming _ (numbered 9 (split_bodies end lengths bs)))
    (refuses_naming HeaderNumber _ (numbered 9 (split_bodies end lengths bs)) (refuses_numbered HeaderNumber 9 (split_bodies end lengths bs) refl)))

-- the header check refuses with the numbers of its class only
pub header_refusals : (K : ℕ) (bs : List ℕ) → Refuses HeaderNumber (read_layout K bs)
unfolding read_layout
header_refusals K bs = refuses_then HeaderNumber (read_header K bs) _ (header_part_refusals K bs) (λ h left. data_refusals K (length bs) h left)
