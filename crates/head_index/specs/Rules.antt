-- The header check's rules by index: what code looks for under 7, 8 and 9, and what each rule leaves to be checked. K is the number of variants to a block.
-- Assumes nothing.
use Rattle.std.specs.Prelude.{ℕ, suc, ◌+◌, ◌-◌, ◌*◌, List, [], ◌∷◌, length, take, drop, eqb, Option, Some, None}
use Rattle.format.specs.declared.FileVariant.{FileVariant}
use Rattle.format.specs.declared.BlockVariant.{BlockVariant}
use Rattle.format.specs.Base.{pick, Out, ok, bind, need, refuse_of}
use Rattle.format.specs.Packed.{one, packed_size}
use Rattle.format.specs.Variant.{next_variant, block_variant, in_block, in_file}
use Rattle.format.specs.Layout.{Fixed, unblocked, Form, form_of, flag_count, Arrays, block_count, block_sizes, block_size, first_record}
use Rattle.format.specs.Layout.{Layout, block_offsets, type_allowed}
use Rattle.format.specs.Header.{header_with, type_place, read_after_fixed, layout_of, read_bodies, read_data}
use Rattle.head_index.specs.NumbersAt.{unused_bits, fixed_at}

-- ---- 7: "unused header bits set", at "that byte"

-- of the arrays of one block of n variants, which start at `place`
unfoldable pub need_unused : {A : Type 0} → Form → ℕ → ℕ → List ℕ → Out A → Out A
need_unused form place n bs next =
    need (eqb (unused_bits form.type_bits n (drop place bs)) 0) 7 (place + packed_size form.type_bits n - 1)
    (need (eqb (unused_bits one (flag_count form n) (drop (place + (packed_size form.type_bits n + form.length_width * n)) bs)) 0) 7
    (place + block_size form n - 1) next)

-- of every block, in stored order
unfoldable pub unused_in : Form → ℕ → List ℕ → List ℕ → Out (Unit {0})
unused_in form place [] bs = ok tt []
unused_in form place (n ∷ ns) bs = need_unused form place n bs (unused_in form (place + block_size form n) ns bs)

-- of all arrays, which start at place 12
unfoldable pub unused_arrays : ℕ → Fixed → List ℕ → Out (Unit {0})
unused_arrays K f bs =
    pick (unblocked f.mode)
    (need (eqb (unused_bits one (flag_count (form_of f) f.variants) (drop 12 bs)) 0) 7 (12 + packed_size one (flag_count (form_of f) f.variants) - 1)
    (ok tt []))
    (unused_in (form_of f) (12 + 8 * block_count K f) (block_sizes K f) bs)

-- ---- 8: "type not allowed"

-- the first such type from variant v on
unfoldable pub bad_type : ℕ → FileVariant → List ℕ → Option FileVariant
bad_type K v [] = None
bad_type K v (type ∷ types) = pick (type_allowed (in_block K v) type) (bad_type K (next_variant v) types) (Some v)

-- the first of a block's types, from number i on
unfoldable pub bad_in_block : BlockVariant → List ℕ → Option BlockVariant
bad_in_block i [] = None
bad_in_block i (type ∷ types) = pick (type_allowed i type) (bad_in_block (block_variant (suc i.0)) types) (Some i)

-- what was found in a block, as a variant of the file; else what is found after that block
abbrev pub found_or : ℕ → ℕ → Option BlockVariant → Option FileVariant → Option FileVariant
found_or K block (Some i) later = Some (in_file K block i)
found_or K block None later = later

-- refused at the type that was found; else what comes next
abbrev pub refuse_found : {A : Type 0} → ℕ → Fixed → Option FileVariant → Out A → Out A
refuse_found K f (Some v) next = refuse_of v 8 (type_place K f v)
refuse_found K f None next = next

-- ---- 9: "block offset wrong, or records don't end at the file's end"

-- where the blocks' records should start
abbrev pub starts_of : ℕ → Fixed → Arrays → List ℕ
starts_of K f a = block_offsets K f a.columns.lengths

-- the first wrong offset from block j on; past the last if there is none
unfoldable pub wrong_offset : ℕ → List ℕ → List ℕ → ℕ
wrong_offset j [] starts = j
wrong_offset j (offset ∷ offsets) [] = j
wrong_offset j (offset ∷ offsets) (start ∷ starts) = pick (eqb offset start) (wrong_offset (suc j) offsets starts) j

-- the bodies, one after another
unfoldable pub cut_bodies : List ℕ → List ℕ → List (List ℕ)
cut_bodies [] bs = []
cut_bodies (n ∷ ns) bs = take n bs ∷ cut_bodies ns (drop n bs)

-- the layout that the header check gives if nothing is amiss
abbrev pub layout_at : ℕ → List ℕ → Arrays → Layout
layout_at K bs a = layout_of (fixed_at bs) a.columns (cut_bodies a.columns.lengths (drop (first_record K (fixed_at bs)) bs))

-- ---- what is left to be checked

-- after the rules on the fixed fields
unfoldable pub after_fixed : ℕ → List ℕ → Out Layout
after_fixed K bs = bind (read_after_fixed K (length bs) (fixed_at bs) (drop 12 bs)) (λ h left. read_data K (length bs) h left)

-- after the types: the records
unfoldable pub after_types : ℕ → List ℕ → Arrays → Out Layout
after_types K bs a = read_data K (length bs) (header_with (fixed_at bs) a) (drop (first_record K (fixed_at bs)) bs)

-- after the offsets: the bodies
unfoldable pub after_offsets : ℕ → List ℕ → Arrays → Out Layout
after_offsets K bs a = read_bodies (length bs) (header_with (fixed_at bs) a) (drop (first_record K (fixed_at bs)) bs)
