-- The flip of a set in a file's bytes, in two passes over its variants: the bodies, with the types as they were; then the types. For any bytes.
-- K is the number of variants to a block.
-- Assumes nothing.
use Rattle.std.specs.Prelude.{ℕ, zero, suc, ◌+◌, ◌*◌, ◌/◌, ◌%◌, Bool, false, ◌&&◌, ◌||◌, List, length, get_or, set, leb}
use Rattle.format.specs.declared.FileVariant.{FileVariant}
use Rattle.format.specs.Base.{pick}
use Rattle.format.specs.Packed.{limit, more}
use Rattle.format.specs.Body.{type_leans, flip_type}
use Rattle.format.specs.Variant.{file_variant, next_variant, in_block}
use Rattle.format.specs.Layout.{Fixed, unblocked, form_of, first_record}
use Rattle.format.specs.Header.{type_place}
use Rattle.format.specs.File.{next_anchor}
use Rattle.head_index.specs.VariantsAt.{type_at}
use Rattle.flip_body.specs.Edits.{flipped_in}
use Rattle.head_records.specs.Extent.{record_type, record_size}

-- ---- the bodies

-- `left` variants from v on, the first of which starts at `start`; lent: what it leans on, if it leans, is in the set. It stops at a record that does not fit.
unfoldable pub bodies_flipped : ℕ → Fixed → (FileVariant → Bool) → ℕ → FileVariant → ℕ → Bool → List ℕ → List ℕ
bodies_flipped K f member zero v start lent bs = bs
bodies_flipped K f member (suc left) v start lent bs =
    pick (leb (start + record_size K f bs v) (length bs))
    (bodies_flipped K f member left (next_variant v) (start + record_size K f bs v) (next_anchor (type_leans (record_type K f bs v)) lent (member v))
    (flipped_in start (start + record_size K f bs v) f.samples (record_type K f bs v) lent (member v) bs))
    bs

abbrev pub all_bodies : ℕ → Fixed → (FileVariant → Bool) → List ℕ → List ℕ
all_bodies K f member bs = bodies_flipped K f member f.variants (file_variant 0) (first_record K f) false bs

-- ---- the types

-- x as number i of the byte y; as number i of the byte at p
abbrev pub digit_put : ℕ → ℕ → ℕ → ℕ → ℕ
digit_put b zero x y = y / b * b + x
digit_put b (suc i) x y = digit_put b i x (y / b) * b + y % b

abbrev pub put_at : ℕ → ℕ → ℕ → ℕ → List ℕ → List ℕ
put_at b i p x bs = set bs p (digit_put b i x (get_or bs p 0))

-- the type of variant v becomes x
unfoldable pub type_put : ℕ → Fixed → FileVariant → ℕ → List ℕ → List ℕ
type_put K f v x bs = put_at (limit (form_of f).type_bits) ((in_block K v).0 % suc (more (form_of f).type_bits)) (type_place K f v) x bs

-- in the set, or leaning on a member of it: no other type is written
abbrev pub touched : Bool → Bool → ℕ → Bool
touched lent member type = member || (type_leans type && lent)

unfoldable pub type_flipped : ℕ → Fixed → FileVariant → Bool → Bool → ℕ → List ℕ → List ℕ
type_flipped K f v lent member type bs = pick (touched lent member type) (type_put K f v (flip_type lent member type) bs) bs

unfoldable pub types_flipped : ℕ → Fixed → (FileVariant → Bool) → ℕ → FileVariant → Bool → List ℕ → List ℕ
types_flipped K f member zero v lent bs = bs
types_flipped K f member (suc left) v lent bs =
    types_flipped K f member left (next_variant v) (next_anchor (type_leans (type_at K f bs v)) lent (member v))
    (type_flipped K f v lent (member v) (type_at K f bs v) bs)

abbrev pub all_types : ℕ → Fixed → (FileVariant → Bool) → List ℕ → List ℕ
all_types K f member bs = types_flipped K f member f.variants (file_variant 0) false bs

-- ---- both. 01, The header: "Mode 0x02: no offsets, types or lengths"

abbrev pub types_after : ℕ → Fixed → (FileVariant → Bool) → List ℕ → List ℕ
types_after K f member bs = pick (unblocked f.mode) bs (all_types K f member bs)

abbrev pub passes : ℕ → Fixed → (FileVariant → Bool) → List ℕ → List ℕ
passes K f member bs = types_after K f member (all_bodies K f member bs)
