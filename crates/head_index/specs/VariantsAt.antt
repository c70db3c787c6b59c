-- What code computes from the bytes of a header with blocks: a variant's type and length, where its record starts, its anchor.
-- K is the number of variants to a block. Assumes nothing.
use Rattle.std.specs.Prelude.{ℕ, suc, ◌+◌, ◌-◌, ◌*◌, ◌/◌, ◌%◌, ◌^◌, min, List, drop, get_or}
use Rattle.format.specs.declared.FileVariant.{FileVariant}
use Rattle.format.specs.Packed.{limit, more, packed_size}
use Rattle.format.specs.Variant.{block_of, in_block, in_file, nearest}
use Rattle.format.specs.Layout.{Fixed, form_of, sum}
use Rattle.format.specs.Header.{block_place, type_place}
use Rattle.head_index.specs.NumbersAt.{number_at, numbers_at, digits_at}

-- ---- places in the header

-- 01, The header: "blocks of 65,536 variants, the last may be shorter". How many variants a block has
unfoldable pub block_variants : ℕ → Fixed → ℕ → ℕ
block_variants K f block = min K (f.variants - block * K)

-- 01: "Then for each block its packed types (low nibble first), its lengths". Where the lengths of a block start
unfoldable pub lengths_place : ℕ → Fixed → ℕ → ℕ
lengths_place K f block = block_place K f block + packed_size (form_of f).type_bits (block_variants K f block)

-- ---- from the fixed fields and the bytes

-- 01: "First an 8-byte file offset per block."
unfoldable pub offset_at : List ℕ → ℕ → ℕ
offset_at bs block = number_at 8 (drop (12 + 8 * block) bs)

-- the type of a variant, by the byte that holds it
unfoldable pub type_at : ℕ → Fixed → List ℕ → FileVariant → ℕ
type_at K f bs v =
    get_or bs (type_place K f v) 0 / limit (form_of f).type_bits ^ ((in_block K v).0 % suc (more (form_of f).type_bits)) % limit (form_of f).type_bits

-- the length of a variant's record
unfoldable pub length_at : ℕ → Fixed → List ℕ → FileVariant → ℕ
length_at K f bs v = number_at (form_of f).length_width (drop (lengths_place K f (block_of K v) + (form_of f).length_width * (in_block K v).0) bs)

-- 01: "each block offset is exactly where its first record starts". The block's offset and the lengths of the block's variants before this one
unfoldable pub start_at : ℕ → Fixed → List ℕ → FileVariant → ℕ
start_at K f bs v =
    offset_at bs (block_of K v) + sum (numbers_at (form_of f).length_width (in_block K v).0 (drop (lengths_place K f (block_of K v)) bs))

-- 01, Categories and kinds: "the nearest earlier variant in the same block whose kind is neither 2 nor 3". Among the types of the block before this one
unfoldable pub anchor_at : ℕ → Fixed → List ℕ → FileVariant → FileVariant
anchor_at K f bs v =
    in_file K (block_of K v) (nearest (digits_at (form_of f).type_bits (drop (block_place K f (block_of K v)) bs) 0 (in_block K v).0) (in_block K v))
