-- A file at the level of its header: the layout, and its bytes. K is the number of variants to a block.
-- Assumes nothing.
use Rattle.std.specs.Prelude.{◌≡◌, ℕ, zero, suc, ◌+◌, ◌-◌, ◌*◌, ◌/◌, ◌%◌, ◌^◌, ◌<◌, min, Bool, true, not, ◌&&◌, ◌||◌, List, [], ◌∷◌, ◌++◌, map, length, take, drop, replicate, eqb, ltb, leb}
use Rattle.format.specs.declared.FileVariant.{FileVariant}
use Rattle.format.specs.declared.BlockVariant.{BlockVariant}
use Rattle.format.specs.declared.Fields.{Fields}
use Rattle.format.specs.Base.{pick, Below}
use Rattle.format.specs.Limits.{most_samples, most_variants}
use Rattle.format.specs.Numbers.{number_bytes, numbers_bytes}
use Rattle.format.specs.Packed.{Bits, one, four, eight, limit, packed, packed_size}
use Rattle.format.specs.Body.{kind_of, type_leans}
use Rattle.format.specs.Variant.{file_variant, next_variant, in_block}

-- ---- the first twelve bytes

-- 01, The header: "Bytes 0 to 2: 0x6c 0x1b and the mode. Bytes 3 to 6: M. Bytes 7 to 10: N. Byte 11: the form."
pub record Fixed : Type 0 where
  pub magic : ℕ
  pub mode : ℕ
  pub variants : ℕ
  pub samples : ℕ
  pub form : ℕ

-- all but the magic: what a header check gives
abbrev pub fields_of : Fixed → Fields
fields_of f = record { mode = f.mode; variants = f.variants; samples = f.samples; form = f.form }

unfoldable pub fixed_bytes : Fixed → List ℕ
fixed_bytes f =
    number_bytes 2 f.magic ++ (number_bytes 1 f.mode ++ (number_bytes 4 f.variants ++ (number_bytes 4 f.samples ++ number_bytes 1 f.form)))

-- 01: "samples N from 1 to 65,536; variants M from 1 to 16,777,216"
abbrev pub from_1_to : ℕ → ℕ → Bool
from_1_to most n = leb 1 n && leb n most

-- 01: "Mode 0x02: no offsets, types or lengths; the flag bits if stored. Every record has type 0 and ceil(N/4) bytes."
-- Which modes have no blocks; the type and the size that every record has in such a mode
abbrev pub unblocked : ℕ → Bool
unblocked mode = eqb mode 0x02

abbrev pub fixed_type : Fixed → ℕ
fixed_type f = 0

abbrev pub fixed_size : Fixed → ℕ
fixed_size f = (f.samples + 3) / 4

-- 01: "storage modes 0x02 and 0x10"
abbrev pub mode_covered : ℕ → Bool
mode_covered mode = unblocked mode || eqb mode 0x10

-- 01: "Form, bits 0 to 3. Mode 0x10: 0 to 3 mean 4-bit record types and lengths of 1, 2, 3, 4 bytes; 4 to 7 mean 8-bit types and the same lengths. Mode
-- 0x02: must be 0. Bits 4 and 5: must be 0. Bits 6 and 7: any; 3 means a flag bit per variant is stored."
abbrev pub form_allowed : ℕ → ℕ → Bool
form_allowed mode form = ltb (form % 64) (pick (unblocked mode) 1 8)

pub record Form : Type 0 where
  pub type_bits : Bits
  pub length_width : ℕ
  pub flags_stored : Bool

abbrev pub form_of : Fixed → Form
form_of f = record {
  type_bits = pick (ltb (f.form % 16) 4) four eight;
  length_width = suc (f.form % 4);
  flags_stored = eqb (f.form / 64) 3;
}

-- how many flag bits stand for n variants
abbrev pub flag_count : Form → ℕ → ℕ
flag_count form n = pick form.flags_stored n 0

-- ---- the arrays

-- the columns of the whole file: a number for each variant
pub record Columns : Type 0 where
  pub types : List ℕ
  pub lengths : List ℕ
  pub flags : List ℕ

-- those of the first n variants, those of the others, and two put together. (Flags that are not stored are none in each.)
abbrev pub take_columns : ℕ → Columns → Columns
take_columns n c = record { types = take n c.types; lengths = take n c.lengths; flags = take n c.flags }

abbrev pub drop_columns : ℕ → Columns → Columns
drop_columns n c = record { types = drop n c.types; lengths = drop n c.lengths; flags = drop n c.flags }

abbrev pub join_columns : Columns → Columns → Columns
join_columns c d = record { types = c.types ++ d.types; lengths = c.lengths ++ d.lengths; flags = c.flags ++ d.flags }

abbrev pub no_columns : Columns
no_columns = record { types = []; lengths = []; flags = [] }

pub record Arrays : Type 0 where
  pub offsets : List ℕ
  pub columns : Columns

unfoldable pub sum : List ℕ → ℕ
sum [] = 0
sum (n ∷ ns) = n + sum ns

-- 01: "blocks of 65,536 variants, the last may be shorter"
unfoldable pub block_count : ℕ → Fixed → ℕ
block_count K f = pick (unblocked f.mode) 0 ((f.variants + (K - 1)) / K)

unfoldable pub cut : ℕ → ℕ → ℕ → List ℕ
cut K zero M = []
cut K (suc blocks) M = min K M ∷ cut K blocks (M - K)

abbrev pub block_sizes : ℕ → Fixed → List ℕ
block_sizes K f = cut K (block_count K f) f.variants

-- 01: "Then for each block its packed types (low nibble first), its lengths, and, where bits 6 and 7 are 3, its flag bits."
unfoldable pub block_bytes : Form → Columns → List ℕ
block_bytes form c = packed form.type_bits c.types ++ (numbers_bytes form.length_width c.lengths ++ packed one c.flags)

unfoldable pub blocks_bytes : Form → List ℕ → Columns → List ℕ
blocks_bytes form [] c = []
blocks_bytes form (n ∷ ns) c = block_bytes form (take_columns n c) ++ blocks_bytes form ns (drop_columns n c)

-- 01: "First an 8-byte file offset per block." Mode 0x02: "no offsets, types or lengths; the flag bits if stored"
unfoldable pub blocked_bytes : ℕ → Fixed → Arrays → List ℕ
blocked_bytes K f a = numbers_bytes 8 a.offsets ++ blocks_bytes (form_of f) (block_sizes K f) a.columns

unfoldable pub arrays_bytes : ℕ → Fixed → Arrays → List ℕ
arrays_bytes K f a = pick (unblocked f.mode) (packed one a.columns.flags) (blocked_bytes K f a)

-- how many bytes they are: those of a block of n variants; all
unfoldable pub block_size : Form → ℕ → ℕ
block_size form n = packed_size form.type_bits n + (form.length_width * n + packed_size one (flag_count form n))

unfoldable pub blocked_size : ℕ → Fixed → ℕ
blocked_size K f = 8 * block_count K f + sum (map (block_size (form_of f)) (block_sizes K f))

unfoldable pub arrays_size : ℕ → Fixed → ℕ
arrays_size K f = pick (unblocked f.mode) (packed_size one (flag_count (form_of f) f.variants)) (blocked_size K f)

abbrev pub header_end : ℕ → Fixed → ℕ
header_end K f = 12 + arrays_size K f

-- the header's bytes: the fixed fields, then the arrays
unfoldable pub header_bytes : ℕ → Fixed → Arrays → List ℕ
header_bytes K f a = fixed_bytes f ++ arrays_bytes K f a

-- 01: "Records stand one after another from the header's end to the file's end". Where the first of them starts, in the file that holds them
abbrev pub first_record : ℕ → Fixed → ℕ
first_record K f = header_end K f

-- ---- the layout

-- a file as its header tells it: the type, the flag bit if stored, and the body's bytes of each variant
pub record Layout : Type 0 where
  pub mode : ℕ
  pub samples : ℕ
  pub form : ℕ
  pub types : List ℕ
  pub flags : List ℕ
  pub bodies : List (List ℕ)

abbrev pub fixed_of : Layout → Fixed
fixed_of l = record { magic = 0x1b6c; mode = l.mode; variants = length l.bodies; samples = l.samples; form = l.form }

abbrev pub body_lengths : Layout → List ℕ
body_lengths l = map length l.bodies

abbrev pub columns_of : Layout → Columns
columns_of l = record { types = l.types; lengths = body_lengths l; flags = l.flags }

-- 01: "each block offset is exactly where its first record starts", of blocks of so many variants each, with the first record of all at `start`
unfoldable pub block_starts : ℕ → List ℕ → List ℕ → List ℕ
block_starts start [] lengths = []
block_starts start (n ∷ ns) lengths = start ∷ block_starts (start + sum (take n lengths)) ns (drop n lengths)

-- what the offsets must be, by the lengths of all records
abbrev pub block_offsets : ℕ → Fixed → List ℕ → List ℕ
block_offsets K f lengths = block_starts (first_record K f) (block_sizes K f) lengths

abbrev pub arrays_of : ℕ → Layout → Arrays
arrays_of K l = record { offsets = block_offsets K (fixed_of l) (body_lengths l); columns = columns_of l }

-- 01: "Records stand one after another"
unfoldable pub joined : List (List ℕ) → List ℕ
joined [] = []
joined (body ∷ bodies) = body ++ joined bodies

-- a header, and what stands after it: in a file in one piece its records. Here the two parts of such a file are joined.
unfoldable pub in_parts : ℕ → Fixed → Arrays → List ℕ → List ℕ
in_parts K f a after = header_bytes K f a ++ after

unfoldable pub layout_bytes : ℕ → Layout → List ℕ
layout_bytes K l = in_parts K (fixed_of l) (arrays_of K l) (joined l.bodies)

-- where the record of variant v starts; it ends where the next would start
unfoldable pub record_start : ℕ → Layout → FileVariant → ℕ
record_start K l v = first_record K (fixed_of l) + sum (take v.0 (body_lengths l))

-- ---- when it obeys

pub record FixedObeys (f : Fixed) : Type 0 where
  pub magic : f.magic ≡ 0x1b6c
  pub mode : mode_covered f.mode ≡ true
  pub variants : from_1_to most_variants f.variants ≡ true
  pub samples : from_1_to most_samples f.samples ≡ true
  pub form : form_allowed f.mode f.form ≡ true
  pub form_byte : f.form < 256

-- the columns of n variants fit their arrays
pub record ColumnsFit (form : Form) (n : ℕ) (c : Columns) : Type 0 where
  pub types_count : length c.types ≡ n
  pub lengths_count : length c.lengths ≡ n
  pub flags_count : length c.flags ≡ flag_count form n
  pub types_small : Below (limit form.type_bits) c.types
  pub lengths_small : Below (256 ^ form.length_width) c.lengths
  pub flags_small : Below 2 c.flags

-- those of a file with no blocks: every record has the one type and the one size
pub record ColumnsUnblocked (f : Fixed) (c : Columns) : Type 0 where
  pub types_same : c.types ≡ replicate f.variants (fixed_type f)
  pub lengths_same : c.lengths ≡ replicate f.variants (fixed_size f)
  pub flags_count : length c.flags ≡ flag_count (form_of f) f.variants
  pub flags_small : Below 2 c.flags

-- those of a file with blocks
abbrev pub AllFit : Fixed → Columns → Type 0
AllFit f c = ColumnsFit (form_of f) f.variants c

abbrev pub ColumnsObey : Fixed → Columns → Type 0
ColumnsObey f c = pick (unblocked f.mode) (ColumnsUnblocked f c) (AllFit f c)

-- the offsets fit: one of eight bytes for each block, none where there are no blocks
abbrev pub OffsetsFit : ℕ → Fixed → List ℕ → Type 0
OffsetsFit K f offsets = (length offsets ≡ block_count K f) × Below (256 ^ 8) offsets

-- 01: "A type is allowed if its kind is not 5, all its other bits are 0, and its kind is not 2 or 3 at the first variant of a block." 02, Ask 1: "bit 4
-- leaves 8"; so the others are bits 3, 5, 6 and 7.
abbrev pub bits_allowed : ℕ → Bool
bits_allowed type = ltb (type % 16) 8 && ltb type 32

abbrev pub type_allowed : BlockVariant → ℕ → Bool
type_allowed i type = bits_allowed type && (not (eqb (kind_of type) 5) && not (eqb i.0 0 && type_leans type))

abbrev pub TypesAllowed : ℕ → FileVariant → List ℕ → Type 0
TypesAllowed K v [] = Unit {0}
TypesAllowed K v (type ∷ types) = (type_allowed (in_block K v) type ≡ true) × TypesAllowed K (next_variant v) types

pub record LayoutObeys (K : ℕ) (l : Layout) : Type 0 where
  pub fixed : FixedObeys (fixed_of l)
  pub columns : ColumnsObey (fixed_of l) (columns_of l)
  pub types : TypesAllowed K (file_variant 0) l.types
