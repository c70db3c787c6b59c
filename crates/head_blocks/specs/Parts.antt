-- What the numbers that the code reads from a header stand for.
-- Assumes nothing.
use Rattle.std.specs.Prelude.{◌≡◌, ℕ, suc, min, ◌+◌, ◌-◌, ◌*◌, ◌/◌, ◌%◌, ◌≤◌, ◌<◌, Bool, List, [], length, eqb, ltb, Option, Some, None}
use Rattle.format.specs.Base.{pick, Out, ok, refuse}
use Rattle.format.specs.Limits.{most_variants, variants_to_a_block}
use Rattle.format.specs.Packed.{four, eight}
use Rattle.format.specs.Layout.{Fixed, Form, form_of, Arrays, block_size, in_parts}
use Rattle.format.specs.Header.{block_place}
use Rattle.head_index.specs.Known.{Known}
use Rattle.format.specs.declared.Fields.{Fields}
use Rattle.head_blocks.specs.declared.Blocks.{Blocks}

-- the fixed fields but for the magic number, which is checked once
abbrev pub fixed : Fields → Fixed
fixed f = record { magic = 0x1b6c; mode = f.mode; variants = f.variants; samples = f.samples; form = f.form }

-- how a form byte has the arrays stored, and where they stand in mode 0x10
abbrev pub blocks_of : Fixed → Blocks
blocks_of f = record {
  at = block_place variants_to_a_block f 0;
  full = block_size (form_of f) variants_to_a_block;
  half = ltb (f.form % 16) 4;
  width = suc (f.form % 4);
  stored = eqb (f.form / 64) 3;
}

-- they are small, so that no sum of them wraps
pub record BlocksSmall (b : Blocks) : Type 0 where
  pub at_most : b.at ≤ 2060
  pub full_most : b.full ≤ 393216
  pub width_least : 1 ≤ b.width
  pub width_most : b.width ≤ 4

-- as the format's definitions have it
abbrev pub form_from : Bool → ℕ → Bool → Form
form_from half width stored = record { type_bits = pick half four eight; length_width = width; flags_stored = stored }

abbrev pub form_in : Blocks → Form
form_in b = form_from b.half b.width b.stored

-- the variants of block j of m
abbrev pub count_in : ℕ → ℕ → ℕ
count_in m j = min variants_to_a_block (m - j * variants_to_a_block)

-- the arrays of every block are in the file
pub record BlocksFit (bs : List ℕ) (m : ℕ) (b : Blocks) : Type 0 where
  pub some : 1 ≤ m
  pub most : m ≤ most_variants
  pub small : BlocksSmall b
  pub each : (j : ℕ) → j * variants_to_a_block < m → b.at + j * b.full + block_size (form_in b) (count_in m j) ≤ length bs
  pub after_offsets : (j : ℕ) → j * variants_to_a_block < m → 12 + 8 * j + 8 ≤ length bs

-- the numbers are those of a file that has passed 1 to 7 in mode 0x10
pub record Arranged (bs : List ℕ) (m : ℕ) (b : Blocks) (f : Fixed) (a : Arrays) (records : List ℕ) : Type 0 where
  pub parts : bs ≡ in_parts variants_to_a_block f a records
  pub known : Known variants_to_a_block f a
  pub m_is : m ≡ f.variants
  pub b_is : b ≡ blocks_of f

-- what a look at unused bits finds: nothing, or refusal 7
abbrev pub unused_out : Option ℕ → Out (Unit {0})
unused_out None = ok tt []
unused_out (Some place) = refuse 7 place
