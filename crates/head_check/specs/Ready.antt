-- What the steps of the header check hand on to each other.
-- Assumes nothing.
use Rattle.std.specs.Prelude.{◌≡◌, ℕ, ◌≤◌, false, List, length}
use Rattle.format.specs.declared.Fields.{Fields}
use Rattle.format.specs.Base.{Bytes}
use Rattle.format.specs.Limits.{variants_to_a_block}
use Rattle.format.specs.Layout.{unblocked, header_end, FixedObeys}
use Rattle.head_index.specs.NumbersAt.{fixed_at}
use Rattle.head_blocks.specs.declared.Blocks.{Blocks}
use Rattle.head_blocks.specs.Parts.{fixed, blocks_of, BlocksSmall}

-- 1 to 5 have passed, and these are the fields
pub record FieldsPassed (bs : List ℕ) (f : Fields) : Type 0 where
  pub long : 12 ≤ length bs
  pub bytes : Bytes bs
  pub same : fixed_at bs ≡ fixed f
  pub obeys : FixedObeys (fixed f)

-- 6 has passed: the header is in the file
pub record Held (bs : List ℕ) (f : Fields) : Type 0 where
  pub ready : FieldsPassed bs f
  pub fits : header_end variants_to_a_block (fixed f) ≤ length bs

-- there are blocks besides, and these are the places of their arrays
pub record Placed (bs : List ℕ) (f : Fields) (b : Blocks) : Type 0 where
  pub held : Held bs f
  pub blocked : unblocked f.mode ≡ false
  pub b_is : b ≡ blocks_of (fixed f)
  pub small : BlocksSmall b
