-- What is known of a file that has passed 1 to 7. K is the number of variants to a block.
-- Assumes nothing.
use Rattle.std.specs.Prelude.{◌≡◌, ℕ, zero, ◌<◌, false, List, drop}
use Rattle.format.specs.Layout.{Fixed, unblocked, Arrays, header_end, in_parts, OffsetsFit, AllFit, ColumnsObey}
use Rattle.format.specs.Variant.{file_variant}
use Rattle.format.specs.Header.{need_types}
use Rattle.head_index.specs.NumbersAt.{fixed_at}
use Rattle.head_index.specs.Rules.{after_fixed, after_types}

-- where there are blocks: the arrays fit
pub record Known (K : ℕ) (f : Fixed) (a : Arrays) : Type 0 where
  pub some : zero < K
  pub blocked : unblocked f.mode ≡ false
  pub offsets_fit : OffsetsFit K f a.offsets
  pub all_fit : AllFit f a.columns

-- the file is a header and what stands after it, and what is left are rules 8 and 9
pub record Passed (K : ℕ) (bs : List ℕ) (a : Arrays) : Type 0 where
  pub parts : bs ≡ in_parts K (fixed_at bs) a (drop (header_end K (fixed_at bs)) bs)
  pub offsets : OffsetsFit K (fixed_at bs) a.offsets
  pub columns : ColumnsObey (fixed_at bs) a.columns
  pub goes_on : after_fixed K bs ≡ need_types K (fixed_at bs) (file_variant 0) a.columns.types (after_types K bs a)
