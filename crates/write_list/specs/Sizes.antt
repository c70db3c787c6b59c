-- A list counted: its entries, the bytes of their steps, its size.
-- Assumes nothing.
use Rattle.std.specs.Prelude.{◌≡◌, ℕ, ◌+◌, List, length, eqb}
use Rattle.format.specs.Base.{pick}
use Rattle.format.specs.Difflist.{Entry, number_width, list_bytes}
use Rattle.write_parts.specs.Parts.{sample_bytes, after_sample, part_bytes}
use Rattle.write_parts.specs.declared.Part.TheVariants.{Steps}
use Rattle.write_list.specs.declared.Counted.{Counted}
use Rattle.write_list.specs.declared.ListSize.{ListSize}

-- a sample counted
pub record Counts (base value i : ℕ) (c r : Counted) : Type 0 where
  pub moved : r.group ≡ after_sample base value c.group i
  pub counts : r.count ≡ c.count + pick (eqb value base) 0 1
  pub sizes : r.steps ≡ c.steps + length (sample_bytes Steps 0 base value c.group i)

-- all entries counted
pub record Measured (es : List Entry) (r : Counted) : Type 0 where
  pub count_is : r.count ≡ length es
  pub steps_are : r.steps ≡ length (part_bytes Steps 0 es)

-- 01, Difference lists: "A count L", and the bytes of the list of a row of so many samples
pub record SizeOf (samples : ℕ) (es : List Entry) (r : ListSize) : Type 0 where
  pub count_is : r.count ≡ length es
  pub bytes_are : r.bytes ≡ length (list_bytes (number_width samples) es)
