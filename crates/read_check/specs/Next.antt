-- The contract: what the next record of a check of all does to the row that holds its anchor's categories.
-- Assumes nothing.
use Rattle.std.specs.Prelude.{ℕ, Bool, not, ◌&&◌, List}
use Rattle.format.specs.Base.{pick}
use Rattle.format.specs.Body.{type_leans}
use Rattle.read_record.specs.Recorded.{RecordLeft, record_left, recorded}
use Rattle.read_check.specs.Checked.{body_checked}

-- whether its own row is made: it leans on none, and is the anchor of the record of type `after` that comes then
unfoldable pub row_made : ℕ → ℕ → Bool
row_made type after = not (type_leans type) && type_leans after

-- it is read into the row, or only checked, and then the row stays
unfoldable pub next_checked : ℕ → ℕ → ℕ → List ℕ → ℕ → List ℕ → RecordLeft
next_checked n type after l start row =
    pick (row_made type after) (recorded n type l start row) (record_left (body_checked n type l start row) row)
