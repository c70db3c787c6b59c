-- What the parts of the listing program are given and hand on: what the calls before them have answered.
-- Assumes nothing.
use Rattle.std.specs.Prelude.{◌≡◌, ℕ, List, length, Ok}
use Rattle.format.specs.declared.Fields.{Fields}
use Rattle.format.specs.Limits.{most_samples, variants_to_a_block}
use Rattle.format.specs.Reply.{check_left, check_call}
use Rattle.call_rows.specs.declared.Rows.{Rows}
use Rattle.call_rows.specs.Calls.{answered, row_left, next_row_call}

-- the whole-file check, lent a work area `before`, has accepted the file and left this one; and there is room for any row
pub record FileChecked (file : List ℕ) (f : Fields) (work row : List ℕ) : Type 0 where
  pub before : List ℕ
  pub is_accepted : check_left (Ok f) work ≡ check_call variants_to_a_block file before
  pub as_long : length work ≡ length before
  pub room : length row ≡ most_samples

-- the next row is not refused; and what the call leaves then, with the state moved on
abbrev pub RowTaken : Rows → List ℕ → List ℕ → List ℕ → Rows → List ℕ → List ℕ → Type 0
RowTaken rows file row work later row₁ work₁ = row_left (answered later (Ok tt)) row₁ work₁ ≡ next_row_call rows file row work
