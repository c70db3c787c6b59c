-- The contract of a list that is only checked: the format's own list, over a row that stays.
-- Assumes nothing.
use Rattle.std.specs.Prelude.{ℕ, List, length, Result, Ok, Err}
use Rattle.base_cursor.specs.declared.Cursor.{Cursor}
use Rattle.format.specs.declared.Refusal.{Refusal}
use Rattle.format.specs.Base.{Out, ok, refused}
use Rattle.base_cursor.specs.Steps.{before}
use Rattle.read_list.specs.Listed.{list_at}
use Rattle.read_list.specs.declared.ListRule.{ListRule}

-- the cursor past what was read, or the refusal
abbrev pub stepped : {A : Type 0} → ℕ → Out A → Result Cursor Refusal
stepped end (ok a left) = Ok (before end left)
stepped end (refused why) = Err why

unfoldable pub checked : ListRule → ℕ → List ℕ → ℕ → List ℕ → Result Cursor Refusal
checked held n l at row = stepped (length l) (list_at held n l at row)
