-- The contract of a list that is only counted: H of the row that the format's own list makes of that which it is against.
-- Assumes nothing.
use Rattle.std.specs.Prelude.{ℕ, List, length, drop, Result, Ok, Err}
use Rattle.base_cursor.specs.declared.Cursor.{Cursor}
use Rattle.format.specs.declared.Refusal.{Refusal}
use Rattle.format.specs.Base.{Out, ok, refused}
use Rattle.format.specs.Difflist.{Entry, number_width, read_list}
use Rattle.format.specs.Track.{rule, apply}
use Rattle.format.specs.Phase.{heterozygous_count}
use Rattle.base_cursor.specs.Steps.{before}
use Rattle.read_list.specs.Entries.{ListLeft, list_left}
use Rattle.read_list.specs.Listed.{may_hold}
use Rattle.read_list.specs.declared.ListRule.{ListRule}

-- 02, Ask 1: "H is the number of samples in category 1": of the row that an accepted list makes of `base`, with the cursor past the list
abbrev pub count_replied : ℕ → List ℕ → Out (List Entry) → Result (Cursor × ℕ) Refusal
count_replied end base (ok es left) = Ok (before end left, heterozygous_count (apply es base))
count_replied end base (refused why) = Err why

-- the list at `at`, over n samples, of a record that ends where the list l does, against `base`
unfoldable pub counted : ListRule → List ℕ → ℕ → List ℕ → ℕ → Result (Cursor × ℕ) Refusal
counted held base n l at = count_replied (length l) base (read_list (rule n (may_hold held base)) (number_width n) (length l) (drop at l))

-- the same of a walk that puts its entries into a row
unfoldable pub counted_left : ListLeft → Result (Cursor × ℕ) Refusal
counted_left (list_left (Ok c) row) = Ok (c, heterozygous_count row)
counted_left (list_left (Err why) row) = Err why
