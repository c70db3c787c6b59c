-- The contract: what a list of the format does to the row that it is against.
-- Assumes nothing.
use Rattle.std.specs.Prelude.{ℕ, Bool, List, ◌++◌, length, get_or, take, drop, replicate, Ok, Err}
use Rattle.format.specs.Base.{Out, ok, refused}
use Rattle.format.specs.Difflist.{Entry, number_width, read_list}
use Rattle.format.specs.Track.{rule, apply}
use Rattle.base_cursor.specs.Steps.{before}
use Rattle.read_list.specs.Entries.{allows, ListLeft, list_left}
use Rattle.read_list.specs.declared.ListRule.{ListRule}

-- what the list may hold, over the categories that it is against: the format's `off_anchor`, or its `off_pair`
abbrev pub may_hold : ListRule → List ℕ → ℕ → ℕ → Bool
may_hold held categories sample value = allows held (get_or categories sample 1) value

-- the format's own list at `at`, over n samples, of a record that ends where the list l does
abbrev pub list_at : ListRule → ℕ → List ℕ → ℕ → List ℕ → Out (List Entry)
list_at held n l at row = read_list (rule n (may_hold held (take n row))) (number_width n) (length l) (drop at l)

-- an accepted list is applied to the row's first n bytes; after a refusal they are zero
abbrev pub list_replied : ℕ → ℕ → List ℕ → Out (List Entry) → ListLeft
list_replied end n row (ok es left) = list_left (Ok (before end left)) (apply es (take n row) ++ drop n row)
list_replied end n row (refused why) = list_left (Err why) (replicate n 0 ++ drop n row)

unfoldable pub listed : ListRule → ℕ → List ℕ → ℕ → List ℕ → ListLeft
listed held n l at row = list_replied (length l) n row (list_at held n l at row)
