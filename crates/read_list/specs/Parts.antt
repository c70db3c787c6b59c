-- The whole list by position: its count, where its parts stand, its entries. (That this is the format's own reading is proofs/Agrees.)
-- Assumes nothing.
use Rattle.std.specs.Prelude.{ℕ, ◌+◌, ◌-◌, ◌*◌, ◌/◌, List, length, leb, eqb, Result, Ok, Err}
use Rattle.base_cursor.specs.declared.Cursor.{Cursor}
use Rattle.format.specs.declared.Refusal.{Refusal}
use Rattle.format.specs.Base.{pick, refusal}
use Rattle.format.specs.Difflist.{groups, number_width}
use Rattle.format.specs.Packed.{two}
use Rattle.base_cursor.specs.Steps.{cursor_at, varint_at}
use Rattle.read_packed.specs.Arrays.{unused}
use Rattle.read_list.specs.Entries.{ListLeft, list_left, put_entries, check_entries}
use Rattle.read_list.specs.declared.ListRule.{ListRule}
use Rattle.read_list.specs.declared.State.{State}

-- the count, from what its varint at `at` reads as
unfoldable pub count_of : Result (ℕ × Cursor) Refusal → ℕ → ℕ → Result (ℕ × Cursor) Refusal
count_of (Err why) n at = Err why
count_of (Ok (m, c)) n at = pick (leb m n) (Ok (m, c)) (Err (refusal 16 at))

-- where the parts of a list of m entries stand, whose heads start at `at`
abbrev pub sizes_at : ℕ → ℕ → ℕ → ℕ
sizes_at n m at = at + number_width n * groups m

abbrev pub values_at : ℕ → ℕ → ℕ → ℕ
values_at n m at = sizes_at n m at + (groups m - 1)

abbrev pub steps_at : ℕ → ℕ → ℕ → ℕ
steps_at n m at = values_at n m at + (m + 3) / 4

-- the place before the first entry: no group has begun, and the first has no size byte before it
abbrev pub first_at : ℕ → ℕ → ℕ → State
first_at heads sizes steps =
    record { room = 0; from = cursor_at steps; last = 0; head = cursor_at heads; size = cursor_at sizes; passed = 0; at = cursor_at steps }

unfoldable pub lay_out : List ℕ → ℕ → ℕ → ℕ → Result (ℕ × State) Refusal
lay_out l n m at =
    pick (leb (steps_at n m at) (length l))
    (pick (eqb (unused two l (values_at n m at) m) 0)
    (Ok (values_at n m at, first_at at (sizes_at n m at) (steps_at n m at)))
    (Err (refusal 18 (steps_at n m at - 1))))
    (Err (refusal 12 (length l)))

-- a whole list: what its entries come to, from their count, where their values start and the place before the first, and what `stop` makes of an answer
-- before them
abbrev pub laid_out : {X : Type 0} → ((Result Cursor Refusal) → X) → (ℕ → State → X) → Result (ℕ × State) Refusal → X
laid_out stop entries (Err why) = stop (Err why)
laid_out stop entries (Ok (vals, st)) = entries vals st

abbrev pub counted_out : {X : Type 0} → ((Result Cursor Refusal) → X) → (ℕ → ℕ → State → X) → List ℕ → ℕ → Result (ℕ × Cursor) Refusal → X
counted_out stop entries l n (Err why) = stop (Err why)
counted_out stop entries l n (Ok (m, c)) = pick (eqb m 0) (stop (Ok c)) (laid_out stop (entries m) (lay_out l n m c.at))

-- put into the row, and only checked
unfoldable pub put_parts : ListRule → ℕ → List ℕ → ℕ → List ℕ → ListLeft
put_parts held n l at row =
    counted_out (λ r. list_left r row) (λ m vals st. put_entries m l n vals held st row) l n (count_of (varint_at l at) n at)

unfoldable pub check_parts : ListRule → ℕ → List ℕ → ℕ → List ℕ → Result Cursor Refusal
check_parts held n l at row = counted_out (λ r. r) (λ m vals st. check_entries m l n vals held st row) l n (count_of (varint_at l at) n at)
