-- What a reading step of the code answers, for what the format's own reader gives.
-- Assumes nothing.
use Rattle.std.specs.Prelude.{ℕ, ◌+◌, List, length, drop, leb, Option, Some, None, Result, Ok, Err}
use Rattle.format.specs.declared.Refusal.{Refusal}
use Rattle.format.specs.Base.{pick, Out, ok, refused, place_of}
use Rattle.format.specs.Numbers.{read_number}
use Rattle.format.specs.Varint.{read_varint_within, read_varint}
use Rattle.head_index.specs.NumbersAt.{number_at}
use Rattle.base_cursor.specs.declared.Cursor.{Cursor}
use Rattle.base_cursor.specs.declared.NumberStep.{NumberStep}

abbrev pub cursor_at : ℕ → Cursor
cursor_at at = record { at = at }

-- the cursor where the bytes that are left begin
abbrev pub before : ℕ → List ℕ → Cursor
before end left = cursor_at (place_of end left)

-- what a reader found, with the next cursor, or why it refused
abbrev pub step : ℕ → Out ℕ → Result (ℕ × Cursor) Refusal
step end (ok n left) = Ok (n, before end left)
step end (refused why) = Err why

-- the byte and the varint at `at`, of a record that ends where the list does
unfoldable pub byte_at : List ℕ → ℕ → Result (ℕ × Cursor) Refusal
byte_at l at = step (length l) (read_number (length l) 1 (drop at l))

unfoldable pub varint_at : List ℕ → ℕ → Result (ℕ × Cursor) Refusal
varint_at l at = step (length l) (read_varint (length l) (drop at l))

-- what is left of a varint that started at `first`, from the byte at `at` on: at most `more` bytes follow that one, and the last is at least `least`
abbrev pub varint_rest : List ℕ → ℕ → ℕ → ℕ → ℕ → Result (ℕ × Cursor) Refusal
varint_rest l first more least at = step (length l) (read_varint_within (length l) first more least (drop at l))

-- the varint at `at`, if it takes a byte or two
abbrev pub short_step : ℕ → Result (ℕ × Cursor) Refusal → Option (ℕ × Cursor)
short_step at (Ok (n, c)) = pick (leb c.at (at + 2)) (Some (n, c)) None
short_step at (Err why) = None

unfoldable pub short_at : List ℕ → ℕ → Option (ℕ × Cursor)
short_at l at = short_step at (varint_at l at)

-- the number of w bytes at p, and the cursor past it
abbrev pub number_step : ℕ → List ℕ → ℕ → NumberStep
number_step w l p = record { value = number_at w (drop p l); next = cursor_at (p + w) }
