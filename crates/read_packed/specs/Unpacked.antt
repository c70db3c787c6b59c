-- The contracts: what the format's own packed array is to a step of the code and to a row.
-- Assumes nothing.
use Rattle.std.specs.Prelude.{ℕ, List, ◌++◌, map, length, drop, Result, Ok, Err}
use Rattle.base_cursor.specs.declared.Cursor.{Cursor}
use Rattle.format.specs.declared.Refusal.{Refusal}
use Rattle.format.specs.Base.{pick, Out, ok, refused}
use Rattle.format.specs.Packed.{Bits, one, two, read_packed}
use Rattle.format.specs.Track.{bit_set}
use Rattle.base_cursor.specs.Steps.{before}

abbrev pub packed_step : ℕ → Out (List ℕ) → Result Cursor Refusal
packed_step end (ok vs left) = Ok (before end left)
packed_step end (refused why) = Err why

-- the array of n numbers at `at`, of a record that ends where the list does
unfoldable pub array_at : Bits → ℕ → List ℕ → ℕ → Result Cursor Refusal
array_at bits n l at = packed_step (length l) (read_packed (length l) bits n (drop at l))

-- a step, with what the row then holds
pub data UnpackLeft : Type 0 where
  unpack_left : Result Cursor Refusal → List ℕ → UnpackLeft

-- an accepted array is put into the row's first n bytes, each number as f makes it; a refusal leaves the row as it was
abbrev pub unpacked : ℕ → (List ℕ → List ℕ) → ℕ → List ℕ → Out (List ℕ) → UnpackLeft
unpacked end f n row (ok vs left) = unpack_left (Ok (before end left)) (f vs ++ drop n row)
unpacked end f n row (refused why) = unpack_left (Err why) row

unfoldable pub unpacked_two : ℕ → List ℕ → ℕ → List ℕ → UnpackLeft
unpacked_two n l at row = unpacked (length l) (λ vs. vs) n row (read_packed (length l) two n (drop at l))

-- the category of a pair that a bit stands for
abbrev pub of_pair : ℕ → ℕ → ℕ → ℕ
of_pair lower higher bit = pick (bit_set bit) higher lower

unfoldable pub unpacked_one : ℕ → ℕ → ℕ → List ℕ → ℕ → List ℕ → UnpackLeft
unpacked_one lower higher n l at row = unpacked (length l) (map (of_pair lower higher)) n row (read_packed (length l) one n (drop at l))
