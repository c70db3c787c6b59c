-- The contract: what the check of a record answers, over the row that holds its anchor's categories. Only a record that leans looks at the row.
-- Assumes nothing.
use Rattle.std.specs.Prelude.{ℕ, true, List, length, take, drop, Result, Ok, Err, ⊤}
use Rattle.base_cursor.specs.declared.Cursor.{Cursor}
use Rattle.format.specs.declared.Refusal.{Refusal}
use Rattle.format.specs.Base.{bind}
use Rattle.format.specs.Packed.{one, read_packed}
use Rattle.format.specs.Difflist.{number_width, read_list}
use Rattle.format.specs.declared.Kind.{Kind}
use Rattle.format.specs.Track.{rule, read_kind}
use Rattle.format.specs.Body.{read_body}
use Rattle.read_list.specs.Checked.{stepped}
use Rattle.read_calls.specs.Tracks.{track_counted}
use Rattle.read_record.specs.Rows.{off_both}
use Rattle.read_record.specs.Recorded.{replied, end_checked}

-- the track of a kind at `start`, of a record that ends where the list l does
unfoldable pub track_checked : Kind → ℕ → List ℕ → ℕ → List ℕ → Result Cursor Refusal
track_checked k n l start row = stepped (length l) (read_kind (length l) n (take n row) k (drop start l))

-- the bits and the list of a track of kind 1, after its pair code
unfoldable pub bits_checked : ℕ → ℕ → ℕ → List ℕ → ℕ → Result Cursor Refusal
bits_checked lower higher n l at =
    stepped (length l)
    (bind (read_packed (length l) one n (drop at l)) (λ bits left. read_list (rule n (off_both lower higher)) (number_width n) (length l) left))

-- a record with a phase track. 02, Ask 1: "H is the number of samples in category 1": of its own row
abbrev pub counted_replied : List ℕ → Result (Cursor × ℕ) Refusal → Result ⊤ Refusal
counted_replied l (Err why) = Err why
counted_replied l (Ok (next, H)) = end_checked true H l next.at

unfoldable pub phased_checked : Kind → ℕ → List ℕ → ℕ → List ℕ → Result ⊤ Refusal
phased_checked k n l start row = counted_replied l (track_counted k n l start row)

-- the record of a type
unfoldable pub body_checked : ℕ → ℕ → List ℕ → ℕ → List ℕ → Result ⊤ Refusal
body_checked n type l start row = replied (read_body (length l) n (take n row) type (drop start l))
