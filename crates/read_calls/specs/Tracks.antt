-- The contract of a main track that is only counted: H of the record's own row, of the track that the format reads.
-- Assumes nothing.
use Rattle.std.specs.Prelude.{ℕ, List, map, length, take, drop, Result, Ok, Err}
use Rattle.base_cursor.specs.declared.Cursor.{Cursor}
use Rattle.format.specs.declared.Refusal.{Refusal}
use Rattle.format.specs.Base.{Out, ok, refused}
use Rattle.format.specs.Packed.{one, read_packed}
use Rattle.format.specs.Difflist.{number_width, read_list}
use Rattle.format.specs.declared.Kind.{Kind}
use Rattle.format.specs.Track.{rule, Track, read_kind}
use Rattle.format.specs.Body.{track_heterozygous}
use Rattle.base_cursor.specs.Steps.{before}
use Rattle.read_packed.specs.Unpacked.{of_pair}
use Rattle.read_list.specs.Listed.{may_hold}
use Rattle.read_list.specs.declared.ListRule.TheVariants.{OffPair}
use Rattle.read_calls.specs.Counted.{count_replied}

-- the cursor past the track with H of the record's own row, or the refusal
abbrev pub track_told : ℕ → ℕ → List ℕ → Out Track → Result (Cursor × ℕ) Refusal
track_told end n anchor (ok track left) = Ok (before end left, track_heterozygous n anchor track)
track_told end n anchor (refused why) = Err why

-- the track of a kind at `start`, of a record that ends where the list l does
unfoldable pub track_counted : Kind → ℕ → List ℕ → ℕ → List ℕ → Result (Cursor × ℕ) Refusal
track_counted k n l start row = track_told (length l) n (take n row) (read_kind (length l) n (take n row) k (drop start l))

-- the bits and the list of a track of kind 1, after its pair code
abbrev pub bits_told : ℕ → ℕ → ℕ → ℕ → Out (List ℕ) → Result (Cursor × ℕ) Refusal
bits_told lower higher end n (ok bits left) =
    let base = map (of_pair lower higher) bits in
    count_replied end base (read_list (rule n (may_hold (OffPair lower higher) base)) (number_width n) end left)
bits_told lower higher end n (refused why) = Err why

unfoldable pub bits_counted : ℕ → ℕ → ℕ → List ℕ → ℕ → Result (Cursor × ℕ) Refusal
bits_counted lower higher n l at = bits_told lower higher (length l) n (read_packed (length l) one n (drop at l))
