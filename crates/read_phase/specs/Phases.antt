-- The contracts: what the format's own phase track is to a step of the code.
-- Assumes nothing.
use Rattle.std.specs.Prelude.{◌≡◌, ℕ, ◌+◌, ◌%◌, Bool, List, [], ◌∷◌, ◌++◌, length, take, drop, eqb, Result, Ok, Err}
use Rattle.std.specs.Int.Count
use Rattle.base_cursor.specs.declared.Cursor.{Cursor}
use Rattle.format.specs.declared.Refusal.{Refusal}
use Rattle.format.specs.Base.{Out, ok, refused}
use Rattle.format.specs.Phase.{heterozygous_count, PhaseTrack, first_of, read_phase_track, spread}
use Rattle.base_cursor.specs.Steps.{before}

abbrev pub phases_step : ℕ → Out PhaseTrack → Result Cursor Refusal
phases_step end (ok track left) = Ok (before end left)
phases_step end (refused why) = Err why

-- the phase track over h heterozygous calls at `at`, of a record that ends where the list does
unfoldable pub phases_at : ℕ → List ℕ → ℕ → Result Cursor Refusal
phases_at h l at = phases_step (length l) (read_phase_track (length l) h (drop at l))

-- whether the track at `at` says that presence bits follow its first bit
abbrev pub stored_at : List ℕ → ℕ → Bool
stored_at l at = eqb (first_of (drop at l) % 2) 1

-- how many bits of some bytes are set
unfoldable pub byte_ones : List ℕ → ℕ
byte_ones [] = 0
byte_ones (b ∷ bs) = Count.ones b + byte_ones bs

-- ---- the track put into an output

-- a track over the heterozygous calls of a row's first n samples is accepted at `at`
pub record PhasesThere (n : ℕ) (l : List ℕ) (at : ℕ) (row : List ℕ) : Type 0 where
  pub track : PhaseTrack
  pub left : List ℕ
  pub reads : read_phase_track (length l) (heterozygous_count (take n row)) (drop at l) ≡ ok track left

abbrev pub track_put : ℕ → List ℕ → List ℕ → Out PhaseTrack → List ℕ
track_put n row output (ok track left) = spread (take n row) track.phases ++ drop n output
track_put n row output (refused why) = output

-- its phases in the first n bytes of an output, by the row
unfoldable pub phases_put : ℕ → List ℕ → ℕ → List ℕ → List ℕ → List ℕ
phases_put n l at row output = track_put n row output (read_phase_track (length l) (heterozygous_count (take n row)) (drop at l))
