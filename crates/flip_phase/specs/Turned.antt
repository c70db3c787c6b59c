-- A phase track flipped where it stands.
-- Assumes nothing.
use Rattle.std.specs.Prelude.{◌≡◌, ℕ, ◌≤◌, true, List, ◌++◌, length, take, drop}
use Rattle.format.specs.Base.{Out, ok, refused}
use Rattle.format.specs.Limits.{most_samples}
use Rattle.format.specs.Phase.{PhaseTrack, PhasesFit, phase_track_bytes, read_phase_track, flip_phase_track}

-- a track over H heterozygous calls stands at `at`
pub record TrackThere (H at : ℕ) (s : List ℕ) : Type 0 where
  pub few : H ≤ most_samples
  pub before : List ℕ
  pub track : PhaseTrack
  pub after : List ℕ
  pub fits : PhasesFit H track
  pub at_is : length before ≡ at
  pub is : s ≡ before ++ (phase_track_bytes track ++ after)

-- 02, Ask 1: "A flip turns each phase bit of a flipped variant": of the track that is read, written out again; bytes that hold none stay
abbrev pub turned_as : List ℕ → Out PhaseTrack → List ℕ
turned_as bs (ok t left) = phase_track_bytes (flip_phase_track true t) ++ left
turned_as bs (refused why) = bs

unfoldable pub track_turned : ℕ → ℕ → List ℕ → List ℕ
track_turned H at s = take at s ++ turned_as (drop at s) (read_phase_track (length s) H (drop at s))
