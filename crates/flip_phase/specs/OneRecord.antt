-- One record of a file: that it stands at a place, and what its turn leaves. A member's phases are flipped, and its main track stays.
-- Assumes nothing.
use Rattle.std.specs.Prelude.{◌≡◌, ℕ, ◌+◌, ◌≤◌, Bool, true, List, ◌++◌, length, take, drop}
use Rattle.format.specs.Limits.{most_samples}
use Rattle.format.specs.Phase.{heterozygous_count, flip_phases}
use Rattle.format.specs.Track.{track_bytes}
use Rattle.format.specs.Body.{type_leans, Body, body_type, body_leans, body_bytes, BodyFits, body_categories, track_heterozygous}
use Rattle.format.specs.File.{next_anchor}
use Rattle.head_places.specs.declared.Place.{Place}
use Rattle.flip_phase.specs.declared.Main.{Main}

-- 02, Ask 1: "A flip turns each phase bit of a flipped variant"
abbrev pub turn_phases : Bool → Body → Body
turn_phases member body = record { main = body.main; phases = flip_phases member body.phases }

-- a record of n samples stands at p; if it leans, the row's first n bytes are its anchor's categories
pub record RecordThere (n : ℕ) (p : Place) (row file : List ℕ) : Type 0 where
  pub few : n ≤ most_samples
  pub room : n ≤ length row
  pub before : List ℕ
  pub body : Body
  pub after : List ℕ
  pub fits : BodyFits n (take n row) body
  pub type_is : p.record_type ≡ body_type body
  pub start_is : length before ≡ p.start
  pub end_is : p.end ≡ p.start + length (body_bytes n body)
  pub is : file ≡ before ++ (body_bytes n body ++ after)

-- if it leans, h of those are heterozygous
pub record CountHeld (n : ℕ) (p : Place) (row : List ℕ) (h : ℕ) : Type 0 where
  pub counted : type_leans p.record_type ≡ true → h ≡ heterozygous_count (take n row)

-- its phases are flipped, if it is a member; all else stays
pub record Turned (n : ℕ) (p : Place) (row : List ℕ) (member : Bool) (file later : List ℕ) : Type 0 where
  pub turned : (w : RecordThere n p row file) → later ≡ w.before ++ (body_bytes n (turn_phases member w.body) ++ w.after)

-- its main track was passed: where it ends, and how many calls are heterozygous, of the record's own row
pub record MainPassed (n : ℕ) (p : Place) (row file : List ℕ) (main : Main) : Type 0 where
  pub end_is : (w : RecordThere n p row file) → main.end.at ≡ p.start + length (track_bytes n w.body.main)
  pub count_is : (w : RecordThere n p row file) → main.count ≡ track_heterozygous n (take n row) w.body.main

-- and read into the row
pub record MainRead (n : ℕ) (p : Place) (row file row₁ : List ℕ) (main : Main) : Type 0 where
  pub passed : MainPassed n p row file main
  pub front : (w : RecordThere n p row file) → take n row₁ ≡ body_categories n (take n row) w.body
  pub rest : drop n row₁ ≡ drop n row

-- its turn: `leant_on` says that the next record leans, and then the row holds what that one leans on
pub record Passed (n : ℕ) (p : Place) (row : List ℕ) (member leant_on : Bool) (file later row₁ : List ℕ) (h : ℕ) : Type 0 where
  pub turned : Turned n p row member file later
  pub front : leant_on ≡ true → (w : RecordThere n p row file)
      → take n row₁ ≡ next_anchor (body_leans w.body) (take n row) (body_categories n (take n row) w.body)
  pub rest : drop n row₁ ≡ drop n row
  pub count : leant_on ≡ true → h ≡ heterozygous_count (take n row₁)
