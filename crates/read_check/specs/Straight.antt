-- The contracts: what a record that leans on none does to an output that it is read into straight, and to one for its phases.
-- Assumes nothing.
use Rattle.std.specs.Prelude.{ℕ, List, [], ◌++◌, length, drop, Ok, Err}
use Rattle.format.specs.Base.{Out, ok, refused, map_out}
use Rattle.format.specs.Body.{Body, read_body, body_categories, Reading, body_reading}
use Rattle.read_list.specs.Entries.{ListLeft, list_left}
use Rattle.read_record.specs.Recorded.{tracks_read, RecordLeft, record_left, PhasedLeft, phased_left}

-- `what` of the record of a type at `start`, that leans on none and ends where the list l does
abbrev pub own_as : {A : Type 0} → (ℕ → List ℕ → Body → A) → ℕ → ℕ → List ℕ → ℕ → Out A
own_as what n type l start = map_out (what n []) (read_body (length l) n [] type (drop start l))

-- what the reading of its tracks leaves, but that a refusal leaves the output as it was
abbrev pub untouched : List ℕ → ListLeft → ListLeft
untouched output (list_left (Ok c) row) = list_left (Ok c) row
untouched output (list_left (Err why) row) = list_left (Err why) output

unfoldable pub straight_tracks : ℕ → ℕ → List ℕ → ℕ → List ℕ → ListLeft
straight_tracks n type l start output = untouched output (tracks_read n type l start output)

-- 02, Ask 3: "Check such a record first, then unpack straight to the output": its categories stand in the output's first n bytes; a refusal leaves it as it was
abbrev pub straight_replied : ℕ → List ℕ → Out (List ℕ) → RecordLeft
straight_replied n output (ok categories left) = record_left (Ok tt) (categories ++ drop n output)
straight_replied n output (refused why) = record_left (Err why) output

unfoldable pub straight : ℕ → ℕ → List ℕ → ℕ → List ℕ → RecordLeft
straight n type l start output = straight_replied n output (own_as body_categories n type l start)

-- and its phases in theirs
abbrev pub straight_phased_replied : ℕ → List ℕ → List ℕ → Out Reading → PhasedLeft
straight_phased_replied n output phases (ok reading left) =
    phased_left (Ok tt) (reading.categories ++ drop n output) (reading.phases ++ drop n phases)
straight_phased_replied n output phases (refused why) = phased_left (Err why) output phases

unfoldable pub straight_phased : ℕ → ℕ → List ℕ → ℕ → List ℕ → List ℕ → PhasedLeft
straight_phased n type l start output phases = straight_phased_replied n output phases (own_as body_reading n type l start)
