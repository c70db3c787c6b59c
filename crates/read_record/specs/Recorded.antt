-- The contract: what a record's body, as the format reads it, does to the row that holds its anchor's categories.
-- Assumes nothing.
use Rattle.std.specs.Prelude.{◌≡◌, ℕ, suc, ◌-◌, ◌≤◌, Bool, true, List, [], ◌∷◌, ◌++◌, length, take, drop, replicate, ltb, Result, Ok, Err, ⊤}
use Rattle.base_cursor.specs.declared.Cursor.{Cursor}
use Rattle.format.specs.declared.Refusal.{Refusal}
use Rattle.format.specs.Base.{pick, Out, ok, refused, refusal}
use Rattle.format.specs.Track.{Track, read_track, track_categories}
use Rattle.format.specs.Phase.{Phases, read_phases}
use Rattle.format.specs.Body.{kind_of, type_phased, Body, read_after, read_body, body_categories, body_phases}
use Rattle.format.specs.Reply.{named_reply, emptied}
use Rattle.format.specs.declared.FileVariant.{FileVariant}
use Rattle.base_cursor.specs.Steps.{before}
use Rattle.read_phase.specs.Phases.{PhasesThere, phases_put}
use Rattle.read_list.specs.Entries.{ListLeft, list_left}

-- accepted or refused, and how
abbrev pub replied : {A : Type 0} → Out A → Result ⊤ Refusal
replied (ok a left) = Ok tt
replied (refused why) = Err why

-- 01, Replies: "Lastly 13", by what the last track of a record gave that ends at `end`
unfoldable pub whole_record : ℕ → Result Cursor Refusal → Result ⊤ Refusal
whole_record end (Err why) = Err why
whole_record end (Ok c) = pick (ltb c.at end) (Err (refusal 13 c.at)) (Ok tt)

-- what follows the main track of a record that ends at `end`, by what its phase track was read as: none may be refused, and no byte left
unfoldable pub end_replied : ℕ → Out Phases → Result ⊤ Refusal
end_replied end (refused why) = Err why
end_replied end (ok track []) = Ok tt
end_replied end (ok track (b ∷ left)) = Err (refusal 13 (end - suc (length left)))

-- 02, Ask 1: a phase track follows where the type says so, at `at`, over h heterozygous calls of the record's own row; 01, Replies: "Lastly 13"
unfoldable pub end_checked : Bool → ℕ → List ℕ → ℕ → Result ⊤ Refusal
end_checked has h l at = end_replied (length l) (read_phases has (length l) h (drop at l))

-- ---- a record that is read

-- where the main track was read and what follows it was found to be in order: the cursor past the main track, and the record's categories in the row's
-- first n bytes; after a refusal they are zero
abbrev pub after_replied : ℕ → ℕ → List ℕ → Track → List ℕ → Out Body → ListLeft
after_replied end n row track after (ok body left) = list_left (Ok (before end after)) (track_categories n (take n row) track ++ drop n row)
after_replied end n row track after (refused why) = list_left (Err why) (emptied n row)

abbrev pub main_replied : ℕ → ℕ → ℕ → List ℕ → Out Track → ListLeft
main_replied end n type row (ok track after) = after_replied end n row track after (read_after end n (take n row) type track after)
main_replied end n type row (refused why) = list_left (Err why) (emptied n row)

-- the tracks of a record of a type at `start`, that ends where the list l does
unfoldable pub tracks_read : ℕ → ℕ → List ℕ → ℕ → List ℕ → ListLeft
tracks_read n type l start row = main_replied (length l) n type row (read_track (length l) n (take n row) (kind_of type) (drop start l))

-- a reply, with what the row then holds
pub data RecordLeft : Type 0 where
  record_left : Result ⊤ Refusal → List ℕ → RecordLeft

-- 02, Ask 2: a refusal names "the variant in whose record or type the fault lies"
abbrev pub named_left : FileVariant → RecordLeft → RecordLeft
named_left v (record_left reply row) = record_left (named_reply v reply) row

-- an accepted record's categories stand in the row's first n bytes; after a refusal they are zero
abbrev pub record_replied : ℕ → List ℕ → Out Body → RecordLeft
record_replied n row (ok body left) = record_left (Ok tt) (body_categories n (take n row) body ++ drop n row)
record_replied n row (refused why) = record_left (Err why) (emptied n row)

-- the record of a type at `start`, that ends where the list l does
unfoldable pub recorded : ℕ → ℕ → List ℕ → ℕ → List ℕ → RecordLeft
recorded n type l start row = record_replied n row (read_body (length l) n (take n row) type (drop start l))

-- ---- a record whose phases are read too

-- the phase track of an accepted record, where its type says that there is one, at `at`
pub record AfterThere (n type : ℕ) (l : List ℕ) (at : ℕ) (row : List ℕ) : Type 0 where
  pub inside : at ≤ length l
  pub there : type_phased type ≡ true → PhasesThere n l at row

-- its phases in the output, by its own row; all unphased without such a track
abbrev pub after_put : ℕ → ℕ → List ℕ → ℕ → List ℕ → List ℕ → List ℕ
after_put n type l at row output = pick (type_phased type) (phases_put n l at row output) (replicate n 0 ++ drop n output)

-- a reply, with what the row and the output then hold
pub data PhasedLeft : Type 0 where
  phased_left : Result ⊤ Refusal → List ℕ → List ℕ → PhasedLeft

abbrev pub named_phased : FileVariant → PhasedLeft → PhasedLeft
named_phased v (phased_left reply row output) = phased_left (named_reply v reply) row output

-- 02, Ask 1: "A new reading fills N bytes": an accepted record's phases stand in the output's first n bytes; after a refusal it is as it was
abbrev pub phased_replied : ℕ → List ℕ → List ℕ → Out Body → PhasedLeft
phased_replied n row output (ok body left) =
    phased_left (Ok tt) (body_categories n (take n row) body ++ drop n row) (body_phases n (take n row) body ++ drop n output)
phased_replied n row output (refused why) = phased_left (Err why) (emptied n row) output

unfoldable pub phased_recorded : ℕ → ℕ → List ℕ → ℕ → List ℕ → List ℕ → PhasedLeft
phased_recorded n type l start row output = phased_replied n row output (read_body (length l) n (take n row) type (drop start l))
