-- A record's type, and its body: its main track, then its phase track if it has one, and nothing after it.
-- Assumes nothing.
use Rattle.std.specs.Prelude.{ℕ, suc, ◌+◌, ◌-◌, ◌*◌, ◌/◌, ◌%◌, Bool, List, [], ◌∷◌, ◌++◌, length, get_or, eqb}
use Rattle.format.specs.Base.{pick, Out, ok, refuse, bind}
use Rattle.format.specs.Category.{exchange_all, just_one}
use Rattle.format.specs.Track.{leans, Track, track_kind, track_leans, track_bytes, read_track, track_categories, flip_track, Fits}
use Rattle.format.specs.Phase.{heterozygous_count, exchange_phases, Phases, has_phases, PhasesObey, phases_bytes, read_phases, phases_over, flip_phases}

-- 01, The header: "A type's low three bits are its kind."
abbrev pub kind_of : ℕ → ℕ
kind_of type = type % 8

-- whether a record of the type leans on an anchor
abbrev pub type_leans : ℕ → Bool
type_leans type = leans (kind_of type)

-- 02, Ask 1: "record type bit 4" says that a phase track follows the main track
abbrev pub type_phased : ℕ → Bool
type_phased type = eqb (type / 16 % 2) 1

pub record Body : Type 0 where
  pub main : Track
  pub phases : Phases

-- 01, The header: "A type's low three bits are its kind"; bit 4 is its phase track, and all its other bits are 0
abbrev pub body_type : Body → ℕ
body_type body = track_kind body.main + pick (has_phases body.phases) 16 0

abbrev pub body_leans : Body → Bool
body_leans body = track_leans body.main

abbrev pub body_bytes : ℕ → Body → List ℕ
body_bytes N body = track_bytes N body.main ++ phases_bytes body.phases

abbrev pub body_categories : ℕ → List ℕ → Body → List ℕ
body_categories N anchor body = track_categories N anchor body.main

-- H, of the record's own row
abbrev pub track_heterozygous : ℕ → List ℕ → Track → ℕ
track_heterozygous N anchor track = heterozygous_count (track_categories N anchor track)

abbrev pub BodyFits : ℕ → List ℕ → Body → Type 0
BodyFits N anchor body = Fits N anchor body.main × PhasesObey (track_heterozygous N anchor body.main) body.phases

-- 01, Replies: "Lastly 13": "record has bytes left", at the "first of them"
abbrev pub ended : ℕ → Body → List ℕ → Out Body
ended end body [] = ok body []
ended end body (b ∷ left) = refuse 13 (end - suc (length left))

-- the tracks after the main one, of a record of a type
abbrev pub read_after : ℕ → ℕ → List ℕ → ℕ → Track → List ℕ → Out Body
read_after end N anchor type track bs =
    bind (read_phases (type_phased type) end (track_heterozygous N anchor track) bs) (λ phases left.
    ended end (record { main = track; phases = phases }) left)

-- the record that ends at `end` in the file, of a type, over its anchor's categories
unfoldable pub read_body : ℕ → ℕ → List ℕ → ℕ → List ℕ → Out Body
read_body end N anchor type bs = bind (read_track end N anchor (kind_of type) bs) (λ track left. read_after end N anchor type track left)

-- ---- what it is read as

abbrev pub body_phases : ℕ → List ℕ → Body → List ℕ
body_phases N anchor body = phases_over (body_categories N anchor body) body.phases

-- 02, Ask 1: "demands 2 and 3 read categories and phase together"
pub record Reading : Type 0 where
  pub categories : List ℕ
  pub phases : List ℕ

abbrev pub body_reading : ℕ → List ℕ → Body → Reading
body_reading N anchor body = record { categories = body_categories N anchor body; phases = body_phases N anchor body }

abbrev pub exchange_reading : Bool → Reading → Reading
exchange_reading member reading = record { categories = exchange_all member reading.categories; phases = exchange_phases member reading.phases }

-- ---- its flip

abbrev pub flip_body : Bool → Bool → Body → Body
flip_body lent member body = record { main = flip_track lent member body.main; phases = flip_phases member body.phases }

-- ---- what a flip does to a type's number (laws `flip_kind_is`, `flip_type_is`)

-- 01, Categories and kinds: kind 3 is kind 2 "then 0 and 2 exchanged for all samples"; "Kinds 4, 6, 7: a list of the samples outside category 0, 2, 3"
abbrev pub flip_kind : Bool → Bool → ℕ → ℕ
flip_kind lent member number =
    get_or (0 ∷ 1 ∷ pick (just_one lent member) 3 2 ∷ pick (just_one lent member) 2 3 ∷ pick member 6 4 ∷ 5 ∷ pick member 4 6 ∷ 7 ∷ []) number number

-- 01, The header: "A type's low three bits are its kind." They change as the kind does, the others stay.
abbrev pub flip_type : Bool → Bool → ℕ → ℕ
flip_type lent member type = type / 8 * 8 + flip_kind lent member (kind_of type)
