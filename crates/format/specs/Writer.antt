-- The writer: the track that a kind and a pair code give for a row of categories.
-- Assumes nothing.
use Rattle.std.specs.Prelude.{ℕ, suc, Bool, true, false, List, [], ◌∷◌, map, length, replicate, eqb, ltb, leb}
use Rattle.format.specs.Base.{pick, Out, ok, refuse, bind, need}
use Rattle.format.specs.Limits.{most_samples}
use Rattle.format.specs.Category.{exchange_all}
use Rattle.format.specs.Difflist.{Entry}
use Rattle.format.specs.PairCode.{PairCode, pair, category_of, Coded, coded, not_coded, code_numbered}
use Rattle.format.specs.declared.Kind.{Kind}
use Rattle.format.specs.declared.Kind.TheVariants.{Array, Paired, AgainstAnchor, AgainstCategory, NoKind}
use Rattle.format.specs.Track.{kind, leans, Track, plain, one_bit, leaning, sparse}
use Rattle.format.specs.Track.{track_bytes, put}
use Rattle.format.specs.Phase.{heterozygous, PhaseTrack, some_unphased, first_of, rest_of, gathered, phased}
use Rattle.format.specs.Body.{Body, body_bytes}
use Rattle.format.specs.Layout.{from_1_to}

-- the samples, from sample i on, whose category is not the base's
abbrev pub unless : Bool → Entry → List Entry → List Entry
unless true e es = es
unless false e es = e ∷ es

unfoldable pub differences : ℕ → List ℕ → List ℕ → List Entry
differences i [] row = []
differences i (b ∷ base) [] = []
differences i (b ∷ base) (category ∷ row) = unless (eqb category b) (record { sample = i; value = category }) (differences (suc i) base row)

-- 01, Categories and kinds: "a list of pairs for samples in the other two categories ... A listed sample's bit may be either; the writer clears it."
abbrev pub bits_for : PairCode → List ℕ → List Bool
bits_for c categories = map (λ (category : ℕ). eqb category (pair c).higher) categories

abbrev pub pair_track : List ℕ → Coded → Out Track
pair_track categories (coded c) =
    ok (one_bit c (bits_for c categories) (differences 0 (map (category_of c) (bits_for c categories)) categories)) []
pair_track categories not_coded = refuse 19 0

-- 01, Replies: 19, "kind or pair code not allowed"; The writer: "a pair code (0 unless kind 1)". Kind 3 lists the categories before inversion.
unfoldable pub kind_track : Kind → ℕ → List ℕ → List ℕ → Out Track
kind_track Array code anchor categories = need (eqb code 0) 19 0 (ok (plain categories) [])
kind_track Paired code anchor categories = pair_track categories (code_numbered code)
kind_track (AgainstAnchor inverted) code anchor categories =
    need (eqb code 0) 19 0 (ok (leaning inverted (differences 0 anchor (exchange_all inverted categories))) [])
kind_track (AgainstCategory base) code anchor categories =
    need (eqb code 0) 19 0 (ok (sparse base (differences 0 (replicate (length categories) base) categories)) [])
kind_track NoKind code anchor categories = refuse 19 0

abbrev pub track_for : ℕ → ℕ → List ℕ → List ℕ → Out Track
track_for number code anchor categories = kind_track (kind number) code anchor categories

-- 01: "20 (categories, then anchor; the index counts within its own buffer)"
unfoldable pub need_categories : {A : Type 0} → ℕ → List ℕ → Out A → Out A
need_categories i [] next = next
need_categories i (category ∷ categories) next = need (ltb category 4) 20 i (need_categories (suc i) categories next)

-- 01: "Order: 4 with place 0 (category count outside 1 to 65,536), 19, 10 (anchor not as long as the categories in kinds 2 and 3, or not empty in
-- another)"
abbrev pub with_track : {A : Type 0} → List ℕ → ℕ → ℕ → List ℕ → (Track → Out A) → Out A
with_track categories number code anchor next =
    need (from_1_to most_samples (length categories)) 4 0
    (bind (track_for number code anchor categories) (λ track left.
    need (eqb (length anchor) (pick (leans number) (length categories) 0)) 10 0 (next track)))

-- 01: "10 (output shorter than the record)." room: the output's length
abbrev pub within : ℕ → List ℕ → Out (List ℕ)
within room bs = need (leb (length bs) room) 10 0 (ok bs [])

unfoldable pub write_record : List ℕ → ℕ → ℕ → List ℕ → ℕ → Out (List ℕ)
write_record categories number code anchor room =
    with_track categories number code anchor (λ (track : Track).
    need_categories 0 categories
    (need_categories 0 anchor
    (within room (track_bytes (length categories) track))))

-- ---- the writer of a phased record

-- 02, Ask 1: "22, after 20, a phase above 2 or a nonzero one outside category 1, at its index"
abbrev pub phase_allowed : ℕ → ℕ → Bool
phase_allowed category phase = pick (heterozygous category) (ltb phase 3) (eqb phase 0)

unfoldable pub need_phases : {A : Type 0} → ℕ → List ℕ → List ℕ → Out A → Out A
need_phases i [] phases next = next
need_phases i (category ∷ categories) phases next =
    need (phase_allowed category (first_of phases)) 22 i (need_phases (suc i) categories (rest_of phases) next)

-- 02, Ask 1: "a writer, which stores presence bits only if a call is unphased"
abbrev pub phases_for : List ℕ → List ℕ → PhaseTrack
phases_for categories phases = record { presence_stored = some_unphased (gathered categories phases); phases = gathered categories phases }

abbrev pub phased_body : List ℕ → List ℕ → Track → Body
phased_body categories phases track = record { main = track; phases = phased (phases_for categories phases) }

-- 02, Ask 1: "in the writer 10 is also phases not N long, after the anchor, and 22, after 20"
unfoldable pub write_phased : List ℕ → List ℕ → ℕ → ℕ → List ℕ → ℕ → Out (List ℕ)
write_phased categories phases number code anchor room =
    with_track categories number code anchor (λ (track : Track).
    need (eqb (length phases) (length categories)) 10 0
    (need_categories 0 categories
    (need_categories 0 anchor
    (need_phases 0 categories phases
    (within room (body_bytes (length categories) (phased_body categories phases track)))))))

-- ---- a record read and written again

-- Demand 2: an accepted record, read and written again in its own kind and pair code, gives the same bytes, except the bits that kind 1 holds for
-- samples it also lists.
abbrev pub track_code : Track → ℕ
track_code (plain categories) = 0
track_code (one_bit c bits es) = (pair c).code
track_code (leaning inverted es) = 0
track_code (sparse category es) = 0

abbrev pub cleared : Track → Track
cleared (plain categories) = plain categories
cleared (one_bit c bits es) = one_bit c (put (λ (e : Entry). false) es bits) es
cleared (leaning inverted es) = leaning inverted es
cleared (sparse category es) = sparse category es
