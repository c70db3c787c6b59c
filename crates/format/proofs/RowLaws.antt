-- What a record stands for: a row of N categories. A record that does not lean has no use for an anchor.
-- Assumes nothing.
use mathlib.Core.Path.{◌≡◌, refl, ap, ◌∙◌, subst}
use Prim.Native.Nat.{ℕ, zero, suc, ◌<◌}
use mathlib.Core.Bool.{Bool, true, false}
use mathlib.Core.List.{List, [], ◌∷◌, map}
use lib.ListN.{length, set, replicate, length-map, length-set, length-replicate}
use Rattle.format.specs.Base.{Below, Out, ok, refused, bind, map_out}
use Rattle.format.specs.Packed.{one, two, read_packed}
use Rattle.format.specs.Difflist.{Entry, Rule, Rising, number_width, read_list}
use Rattle.format.specs.PairCode.{PairCode, category_of}
use Rattle.format.specs.declared.Kind.{Kind}
use Rattle.format.specs.declared.Kind.TheVariants.{Array, Paired, AgainstAnchor, AgainstCategory, NoKind}
use Rattle.format.specs.Track.{kind, leans_kind, Track, plain, one_bit, leaning, sparse}
use Rattle.format.specs.Track.{off_pair, off_category, off_anchor, rule, Fits, read_kind, apply, track_categories, track_leans}
use Rattle.format.specs.Track.{read_pair_code, read_listed}
use Rattle.format.specs.Phase.{heterozygous_count, Phases, PhasesObey, read_phases, phases_over}
use Rattle.format.specs.Body.{Body, BodyFits, ended, read_after, read_body, body_categories, body_phases, body_reading}
use Rattle.format.specs.Body.{type_leans, type_phased, kind_of, body_leans}
use Rattle.format.proofs.Rules.{Holds, never_both, by_bind, by_map}
use Rattle.format.proofs.CategoryLaws.{exchange_all_length, exchange_all_below}
use Rattle.format.proofs.TrackLaws.{category_below}
use Rattle.format.proofs.PairLaws.{category_of_below}

-- ---- rows

-- a row of N categories
abbrev pub IsRow : ℕ → List ℕ → Type 0
IsRow N row = (length row ≡ N) × Below 4 row

-- entries change no length
pub apply_length : (es : List Entry) (row : List ℕ) → length (apply es row) ≡ length row
apply_length [] row = refl
apply_length (e ∷ es) row = apply_length es (set row e.sample e.value) ∙ length-set row e.sample e.value

-- a category set in a row of categories
pub set_below : (m i value : ℕ) (row : List ℕ) → value < m → Below m row → Below m (set row i value)
set_below m i value [] l h = tt
set_below m zero value (x ∷ row) l h = (l, h.1)
set_below m (suc i) value (x ∷ row) l h = (h.0, set_below m i value row l h.1)

-- entries that obey leave categories
pub apply_below : (held : Rule) (least : ℕ) (es : List Entry) (row : List ℕ) → Rising held least es → Below 4 row → Below 4 (apply es row)
apply_below held least [] row g h = h
apply_below held least (e ∷ es) row g h =
    apply_below held (suc e.sample) es (set row e.sample e.value) g.1 (set_below 4 e.sample e.value row g.0.two_bits h)

-- both at once
pub apply_row : (held : Rule) (N : ℕ) (es : List Entry) (row : List ℕ) → Rising held 0 es → IsRow N row → IsRow N (apply es row)
apply_row held N es row g h = (apply_length es row ∙ h.0, apply_below held 0 es row g h.1)

-- a pair's categories are below 4
pair_below : (c : PairCode) (bits : List Bool) → Below 4 (map (category_of c) bits)
pair_below c [] = tt
pair_below c (b ∷ bits) = (category_of_below c b, pair_below c bits)

-- so is one category for all samples
replicate_below : (m n value : ℕ) → value < m → Below m (replicate n value)
replicate_below m zero value l = tt
replicate_below m (suc n) value l = (l, replicate_below m n value l)

-- a track that fits stands for a row, if what it leans on is one
pub track_row : (N : ℕ) (anchor : List ℕ) (t : Track) → Fits N anchor t → (track_leans t ≡ true → IsRow N anchor)
    → IsRow N (track_categories N anchor t)
track_row N anchor (plain categories) f a = f
track_row N anchor (one_bit c bits es) f a =
    apply_row (rule N (off_pair c)) N es (map (category_of c) bits) f.1 (length-map bits (category_of c) ∙ f.0, pair_below c bits)
track_row N anchor (leaning inverted es) f a =
    let r : IsRow N (apply es anchor) = apply_row (rule N (off_anchor anchor)) N es anchor f (a refl) in
    (exchange_all_length inverted (apply es anchor) ∙ r.0, exchange_all_below inverted (apply es anchor) r.1)
track_row N anchor (sparse category es) f a =
    apply_row (rule N (off_category category)) N es (replicate N category) f.1
    (length-replicate N category, replicate_below 4 N category (category_below category f.0))

-- the same of a body
pub body_row : (N : ℕ) (anchor : List ℕ) (body : Body) → BodyFits N anchor body → (body_leans body ≡ true → IsRow N anchor)
    → IsRow N (body_categories N anchor body)
body_row N anchor body f a = track_row N anchor body.main f.0 a

-- ---- a record that does not lean

-- by the kind: it is read alike over every anchor
kind_unused : (end N : ℕ) (anchor other : List ℕ) (k : Kind) (bs : List ℕ) → leans_kind k ≡ false
    → read_kind end N anchor k bs ≡ read_kind end N other k bs
unfolding read_kind
kind_unused end N anchor other Array bs h = refl
kind_unused end N anchor other Paired bs h = refl
kind_unused end N anchor other (AgainstAnchor inverted) bs h = never_both refl h
kind_unused end N anchor other (AgainstCategory category) bs h = refl
kind_unused end N anchor other NoKind bs h = refl

-- it stands for the same row
pub categories_anchor_unused : (N : ℕ) (anchor other : List ℕ) (t : Track) → track_leans t ≡ false
    → track_categories N anchor t ≡ track_categories N other t
categories_anchor_unused N anchor other (plain categories) h = refl
categories_anchor_unused N anchor other (one_bit c bits es) h = refl
categories_anchor_unused N anchor other (leaning inverted es) h = never_both refl h
categories_anchor_unused N anchor other (sparse category es) h = refl

abbrev Any : {A : Type 0} → A → List ℕ → Type 0
Any a left = Unit {0}

abbrev Stands : Track → List ℕ → Type 0
Stands t left = track_leans t ≡ false

abbrev StandsBody : Body → List ℕ → Type 0
StandsBody body left = body_leans body ≡ false

anything : {A : Type 0} (m : Out A) → Holds Any m
anything (ok a left) = tt
anything (refused why) = tt

-- what is read of a kind that does not lean is a track that does not
kind_stands : (end N : ℕ) (anchor : List ℕ) (k : Kind) (bs : List ℕ) → leans_kind k ≡ false
    → Holds (λ (t : Track) (left : List ℕ). track_leans t ≡ false) (read_kind end N anchor k bs)
unfolding read_kind read_listed
kind_stands end N anchor Array bs h = by_map Any Stands (read_packed end two N bs) plain (anything (read_packed end two N bs)) (λ vs left w. refl)
kind_stands end N anchor Paired bs h =
    by_bind Any Stands (read_pair_code end bs) _ (anything (read_pair_code end bs)) (λ c left₁ w.
    by_bind Any Stands (read_packed end one N left₁) _ (anything (read_packed end one N left₁)) (λ bits left₂ w₂.
    let list : Out (List Entry) = read_list (rule N (off_pair c)) (number_width N) end left₂ in
    by_map Any Stands list _ (anything list) (λ es left w₃. refl)))
kind_stands end N anchor (AgainstAnchor inverted) bs h = never_both refl h
kind_stands end N anchor (AgainstCategory category) bs h =
    let list : Out (List Entry) = read_list (rule N (off_category category)) (number_width N) end bs in
    by_map Any Stands list _ (anything list) (λ es left w. refl)
kind_stands end N anchor NoKind bs h = tt

-- the tracks after the main one are read alike where its categories are the same
after_unused : (end N : ℕ) (anchor other : List ℕ) (type : ℕ) (m : Out Track)
    → Holds (λ (t : Track) (left : List ℕ). track_leans t ≡ false) m
    → bind m (λ track left. read_after end N anchor type track left) ≡ bind m (λ track left. read_after end N other type track left)
after_unused end N anchor other type (ok t left) h =
    ap (λ (row : List ℕ). bind (read_phases (type_phased type) end (heterozygous_count row) left)
    (λ phases left. ended end (record { main = t; phases = phases }) left)) (categories_anchor_unused N anchor other t h)
after_unused end N anchor other type (refused why) h = refl

-- it is read alike over every anchor
pub anchor_unused : (end N : ℕ) (anchor other : List ℕ) (type : ℕ) (bs : List ℕ) → type_leans type ≡ false
    → read_body end N anchor type bs ≡ read_body end N other type bs
unfolding read_body
anchor_unused end N anchor other type bs h =
    ap (λ (m : Out Track). bind m (λ track left. read_after end N anchor type track left)) (kind_unused end N anchor other (kind (kind_of type)) bs h)
    ∙ after_unused end N anchor other type (read_kind end N other (kind (kind_of type)) bs) (kind_stands end N other (kind (kind_of type)) bs h)

-- the same of a body
pub row_anchor_unused : (N : ℕ) (anchor other : List ℕ) (body : Body) → body_leans body ≡ false
    → body_categories N anchor body ≡ body_categories N other body
row_anchor_unused N anchor other body h = categories_anchor_unused N anchor other body.main h

-- what is read of a type that does not lean is a body that does not
body_stands : (end N : ℕ) (anchor : List ℕ) (type : ℕ) (bs : List ℕ) → type_leans type ≡ false
    → Holds StandsBody (read_body end N anchor type bs)
unfolding read_body
body_stands end N anchor type bs h =
    by_bind Stands StandsBody (read_kind end N anchor (kind (kind_of type)) bs) _ (kind_stands end N anchor (kind (kind_of type)) bs h) (λ t left w.
    let phases : Out Phases = read_phases (type_phased type) end (heterozygous_count (track_categories N anchor t)) left in
    by_bind Any StandsBody phases _ (anything phases) (λ p left₁ u. whole t p left₁ w))
  where
    whole : (t : Track) (p : Phases) (left : List ℕ) → track_leans t ≡ false
        → Holds StandsBody (ended end (record { main = t; phases = p }) left)
    whole t p [] w = w
    whole t p (b ∷ left) w = tt

-- and it fits alike
pub fits_anchor_unused : (N : ℕ) (anchor other : List ℕ) (t : Track) → track_leans t ≡ false → Fits N anchor t → Fits N other t
fits_anchor_unused N anchor other (plain categories) h f = f
fits_anchor_unused N anchor other (one_bit c bits es) h f = f
fits_anchor_unused N anchor other (leaning inverted es) h f = never_both refl h
fits_anchor_unused N anchor other (sparse category es) h f = f

-- the same of a body
pub body_fits_anchor_unused : (N : ℕ) (anchor other : List ℕ) (body : Body) → body_leans body ≡ false → BodyFits N anchor body → BodyFits N other body
body_fits_anchor_unused N anchor other body h f = (
  fits_anchor_unused N anchor other body.main h f.0,
  subst (λ (row : List ℕ). PhasesObey (heterozygous_count row) body.phases) (categories_anchor_unused N anchor other body.main h) f.1,
)

-- whatever is read of it is the same over every anchor
pub phases_anchor_unused : (N : ℕ) (anchor other : List ℕ) (body : Body) → body_leans body ≡ false
    → body_phases N anchor body ≡ body_phases N other body
phases_anchor_unused N anchor other body h = ap (λ (row : List ℕ). phases_over row body.phases) (categories_anchor_unused N anchor other body.main h)

pub reading_anchor_unused : (N : ℕ) (anchor other : List ℕ) (body : Body) → body_leans body ≡ false
    → body_reading N anchor body ≡ body_reading N other body
reading_anchor_unused N anchor other body h =
    ap (λ (row : List ℕ). record { categories = row; phases = phases_over row body.phases }) (categories_anchor_unused N anchor other body.main h)

-- so what is read of a type that does not lean, where it asks for an anchor only of a body that leans
pub read_alike : {A : Type 0} (what : ℕ → List ℕ → Body → A) (N : ℕ)
    → ((anchor other : List ℕ) (body : Body) → body_leans body ≡ false → what N anchor body ≡ what N other body)
    → (end : ℕ) (anchor other : List ℕ) (type : ℕ) (bs : List ℕ) → type_leans type ≡ false
    → map_out (what N anchor) (read_body end N anchor type bs) ≡ map_out (what N other) (read_body end N other type bs)
read_alike {A} what N unused end anchor other type bs h =
    go (read_body end N anchor type bs) (body_stands end N anchor type bs h)
    ∙ ap (map_out (what N other)) (anchor_unused end N anchor other type bs h)
  where
    go : (m : Out Body) → Holds StandsBody m → map_out (what N anchor) m ≡ map_out (what N other) m
    go (ok body left) w = ap (λ (a : A). ok a left) (unused anchor other body w)
    go (refused why) w = refl
