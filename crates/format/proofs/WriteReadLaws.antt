-- DEMAND 2: categories written in any kind read back as themselves; an accepted record, read and written again, gives the same bytes but for cleared bits.
-- What is said here of the writer's checks serves the writer of phased records too (WritePhasedLaws).
-- Assumes nothing.
use mathlib.Core.Path.{◌≡◌, refl, sym, ap, ◌∙◌, subst}
use Prim.Native.Nat.{ℕ, suc, ◌≤◌}
use mathlib.Core.Bool.{Bool, true, false}
use mathlib.Core.List.{List, [], ◌∷◌, append-nil}
use lib.ListN.{length}
use lib.Dec.{eqb, ltb, leb}
use borrow.Author.Tests.{ltb-true, lt-ltb, le-leb, eq-eqb, eqb-true}
use native.Mathlib.Omega.{arith}
use Rattle.format.specs.Base.{pick, Below, Bytes, Out, ok, map_out, refused}
use Rattle.format.specs.Limits.{most_samples}
use Rattle.format.specs.Track.{leans, Track, plain, one_bit, leaning, sparse, track_kind, track_bytes, track_categories}
use Rattle.format.specs.Phase.{no_phases}
use Rattle.format.specs.Body.{Body, body_type, BodyFits, read_body, body_categories, type_leans, kind_of}
use Rattle.format.specs.Layout.{from_1_to}
use Rattle.format.specs.Writer.{track_for, need_categories, with_track, within, write_record, track_code, cleared}
use Rattle.format.proofs.Rules.{Holds, by_test, by_need, by_bind}
use Rattle.format.proofs.RowLaws.{IsRow, body_row}
use Rattle.format.proofs.TrackLaws.{leans_track}
use Rattle.format.proofs.BodyLaws.{IsBody, body_read_back, body_as_written}
use Rattle.format.proofs.OffsetsLaws.{from_1_to_most}
use Rattle.format.proofs.WriterLaws.{Writes, track_for_writes}
use Rattle.format.proofs.WriteBackLaws.{lent_for, track_back}

-- ---- the writer's checks, one after another

-- what comes after 20 may take the categories as small
pub by_categories : {A : Type 0} (Q : A → List ℕ → Type 0) (i : ℕ) (categories : List ℕ) (next : Out A) → (Below 4 categories → Holds Q next)
    → Holds Q (need_categories i categories next)
unfolding need_categories
by_categories Q i [] next h = h tt
by_categories Q i (c ∷ categories) next h =
    by_need Q (ltb c 4) _ _ _ (λ t. by_categories Q (suc i) categories next (λ g. h (ltb-true c 4 t, g)))

-- small categories pass
pub categories_pass : {A : Type 0} (i : ℕ) (categories : List ℕ) (next : Out A) → Below 4 categories → need_categories i categories next ≡ next
unfolding need_categories
categories_pass i [] next h = refl
categories_pass i (c ∷ categories) next h = simp (lt-ltb c 4 h.0) (categories_pass (suc i) categories next h.1)

-- what is written is the record's bytes, and nothing is left
pub by_within : (Q : List ℕ → List ℕ → Type 0) (room : ℕ) (bs : List ℕ) → Q bs [] → Holds Q (within room bs)
by_within Q room bs h = by_need Q (leb (length bs) room) _ _ _ (λ fits. h)

pub within_passes : (room : ℕ) (bs : List ℕ) → length bs ≤ room → within room bs ≡ ok bs []
within_passes room bs l = simp (le-leb (length bs) room l)

itself : {A : Type 0} (m : Out A) → Holds (λ (a : A) (left : List ℕ). m ≡ ok a left) m
itself (ok a left) = refl
itself (refused why) = tt

-- the anchor is as long as the categories where the kind leans
lent_length : (number n m : ℕ) → eqb n (pick (leans number) m 0) ≡ true → leans number ≡ true → n ≡ m
lent_length number n m e t = eqb-true n (pick (leans number) m 0) e ∙ simp t

-- what comes after 4, 19 and the anchor's 10 has a track; it stands for the categories, once these are known to be small
pub by_track : {A : Type 0} (Q : A → List ℕ → Type 0) (categories : List ℕ) (number code : ℕ) (lent : List ℕ) (next : Track → Out A)
    → ((track : Track) (left : List ℕ) → length categories ≤ most_samples → (Below 4 categories → Writes number lent categories track left)
    → Holds Q (next track))
    → Holds Q (with_track categories number code lent next)
by_track Q categories number code lent next h =
    let N : ℕ = length categories in
    by_need Q (from_1_to most_samples N) _ _ _ (λ sized.
    by_bind (λ (track : Track) (left : List ℕ). track_for number code lent categories ≡ ok track left) Q (track_for number code lent categories) _
    (itself (track_for number code lent categories)) (λ track left is.
    by_need Q (eqb (length lent) (pick (leans number) N 0)) _ _ _ (λ fit.
    h track left (from_1_to_most most_samples N sized) (λ below.
    subst (Holds (Writes number lent categories)) is (track_for_writes number code lent categories below (lent_length number (length lent) N fit))))))

-- ---- written, then read

-- the record is read back as the categories, wherever in a file it stands
abbrev pub ReadsBack : ℕ → List ℕ → List ℕ → List ℕ → List ℕ → Type 0
ReadsBack number lent categories bs left =
    ((end : ℕ) → map_out (body_categories (length categories) lent) (read_body end (length categories) lent number bs) ≡ ok categories []) × (left ≡ [])

abbrev unphased_body : Track → Body
unphased_body track = record { main = track; phases = no_phases }

-- a track alone is a body with no phases
unphased_back : (end N : ℕ) (lent : List ℕ) (track : Track) (number : ℕ) → N ≤ most_samples → BodyFits N lent (unphased_body track)
    → track_kind track ≡ number
    → read_body end N lent number (track_bytes N track) ≡ ok (unphased_body track) []
unphased_back end N lent track number l f k =
    let same : number ≡ body_type (unphased_body track) = omega (arith, k) in
    rw same (rw append-nil at (body_read_back end N lent (unphased_body track) l f))

writes_reads : (number : ℕ) (lent categories : List ℕ) (track : Track) (left : List ℕ) → length categories ≤ most_samples
    → Writes number lent categories track left
    → ReadsBack number lent categories (track_bytes (length categories) track) []
writes_reads number lent categories track left l w = (
  λ end.
      ap (map_out (body_categories (length categories) lent)) (unphased_back end (length categories) lent track number l (w.fits, tt) w.kind_is)
      ∙ ap (λ (row : List ℕ). ok row []) w.stands_for,
  refl,
)

-- DEMAND 2: "Categories written in any of the seven main-track kinds read back as themselves."
pub write_read : (categories : List ℕ) (number code : ℕ) (lent : List ℕ) (room : ℕ)
    → Holds (ReadsBack number lent categories) (write_record categories number code lent room)
unfolding write_record
write_read categories number code lent room =
    let Q : List ℕ → List ℕ → Type 0 = ReadsBack number lent categories in
    by_track Q categories number code lent _ (λ track left few writes.
    by_categories Q 0 categories _ (λ below.
    by_categories Q 0 lent _ (λ below-lent.
    by_within Q room (track_bytes (length categories) track) (writes_reads number lent categories track left few (writes below)))))

-- ---- read, then written again

lent_below : (t : Track) (anchor : List ℕ) → (leans (track_kind t) ≡ true → Below 4 anchor) → Below 4 (lent_for t anchor)
lent_below t anchor h = by_test (Below 4) (leans (track_kind t)) h (λ t. tt)

lent_fits : (t : Track) (anchor : List ℕ) (N : ℕ) → (leans (track_kind t) ≡ true → length anchor ≡ N)
    → eqb (length (lent_for t anchor)) (pick (leans (track_kind t)) N 0) ≡ true
lent_fits t anchor N h = go (leans (track_kind t)) h
  where
    go : (b : Bool) → (b ≡ true → length anchor ≡ N) → eqb (length (pick b anchor [])) (pick b N 0) ≡ true
    go true h = eq-eqb (length anchor) N (h refl)
    go false h = refl

-- what is known of an accepted record that is written again in its own kind and pair code
pub record Again (N : ℕ) (anchor : List ℕ) (type : ℕ) (body : Body) : Type 0 where
  pub fits : BodyFits N anchor body
  pub is_row : IsRow N (body_categories N anchor body)
  pub lent_small : Below 4 (lent_for body.main anchor)
  pub track_again : (next : Track → Out (List ℕ))
      → with_track (body_categories N anchor body) (kind_of type) (track_code body.main) (lent_for body.main anchor) next
      ≡ next (cleared body.main)

pub again : (end N : ℕ) (anchor : List ℕ) (type : ℕ) (bs : List ℕ) (body : Body) → from_1_to most_samples N ≡ true → Bytes bs
    → (type_leans type ≡ true → IsRow N anchor) → read_body end N anchor type bs ≡ ok body []
    → Again N anchor type body
again end N anchor type bs body sized y row e =
    let t : Track = body.main in
    let h : IsBody N anchor type bs body [] = subst (Holds (IsBody N anchor type bs)) e (body_as_written end N anchor type bs y) in
    let leaning_row : leans (track_kind t) ≡ true → IsRow N anchor = λ q. row (ap leans (sym h.kind) ∙ q) in
    let is_row : IsRow N (track_categories N anchor t) = body_row N anchor body h.fits (λ q. leaning_row (leans_track t ∙ q)) in
    let back : track_for (track_kind t) (track_code t) (lent_for t anchor) (track_categories N anchor t) ≡ ok (cleared t) []
    = track_back N anchor t h.fits.0 (λ q. (leaning_row q).0) is_row.0 in
    let lent_there : eqb (length (lent_for t anchor)) (pick (leans (track_kind t)) N 0) ≡ true = lent_fits t anchor N (λ q. (leaning_row q).0) in
    record {
      fits = h.fits;
      is_row = is_row;
      lent_small = lent_below t anchor (λ q. (leaning_row q).1);
      track_again = λ next. rw (← h.kind, is_row.0) (simp (sized, back, lent_there));
    }

-- the writer gives the record's own bytes, the bits of listed samples cleared, into an output that has room for them
pub read_write : (end N : ℕ) (anchor : List ℕ) (type : ℕ) (bs : List ℕ) (body : Body) (room : ℕ) → from_1_to most_samples N ≡ true → Bytes bs
    → (type_leans type ≡ true → IsRow N anchor) → read_body end N anchor type bs ≡ ok body [] → length (track_bytes N (cleared body.main)) ≤ room
    → write_record (body_categories N anchor body) (kind_of type) (track_code body.main) (lent_for body.main anchor) room
    ≡ ok (track_bytes N (cleared body.main)) []
unfolding write_record
read_write end N anchor type bs body room sized y row e fits =
    let a : Again N anchor type body = again end N anchor type bs body sized y row e in
    let counted : length (body_categories N anchor body) ≡ N = a.is_row.0 in
    a.track_again _
    ∙ categories_pass 0 (body_categories N anchor body) _ a.is_row.1
    ∙ categories_pass 0 (lent_for body.main anchor) _ a.lent_small
    ∙ rw counted (within_passes room (track_bytes N (cleared body.main)) fits)

-- only kind 1 has such bits
pub cleared_same : (t : Track) → (track_kind t ≡ 1 → ⊥) → cleared t ≡ t
cleared_same (plain categories) h = refl
cleared_same (one_bit c bits es) h = absurd (h refl)
cleared_same (leaning inverted es) h = refl
cleared_same (sparse category es) h = refl
