-- The writer of phased records: accepted exactly when what it is lent is in order and the output has room for the record of these categories and phases;
-- and what it then gives.
-- Assumes nothing.
use mathlib.Core.Path.{◌≡◌, refl, sym, ap, ◌∙◌, subst}
use Prim.Native.Nat.{ℕ, zero, suc, ◌+◌, ◌≤◌, ◌<◌}
use mathlib.Core.Bool.{Bool, true, false}
use mathlib.Core.Logic.{◌↔◌}
use mathlib.Core.List.{List, [], ◌∷◌, ◌++◌}
use lib.ListN.{length, take, drop, get_or}
use lib.Seq.{take-append_seam}
use lib.Dec.{eqb, leb}
use native.Mathlib.Omega.{arith}
use borrow.Author.Tests.{ltb-true, leb-true, eqb-true, eqb-false, lt-ltb, le-leb, eq-eqb}
use Rattle.format.specs.Base.{pick, Below, Out, ok, map_out}
use Rattle.format.specs.Limits.{most_samples}
use Rattle.format.specs.Classes.{phased_writer_numbers}
use Rattle.format.specs.Track.{leans, Track}
use Rattle.format.specs.Phase.{heterozygous, heterozygous_count, PhaseTrack, PhasesFit, first_of, rest_of, spread, phased}
use Rattle.format.specs.Body.{Body, body_bytes, read_body, body_reading}
use Rattle.format.specs.Writer.{phase_allowed, need_phases, phases_for, write_phased}
use Rattle.format.specs.Reply.{refusal_of, given, write_phased_call}
use Rattle.format.proofs.Rules.{Holds}
use Rattle.format.proofs.PhaseLaws.{spread_length}
use Rattle.format.proofs.PhaseWriterLaws.{AllAllowed, phases_fit, spread_gathered, phases_for_spread, spread_allowed}
use Rattle.format.proofs.WritePhasedLaws.{StoredAsWritten, PhasedReadsBack, write_phased_read}
use Rattle.format.proofs.CallRefusals.{write_phased_refusals}
use Rattle.promises.proofs.CallLaws.{accepted, passed}
use Rattle.promises.proofs.WriteExactly.{RecordFor, categories_exactly, Reaches, track_passes, track_reached}

-- ---- what the writer is asked for

-- The phase track that reads as the phases over the categories. 02, Ask 1: "stores presence bits only if a call is unphased"
pub record PhasesFor (categories phases : List ℕ) (t : PhaseTrack) : Type 0 where
  pub fits : PhasesFit (heterozygous_count categories) t
  pub stands_for : spread categories t.phases ≡ phases
  pub stored : StoredAsWritten t

-- the record: its main track, then its phase track
abbrev pub phased_record : Track → PhaseTrack → Body
phased_record track t = record { main = track; phases = phased t }

-- As `MayWrite`, and 02, Ask 1: "phases not N long" (10), "a phase above 2 or a nonzero one outside category 1" (22): there is no such phase track
pub record MayWritePhased (categories phases : List ℕ) (number code : ℕ) (anchor output : List ℕ) (track : Track) (t : PhaseTrack) : Type 0 where
  pub some : 1 ≤ length categories
  pub few : length categories ≤ most_samples
  pub is_record : RecordFor categories number code anchor track
  pub anchor_count : length anchor ≡ pick (leans number) (length categories) 0
  pub are_phases : PhasesFor categories phases t
  pub categories_small : Below 4 categories
  pub anchor_small : Below 4 anchor
  pub room : length (body_bytes (length categories) (phased_record track t)) ≤ length output

-- 02, Ask 1: not "a phase above 2 or a nonzero one outside category 1"
abbrev pub PhasesAllowed : List ℕ → List ℕ → Type 0
PhasesAllowed categories phases =
    (sample : ℕ) → sample < length categories
    → (get_or phases sample 0 ≤ 2) × ((get_or categories sample 0 ≡ 1 → ⊥) → get_or phases sample 0 ≡ 0)

-- ---- refusal 22: passed exactly when each phase is allowed

phases_exactly : {A : Type 0} (i : ℕ) (categories phases : List ℕ) (next : Out A) (a : A) (left : List ℕ)
    → (need_phases i categories phases next ≡ ok a left) ↔ (AllAllowed categories phases × (next ≡ ok a left))
unfolding need_phases
phases_exactly i [] phases next a left = (λ e. (tt, e), λ h. h.1)
phases_exactly i (c ∷ categories) phases next a left = (
  λ e.
      let t = passed (phase_allowed c (first_of phases)) 22 i (need_phases (suc i) categories (rest_of phases) next) a left e in
      let r = (phases_exactly (suc i) categories (rest_of phases) next a left).0 t.1 in
      ((t.0, r.0), r.1),
  λ h. simp h.0.0 ((phases_exactly (suc i) categories (rest_of phases) next a left).1 (h.0.1, h.1)),
)

-- of one sample
allowed_exactly : (category phase : ℕ) → (phase_allowed category phase ≡ true) ↔ ((phase ≤ 2) × ((category ≡ 1 → ⊥) → phase ≡ 0))
allowed_exactly category phase = go (heterozygous category) refl
  where
    go : (t : Bool) → heterozygous category ≡ t → (phase_allowed category phase ≡ true) ↔ ((phase ≤ 2) × ((category ≡ 1 → ⊥) → phase ≡ 0))
    go true q = (
      λ e. (omega (arith, ltb-true phase 3 (simp q at e)), λ other. absurd (other (eqb-true category 1 q))),
      λ h. simp q (lt-ltb phase 3 (omega (arith, h.0))),
    )
    go false q = (
      λ e. let z : phase ≡ 0 = eqb-true phase 0 (simp q at e) in (omega arith, λ other. z),
      λ h. simp q (eq-eqb phase 0 (h.1 (eqb-false category 1 q))),
    )

-- of all
pub first_at : (phases : List ℕ) → first_of phases ≡ get_or phases 0 0
first_at [] = refl
first_at (phase ∷ phases) = refl

pub rest_at : (phases : List ℕ) (i : ℕ) → get_or (rest_of phases) i 0 ≡ get_or phases (suc i) 0
rest_at [] i = refl
rest_at (phase ∷ phases) i = refl

allowed_there : (categories phases : List ℕ) → AllAllowed categories phases → PhasesAllowed categories phases
allowed_there [] phases h sample l = absurd (omega arith)
allowed_there (c ∷ categories) phases h zero l = rw first_at at ((allowed_exactly c (first_of phases)).0 h.0)
allowed_there (c ∷ categories) phases h (suc i) l = rw rest_at at (allowed_there categories (rest_of phases) h.1 i (omega arith))

allowed_back : (categories phases : List ℕ) → PhasesAllowed categories phases → AllAllowed categories phases
allowed_back [] phases h = tt
allowed_back (c ∷ categories) phases h = (
  (allowed_exactly c (first_of phases)).1 (rw first_at (h 0 (omega arith))),
  allowed_back categories (rest_of phases) (λ i l. rw rest_at (h (suc i) (omega arith))),
)

-- ---- the phase track

-- phases of its own length that are allowed have such a track
made_for : (categories phases : List ℕ) → length phases ≡ length categories → AllAllowed categories phases
    → PhasesFor categories phases (phases_for categories phases)
made_for categories phases e a = record { fits = phases_fit categories phases a; stands_for = spread_gathered categories phases a e; stored = refl }

-- it is the only one
only_track : (categories phases : List ℕ) (t : PhaseTrack) → PhasesFor categories phases t → phases_for categories phases ≡ t
only_track categories phases t h = sym (ap (phases_for categories) h.stands_for) ∙ phases_for_spread categories t h.fits h.stored

-- and what has one is as long and allowed
as_long : (categories phases : List ℕ) (t : PhaseTrack) → PhasesFor categories phases t → length phases ≡ length categories
as_long categories phases t h = sym (ap length h.stands_for) ∙ spread_length categories t.phases

all_allowed : (categories phases : List ℕ) (t : PhaseTrack) → PhasesFor categories phases t → AllAllowed categories phases
all_allowed categories phases t h = subst (AllAllowed categories) h.stands_for (spread_allowed categories t.phases h.fits.small)

-- there is such a track exactly when 02, Ask 1 allows the phases
pub phases_for_exactly : (categories phases : List ℕ)
    → ((t : PhaseTrack) × PhasesFor categories phases t) ↔ ((length phases ≡ length categories) × PhasesAllowed categories phases)
phases_for_exactly categories phases = (
  λ h. (as_long categories phases h.0 h.1, allowed_there categories phases (all_allowed categories phases h.0 h.1)),
  λ h. (phases_for categories phases, made_for categories phases h.0 (allowed_back categories phases h.1)),
)

-- ---- the call

module _ (categories phases : List ℕ) (number code : ℕ) (anchor output : List ℕ) where
  abbrev n : ℕ
  n = length categories

  abbrev bytes : Track → PhaseTrack → List ℕ
  bytes track t = body_bytes n (phased_record track t)

  write_phased_passes : (track : Track) (t : PhaseTrack) → MayWritePhased categories phases number code anchor output track t
      → write_phased categories phases number code anchor (length output) ≡ ok (bytes track t) []
  unfolding write_phased
  write_phased_passes track t m =
      let same : phases_for categories phases ≡ t = only_track categories phases t m.are_phases in
      let long : eqb (length phases) n ≡ true = eq-eqb (length phases) n (as_long categories phases t m.are_phases) in
      track_passes categories number code anchor track _ m.some m.few m.anchor_count m.is_record
      ∙ rw (long, same) (
      (categories_exactly 0 categories _ (bytes track t) []).1 (
        m.categories_small,
        (categories_exactly 0 anchor _ (bytes track t) []).1 (
          m.anchor_small,
          (phases_exactly 0 categories phases _ (bytes track t) []).1 (
            all_allowed categories phases t m.are_phases,
            simp (le-leb (length (bytes track t)) (length output) m.room),
          ),
        ),
      ))

  may_write_phased : (bs left : List ℕ) → write_phased categories phases number code anchor (length output) ≡ ok bs left
      → (track : Track) × (t : PhaseTrack) × MayWritePhased categories phases number code anchor output track t
  unfolding write_phased
  may_write_phased bs left e =
      let a = track_reached categories number code anchor _ bs left e in
      let track : Track = a.0 in
      let t : PhaseTrack = phases_for categories phases in
      let r : Reaches categories number code anchor track = a.1 in
      let b = passed (eqb (length phases) n) 10 0 _ bs left a.2 in
      let c = (categories_exactly 0 categories _ bs left).0 b.1 in
      let d = (categories_exactly 0 anchor _ bs left).0 c.1 in
      let f = (phases_exactly 0 categories phases _ bs left).0 d.1 in
      let g = passed (leb (length (bytes track t)) (length output)) 10 0 _ bs left f.1 in (
        track,
        t,
        record {
          some = r.some;
          few = r.few;
          is_record = r.is_record c.0;
          anchor_count = r.lent;
          are_phases = made_for categories phases (eqb-true (length phases) n b.0) f.0;
          categories_small = c.0;
          anchor_small = d.0;
          room = leb-true (length (bytes track t)) (length output) g.0;
        },
      )

  -- DEMAND 2 of the writer of phased records: accepted exactly when a record may be written (`write_exactly`) and there is a phase track for the phases
  pub write_phased_exactly : ((write_phased_call categories phases number code anchor output).verdict.refusal.number ≡ 0)
      ↔ ((track : Track) × (t : PhaseTrack) × MayWritePhased categories phases number code anchor output track t)
  unfolding write_phased_call
  write_phased_exactly = (
    λ e.
        let a = accepted phased_writer_numbers refl (write_phased categories phases number code anchor (length output))
        (write_phased_refusals categories phases number code anchor (length output)) e in
        may_write_phased a.0 a.1 a.2,
    λ h. ap (λ (out : Out (List ℕ)). (refusal_of out).number) (write_phased_passes h.0 h.1 h.2),
  )

  -- what it wrote is read back, wherever in a file it stands
  pub phased_written_back : (write_phased_call categories phases number code anchor output).verdict.refusal.number ≡ 0 → (end : ℕ)
      → map_out (body_reading n anchor) (read_body end n anchor (number + 16)
      (take (write_phased_call categories phases number code anchor output).count (write_phased_call categories phases number code anchor output).output))
      ≡ ok (record { categories = categories; phases = phases }) []
  unfolding write_phased_call
  phased_written_back e end =
      let out : Out (List ℕ) = write_phased categories phases number code anchor (length output) in
      let a = accepted phased_writer_numbers refl out (write_phased_refusals categories phases number code anchor (length output)) e in
      let h : PhasedReadsBack number anchor categories phases a.0 a.1
      = subst (Holds (PhasedReadsBack number anchor categories phases)) a.2 (write_phased_read categories phases number code anchor (length output)) in
      ap (λ (x : Out (List ℕ)). map_out (body_reading n anchor) (read_body end n anchor (number + 16)
      (take (given length 0 x) (given (λ (bs : List ℕ). bs ++ drop (length bs) output) output x)))) a.2
      ∙ ap (λ (x : List ℕ). map_out (body_reading n anchor) (read_body end n anchor (number + 16) x))
      (take-append_seam a.0 (drop (length a.0) output))
      ∙ h.0 end

  -- and then it gives that record, and the count of its bytes
  pub write_phased_gives : (track : Track) (t : PhaseTrack) → MayWritePhased categories phases number code anchor output track t
      → ((write_phased_call categories phases number code anchor output).count ≡ length (bytes track t))
      × ((write_phased_call categories phases number code anchor output).output ≡ bytes track t ++ drop (length (bytes track t)) output)
  unfolding write_phased_call
  write_phased_gives track t m = (
    ap (given length 0) (write_phased_passes track t m),
    ap (given (λ (bs : List ℕ). bs ++ drop (length bs) output) output) (write_phased_passes track t m),
  )
