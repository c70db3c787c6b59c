-- DEMAND 2, of phased records: categories and phases written in any kind read back as themselves; an accepted record whose presence bits are stored just
-- where a call is unphased, read and written again, gives the same bytes but for cleared bits.
-- Assumes nothing.
use mathlib.Core.Path.{◌≡◌, refl, sym, ap, ◌∙◌, subst}
use Prim.Native.Nat.{ℕ, ◌+◌, ◌≤◌}
use mathlib.Core.Bool.{true}
use mathlib.Core.List.{List, []}
use lib.ListN.{length}
use lib.Dec.{eqb}
use borrow.Author.Tests.{eq-eqb, eqb-true}
use Rattle.format.specs.Base.{Bytes, ok, map_out}
use Rattle.format.specs.Limits.{most_samples}
use Rattle.format.specs.Track.{Track}
use Rattle.format.specs.Phase.{heterozygous_count, PhaseTrack, some_unphased, PhasesFit, spread, gathered, phased}
use Rattle.format.specs.Body.{Body, body_bytes, BodyFits, read_body, body_categories, body_phases, Reading, body_reading, type_leans, kind_of}
use Rattle.format.specs.Layout.{from_1_to}
use Rattle.format.specs.Writer.{phases_for, phased_body, write_phased, track_code, cleared}
use Rattle.format.proofs.Rules.{Holds, by_need}
use Rattle.format.proofs.RowLaws.{IsRow}
use Rattle.format.proofs.BodyLaws.{body_read_back}
use Rattle.format.proofs.WriterLaws.{Writes}
use Rattle.format.proofs.WriteBackLaws.{lent_for}
use Rattle.format.proofs.PhaseLaws.{phases_over_length}
use Rattle.format.proofs.PhaseWriterLaws.{AllAllowed, by_phases, phases_pass, phases_fit, spread_gathered, phases_for_spread, spread_allowed}
use Rattle.format.proofs.WriteReadLaws.{by_track, by_categories, categories_pass, by_within, within_passes, Again, again}

-- ---- written, then read

abbrev reading : List ℕ → List ℕ → Reading
reading categories phases = record { categories = categories; phases = phases }

-- the record, of the kind with bit 4 set, is read back as the categories and the phases, wherever in a file it stands
abbrev pub PhasedReadsBack : ℕ → List ℕ → List ℕ → List ℕ → List ℕ → List ℕ → Type 0
PhasedReadsBack number lent categories phases bs left =
    ((end : ℕ) → map_out (body_reading (length categories) lent) (read_body end (length categories) lent (number + 16) bs) ≡ ok (reading categories phases) [])
    × (left ≡ [])

module _ (number : ℕ) (lent categories phases : List ℕ) (track : Track) (left : List ℕ) where
  abbrev body : Body
  body = phased_body categories phases track

  -- the body that is written fits
  phased_fits : Writes number lent categories track left → AllAllowed categories phases → BodyFits (length categories) lent body
  phased_fits w a = (
    w.fits,
    subst (λ (row : List ℕ). PhasesFit (heterozygous_count row) (phases_for categories phases)) (sym w.stands_for) (phases_fit categories phases a),
  )

  -- and reads as the categories and the phases
  phased_stands : Writes number lent categories track left → AllAllowed categories phases → length phases ≡ length categories
      → body_reading (length categories) lent body ≡ reading categories phases
  phased_stands w a e =
      ap (λ (row : List ℕ). reading row (spread row (gathered categories phases))) w.stands_for
      ∙ ap (reading categories) (spread_gathered categories phases a e)

  phased_reads : length categories ≤ most_samples → Writes number lent categories track left → AllAllowed categories phases
      → length phases ≡ length categories
      → PhasedReadsBack number lent categories phases (body_bytes (length categories) body) []
  phased_reads few w a e = (
    λ end.
        let N : ℕ = length categories in
        ap (λ (k : ℕ). map_out (body_reading N lent) (read_body end N lent (k + 16) (body_bytes N body))) (sym w.kind_is)
        ∙ ap (map_out (body_reading N lent)) (body_read_back end N lent body few (phased_fits w a))
        ∙ ap (λ (r : Reading). ok r []) (phased_stands w a e),
    refl,
  )

-- DEMAND 2: "Categories written in any of the seven main-track kinds read back as themselves", and 02, Ask 1, their phases with them
pub write_phased_read : (categories phases : List ℕ) (number code : ℕ) (lent : List ℕ) (room : ℕ)
    → Holds (PhasedReadsBack number lent categories phases) (write_phased categories phases number code lent room)
unfolding write_phased
write_phased_read categories phases number code lent room =
    let Q : List ℕ → List ℕ → Type 0 = PhasedReadsBack number lent categories phases in
    by_track Q categories number code lent _ (λ track left few writes.
    by_need Q (eqb (length phases) (length categories)) _ _ _ (λ as_long.
    by_categories Q 0 categories _ (λ below.
    by_categories Q 0 lent _ (λ below-lent.
    by_phases Q 0 categories phases _ (λ allowed.
    by_within Q room (body_bytes (length categories) (phased_body categories phases track))
    (phased_reads number lent categories phases track left few (writes below) allowed (eqb-true (length phases) (length categories) as_long)))))))

-- ---- read, then written again

-- the body with the bits of listed samples cleared
abbrev pub cleared_body : Body → Body
cleared_body body = record { main = cleared body.main; phases = body.phases }

-- 02, Ask 1: "stores presence bits only if a call is unphased; other tracks with presence bits leave the same-bytes clause"
abbrev pub StoredAsWritten : PhaseTrack → Type 0
StoredAsWritten t = t.presence_stored ≡ some_unphased t.phases

-- the writer gives the record's own bytes, the bits of listed samples cleared, into an output that has room for them
pub read_write_phased : (end N : ℕ) (anchor : List ℕ) (type : ℕ) (bs : List ℕ) (track : Track) (t : PhaseTrack) (room : ℕ)
    → (let body : Body = record { main = track; phases = phased t } in
    from_1_to most_samples N ≡ true → Bytes bs → (type_leans type ≡ true → IsRow N anchor) → read_body end N anchor type bs ≡ ok body [] → StoredAsWritten t
    → length (body_bytes N (cleared_body body)) ≤ room
    → write_phased (body_categories N anchor body) (body_phases N anchor body) (kind_of type) (track_code track) (lent_for track anchor) room
    ≡ ok (body_bytes N (cleared_body body)) [])
unfolding write_phased
read_write_phased end N anchor type bs track t room sized y row e stored fits =
    let body : Body = record { main = track; phases = phased t } in
    let a : Again N anchor type body = again end N anchor type bs body sized y row e in
    let categories : List ℕ = body_categories N anchor body in
    let phases : List ℕ = body_phases N anchor body in
    let counted : length categories ≡ N = a.is_row.0 in
    let as_long : eqb (length phases) (length categories) ≡ true
    = eq-eqb (length phases) (length categories) (phases_over_length categories (phased t)) in
    let same : phases_for categories phases ≡ t = phases_for_spread categories t a.fits.1 stored in
    a.track_again _
    ∙ rw as_long (
    categories_pass 0 categories _ a.is_row.1
    ∙ categories_pass 0 (lent_for track anchor) _ a.lent_small
    ∙ phases_pass 0 categories phases _ (spread_allowed categories t.phases a.fits.1.small)
    ∙ rw (counted, same) (within_passes room (body_bytes N (cleared_body body)) fits))
