-- The ways out of the steps whose phases are read too: the row is left as a step of the categories leaves it, and the phases are those of the body.
-- Assumes nothing.
use Rattle.std.specs.Prelude.{Result, Ok, Err, is_ok, ⊤}
use mathlib.Core.Path.{◌≡◌, refl, sym, ap, ap₂, ◌∙◌, subst}
use Prim.Native.Nat.{ℕ, min, ◌≤◌}
use mathlib.Core.Bool.{Bool, true, false}
use mathlib.Core.List.{List, [], ◌++◌}
use lib.ListN.{length, take, drop}
use Rattle.format.proofs.Rules.{never_both}
use native.Mathlib.Omega.{arith}
use Rattle.format.specs.declared.Refusal.{Refusal}
use Rattle.format.specs.Base.{pick, Out, ok, refused, naming, map_out}
use Rattle.format.specs.Body.{type_leans, Body, read_body, body_categories, Reading, body_reading}
use Rattle.format.specs.Reply.{named_reply}
use Rattle.format.proofs.Rules.{Holds}
use Rattle.format.proofs.RowLaws.{reading_anchor_unused, read_alike}
use Rattle.head_blocks.proofs.Answers.{holds, fails}
use Rattle.head_places.specs.declared.Place.{Place}
use Rattle.read_record.specs.Recorded.{record_left, record_replied, recorded, phased_left, phased_replied, phased_recorded}
use Rattle.read_check.specs.Straight.{own_as, straight_replied, straight, straight_phased_replied, straight_phased}
use Rattle.call_rows.specs.declared.Rows.{Rows}
use Rattle.call_rows.specs.declared.RowStep.{RowStep}
use Rattle.call_rows.specs.Calls.{next_record, found, past, answered, kept, row_kept, anchor_reply, leaning_checked, RowReady}
use Rattle.call_rows.specs.Phased.{with_phases, phased_row_left, phases_filled, body_at, phases_at, phased_over_nothing, phased_over_anchor}
use Rattle.call_rows.specs.Phased.{phased_stepped, next_phased_row_in, next_phased_row_call}
use Rattle.call_rows.proofs.StepLaws.{alone_left, same_row, checked_as, checked, leaning_refused, leaning_accepted}
use Rattle.call_rows.proofs.StepLaws.{cut_end, cut_holds, buffer_room}
use Rattle.call_rows.proofs.RecordLaws.{all_known}

-- ---- a record whose phases were read too

module _ (n type : ℕ) (l : List ℕ) (start : ℕ) (row phases : List ℕ) (got : Result ⊤ Refusal) (row₁ phases₁ : List ℕ)
    (told : phased_left got row₁ phases₁ ≡ phased_recorded n type l start row phases) where
  abbrev body_read : List ℕ → Out Body
  body_read anchor = read_body (length l) n anchor type (drop start l)

  -- its categories are read as without them
  as_recorded : record_left got row₁ ≡ recorded n type l start row
  unfolding phased_recorded recorded
  as_recorded = go (body_read (take n row)) told
    where
      go : (m : Out Body) → phased_left got row₁ phases₁ ≡ phased_replied n row phases m → record_left got row₁ ≡ record_replied n row m
      go (ok body left) e = cc
      go (refused why) e = cc

  as_filled : phases₁ ≡ phases_filled n (take n row) phases (body_read (take n row))
  unfolding phased_recorded
  as_filled = go (body_read (take n row)) told
    where
      go : (m : Out Body) → phased_left got row₁ phases₁ ≡ phased_replied n row phases m → phases₁ ≡ phases_filled n (take n row) phases m
      go (ok body left) e = cc
      go (refused why) e = cc

-- ---- one that leans on none, read straight

module _ (rows : Rows) (held : List ℕ) (p : Place) (output phases work : List ℕ) (stands : type_leans p.record_type ≡ false)
    (room : rows.fields.samples ≤ length output) (read got : Result ⊤ Refusal) (output₁ phases₁ : List ℕ) (same : length output₁ ≡ length output)
    (told : phased_left read output₁ phases₁ ≡ straight_phased rows.fields.samples p.record_type (take p.end held) p.start output phases)
    (v : got ≡ named_reply rows.variant read) (step : RowStep) (work₁ : List ℕ) (k : kept step work₁ ≡ row_kept rows p.end got output₁ work) where
  abbrev N : ℕ
  N = rows.fields.samples

  abbrev cut : List ℕ
  cut = take p.end held

  abbrev own : Out Reading
  own = own_as body_reading N p.record_type cut p.start

  was_told : phased_left read output₁ phases₁ ≡ straight_phased_replied N output phases own
  unfolding straight_phased
  was_told = told

  -- its categories are read as without them
  row_told : record_left read output₁ ≡ straight N p.record_type cut p.start output
  unfolding straight
  row_told = go (read_body (length cut) N [] p.record_type (drop p.start cut)) was_told
    where
      go : (m : Out Body) → phased_left read output₁ phases₁ ≡ straight_phased_replied N output phases (map_out (body_reading N []) m)
          → record_left read output₁ ≡ straight_replied N output (map_out (body_categories N []) m)
      go (ok body left) e = cc
      go (refused why) e = cc

  abbrev filled : Out Reading → List ℕ
  filled (ok reading left) = reading.phases ++ drop N phases
  filled (refused why) = phases

  phases_told : phases₁ ≡ phases_at rows held p phases work
  phases_told =
      go own was_told
      ∙ sym (as_filled_by (body_at rows held p work)
      ∙ ap filled (read_alike body_reading N (reading_anchor_unused N) (length cut) (take N work) [] p.record_type (drop p.start cut) stands))
    where
      as_filled_by : (m : Out Body) → phases_filled N (take N work) phases m ≡ filled (map_out (body_reading N (take N work)) m)
      as_filled_by (ok body left) = refl
      as_filled_by (refused why) = refl

      go : (m : Out Reading) → phased_left read output₁ phases₁ ≡ straight_phased_replied N output phases m → phases₁ ≡ filled m
      go (ok reading left) e = cc
      go (refused why) e = cc

  pub phased_alone_left : phased_row_left step output₁ phases₁ work₁ ≡ phased_over_nothing rows held p output phases work
  phased_alone_left = ap₂ with_phases (alone_left rows held p output work stands room read got output₁ same row_told v step work₁ k) phases_told

-- ---- one that leans

module _ (rows : Rows) (held : List ℕ) (p : Place) (output phases work : List ℕ) (ready : RowReady rows held p work) (next : Rows)
    (n : next ≡ past rows p.end rows.anchor) (got : Result ⊤ Refusal) (told : got ≡ leaning_checked rows held p work) where
  abbrev samples : ℕ
  samples = rows.fields.samples

  abbrev accepted_anchor : Bool
  accepted_anchor = is_ok (anchor_reply rows.anchor)

  abbrev body : Out Body
  body = body_at rows held p work

  was_checked : got ≡ checked_as rows held p output work ready accepted_anchor (naming rows.variant body)
  was_checked = checked rows held p output work ready next n got told

  pub phased_leaning_refused : (why : Refusal) → got ≡ Err why
      → phased_row_left (answered next (Err why)) output phases work ≡ phased_over_anchor rows held p output phases work
  phased_leaning_refused why q =
      ap₂ with_phases (leaning_refused rows held p output work ready next n got told why q) (go accepted_anchor body was_checked)
    where
      go : (b : Bool) (m : Out Body) → got ≡ checked_as rows held p output work ready b (naming rows.variant m)
          → phases ≡ pick b (phases_filled samples (take samples work) phases m) phases
      go true (ok read left) e = absurd (let y : ◌≡◌ {A = ℕ} 0 1 = cc in omega arith)
      go true (refused other) e = refl
      go false m e = refl

  pub phased_leaning_accepted : (output₁ output₂ phases₁ : List ℕ) (got₂ : Result ⊤ Refusal) → got ≡ Ok tt
      → output₁ ≡ take rows.fields.samples work ++ drop rows.fields.samples output
      → phased_left got₂ output₂ phases₁ ≡ phased_recorded rows.fields.samples p.record_type (take p.end held) p.start output₁ phases
      → phased_row_left (answered next got₂) output₂ phases₁ work ≡ phased_over_anchor rows held p output phases work
  phased_leaning_accepted output₁ output₂ phases₁ got₂ q f d =
      ap₂ with_phases
      (leaning_accepted rows held p output work ready next n got told output₁ output₂ got₂ q f
      (as_recorded samples p.record_type (take p.end held) p.start output₁ phases got₂ output₂ phases₁ d))
      (go accepted_anchor refl body was_checked over_anchors)
    where
      over_anchors : phases₁ ≡ phases_at rows held p phases work
      over_anchors =
          as_filled samples p.record_type (take p.end held) p.start output₁ phases got₂ output₂ phases₁ d
          ∙ ap (λ (row : List ℕ). phases_filled samples row phases
          (read_body (length (take p.end held)) samples row p.record_type (drop p.start (take p.end held))))
          (ap (take samples) f ∙ same_row rows held p output work ready)

      go : (b : Bool) → accepted_anchor ≡ b → (m : Out Body) → got ≡ checked_as rows held p output work ready b (naming rows.variant m)
          → phases₁ ≡ phases_filled samples (take samples work) phases m
          → phases₁ ≡ pick b (phases_filled samples (take samples work) phases m) phases
      go true t m e g = g
      go false t m e g = never_both (ap is_ok (sym e ∙ q)) t

pub ruleset phased_alone_laws = (phased_alone_left, cut_end, cut_holds, buffer_room)

pub ruleset phased_step_laws = (
  phased_leaning_refused,
  phased_leaning_accepted,
  cut_end,
  cut_holds,
  buffer_room,
)

-- ---- where the record is found

module _ (rows : Rows) (index held output phases work : List ℕ) (lent : ℕ) (l : lent ≡ min (length output) (length phases))
    (r : Result Place Refusal) (told : found r ≡ next_record rows index held lent (length work)) where
  sought : found r ≡ next_record rows index held (min (length output) (length phases)) (length work)
  sought = rw l at told

  pub phased_refused_there : (why : Refusal) → r ≡ Err why
      → phased_row_left (answered rows (Err why)) output phases work ≡ next_phased_row_in rows index held output phases work
  unfolding next_phased_row_in
  phased_refused_there why q = ap (phased_stepped rows held output phases work) (rw q at sought)

  module _ (p : Place) (q : r ≡ Ok p) where
    at_place : ok p [] ≡ next_record rows index held (min (length output) (length phases)) (length work)
    at_place = rw q at sought

    known_there : RowReady rows held p work × (rows.fields.samples ≤ lent)
    known_there =
        subst (Holds (λ (p : Place) (left : List ℕ). RowReady rows held p work × (rows.fields.samples ≤ lent))) (sym (rw q at told))
        (all_known rows index held lent work)

    pub phased_ready : RowReady rows held p work
    phased_ready = known_there.0

    pub output_there : rows.fields.samples ≤ length output
    output_there = omega (arith, known_there.1)

    pub phases_there : rows.fields.samples ≤ length phases
    phases_there = omega (arith, known_there.1)

    -- the two ways on
    module _ (t : Bool) (k : t ≡ type_leans p.record_type) (step : RowStep) (output₁ phases₁ work₁ : List ℕ) where
      pub phased_stepped_leaning : t ≡ true → phased_row_left step output₁ phases₁ work₁ ≡ phased_over_anchor rows held p output phases work
          → phased_row_left step output₁ phases₁ work₁ ≡ next_phased_row_in rows index held output phases work
      unfolding next_phased_row_in
      phased_stepped_leaning s d = rw (← at_place, ← k, s) d

      pub phased_stepped_alone : t ≡ false → phased_row_left step output₁ phases₁ work₁ ≡ phased_over_nothing rows held p output phases work
          → phased_row_left step output₁ phases₁ work₁ ≡ next_phased_row_in rows index held output phases work
      unfolding next_phased_row_in
      phased_stepped_alone s d = rw (← at_place, ← k, s) d

pub ruleset next_phased_laws = (phased_ready, output_there, phases_there, holds, fails, phased_refused_there, phased_stepped_leaning, phased_stepped_alone)

-- ---- of a file in one piece

pub phased_in_one_piece : (rows : Rows) (file output phases work : List ℕ) (step : RowStep) (output₁ phases₁ work₁ : List ℕ)
    → phased_row_left step output₁ phases₁ work₁ ≡ next_phased_row_in rows file file output phases work
    → phased_row_left step output₁ phases₁ work₁ ≡ next_phased_row_call rows file output phases work
unfolding next_phased_row_call
phased_in_one_piece rows file output phases work step output₁ phases₁ work₁ e = e
