-- What a step whose phases are read too leaves: all else as the step of the categories alone leaves it, the phases of the body that was read, and after a
-- refusal the phases as they were.
-- Assumes nothing.
use Rattle.std.specs.Prelude.{Result, Ok, Err, is_ok, ⊤}
use mathlib.Core.Path.{◌≡◌, refl, sym, ap, ◌∙◌, subst}
use Prim.Native.Nat.{ℕ, min, ◌≤◌}
use mathlib.Core.Bool.{Bool, true, false}
use mathlib.Core.List.{List, [], ◌++◌}
use lib.ListN.{length, take, drop}
use lib.Dec.{leb}
use native.Mathlib.Omega.{arith}
use borrow.Author.Tests.{leb-true, leb-false, le-leb, lt-leb}
use Rattle.format.specs.declared.Refusal.{Refusal}
use Rattle.format.specs.Base.{pick, Bytes, Out, ok, refused, naming}
use Rattle.format.specs.Body.{type_leans, Body, body_phases}
use Rattle.format.specs.Reply.{keeps_work}
use Rattle.format.proofs.Rules.{Holds, by_test}
use Rattle.format.proofs.Refuses.{Among}
use Rattle.format.proofs.Unique.{apart}
use Rattle.head_places.specs.declared.Place.{Place}
use Rattle.read_record.specs.Recorded.{record_replied, recorded, named_left}
use Rattle.call_rows.specs.declared.Rows.{Rows}
use Rattle.call_rows.specs.Calls.{state_checked, anchor_reply, next_record, row_left, past, answered, alone, leaning, over_nothing, over_anchor}
use Rattle.call_rows.specs.Calls.{stepped, next_row_in, next_row_call, RowReady}
use Rattle.call_rows.specs.Phased.{LeftPhased, with_phases, phases_filled, body_at, phased_over_nothing, phased_over_anchor, phased_stepped}
use Rattle.call_rows.specs.Phased.{next_phased_row_in, next_phased_row_call}
use Rattle.call_rows.proofs.StepLaws.{over_copy}
use Rattle.call_rows.proofs.RecordLaws.{all_known}
use Rattle.call_rows.proofs.RowRefusals.{next_row_numbers, StepNames, Kept, stepped_keeps, sought_numbers, sought_names, sought_follows}

-- ---- all but the phases

module _ (rows : Rows) (held output phases work : List ℕ) where
  row_stepped : (m : Out Place) → (phased_stepped rows held output phases work m).row ≡ stepped rows held output work m
  row_stepped (refused why) = refl
  row_stepped (ok p left) = go (type_leans p.record_type)
    where
      go : (b : Bool) → (pick b (phased_over_anchor rows held p output phases work) (phased_over_nothing rows held p output phases work)).row
          ≡ pick b (over_anchor rows held p output work) (over_nothing rows held p output work)
      go true = refl
      go false = refl

-- where a second buffer holds a row, the shorter of the two holds one exactly if the first does
shorter_holds : (n a b : ℕ) → n ≤ b → leb n (min a b) ≡ leb n a
shorter_holds n a b h = go (leb n a) refl
  where
    go : (t : Bool) → leb n a ≡ t → leb n (min a b) ≡ t
    go true e = le-leb n (min a b) (omega (arith, leb-true n a e))
    go false e = lt-leb n (min a b) (omega (arith, leb-false n a e))

same_record : (rows : Rows) (index held : List ℕ) (output phases work : ℕ) → rows.fields.samples ≤ phases
    → next_record rows index held (min output phases) work ≡ next_record rows index held output work
unfolding next_record state_checked
same_record rows index held output phases work h = rw (shorter_holds rows.fields.samples output phases h)

-- where the phases' buffer holds a row: the answer, the state, the output and the work area are those of the call for the categories alone
pub phased_row_is_row : (rows : Rows) (file output phases work : List ℕ) → rows.fields.samples ≤ length phases
    → (next_phased_row_call rows file output phases work).row ≡ next_row_call rows file output work
unfolding next_phased_row_call next_phased_row_in next_row_call next_row_in
phased_row_is_row rows file output phases work h =
    row_stepped rows file output phases work (next_record rows file file (min (length output) (length phases)) (length work))
    ∙ ap (stepped rows file output work) (same_record rows file file (length output) (length phases) (length work) h)

-- ---- the phases

-- of an accepted step they are those of the body that was read, at the place that was found; of a refused one they stay
pub record FilledBy (rows : Rows) (held : List ℕ) (p : Place) (phases work : List ℕ) (filled : List ℕ) : Type 0 where
  pub body : Body
  pub rest : List ℕ
  pub is_read : body_at rows held p work ≡ ok body rest
  pub are_phases : filled ≡ body_phases rows.fields.samples (take rows.fields.samples work) body ++ drop rows.fields.samples phases

module _ (rows : Rows) (held output phases work : List ℕ) where
  abbrev N : ℕ
  N = rows.fields.samples

  abbrev Stays : LeftPhased → Type 0
  Stays left = left.row.verdict.accepted ≡ false → left.phases ≡ phases

  abbrev Fills : Place → LeftPhased → Type 0
  Fills p left = left.row.verdict.accepted ≡ true → FilledBy rows held p phases work left.phases

  module _ (p : Place) (ready : RowReady rows held p work) where
    abbrev copied : List ℕ
    copied = take N work ++ drop N output

    abbrev Both : LeftPhased → Type 0
    Both left = Stays left × Fills p left

    alone_both : Both (phased_over_nothing rows held p output phases work)
    unfolding recorded
    alone_both = go (body_at rows held p work) refl
      where
        go : (m : Out Body) → body_at rows held p work ≡ m
            → Both (record {
              row = alone rows p.end output (named_left rows.variant (record_replied N work m));
              phases = phases_filled N (take N work) phases m;
            })
        go (ok body rest) r = (λ e. apart e, λ e. record { body = body; rest = rest; is_read = r; are_phases = refl })
        go (refused why) r = (λ e. refl, λ e. apart (sym e))

    anchor_both : Both (phased_over_anchor rows held p output phases work)
    anchor_both = rw (over_copy rows held p output work ready) (go (anchor_reply rows.anchor) (body_at rows held p work) refl)
      where
        go : (a : Result ⊤ Refusal) (m : Out Body) → body_at rows held p work ≡ m
            → Both (with_phases (pick (is_ok a) (leaning rows p.end output work (record_replied N copied (naming rows.variant m)))
            (row_left (answered (past rows p.end rows.anchor) a) output work))
            (pick (is_ok a) (phases_filled N (take N work) phases m) phases))
        go (Ok tt) (ok body rest) r = (λ e. apart e, λ e. record { body = body; rest = rest; is_read = r; are_phases = refl })
        go (Ok tt) (refused why) r = (λ e. refl, λ e. apart (sym e))
        go (Err why) m r = (λ e. refl, λ e. apart (sym e))

    placed_both : (left : List ℕ) → Both (phased_stepped rows held output phases work (ok p left))
    placed_both left = by_test Both (type_leans p.record_type) (λ l. anchor_both) (λ l. alone_both)

  stepped_stays : (m : Out Place) → Holds (λ (p : Place) (left : List ℕ). RowReady rows held p work) m → Stays (phased_stepped rows held output phases work m)
  stepped_stays (ok p left) ready = (placed_both p ready left).0
  stepped_stays (refused why) ready = λ e. refl

module _ (rows : Rows) (file output phases work : List ℕ) where
  abbrev sought : Out Place
  sought = next_record rows file file (min (length output) (length phases)) (length work)

  abbrev left : LeftPhased
  left = next_phased_row_call rows file output phases work

  ready_there : Holds (λ (p : Place) (left : List ℕ). RowReady rows file p work) sought
  ready_there = go sought (all_known rows file file (min (length output) (length phases)) work)
    where
      go : (m : Out Place) → Holds (λ (p : Place) (left : List ℕ). RowReady rows file p work × (rows.fields.samples ≤ min (length output) (length phases))) m
          → Holds (λ (p : Place) (left : List ℕ). RowReady rows file p work) m
      go (ok p left) h = h.0
      go (refused why) h = tt

  -- an accepted step fills the phases with those of the body that it read
  pub phases_of_body : (p : Place) → sought ≡ ok p [] → left.row.verdict.accepted ≡ true → FilledBy rows file p phases work left.phases
  unfolding next_phased_row_call next_phased_row_in
  phases_of_body p q =
      subst (λ (m : Out Place). Fills rows file output phases work p (phased_stepped rows file output phases work m)) (sym q)
      (placed_both rows file output phases work p (subst (Holds (λ (p : Place) (left : List ℕ). RowReady rows file p work)) q ready_there) []).1

  module _ (e : left.row.verdict.accepted ≡ false) where
    -- DEMAND 1: a refusal leaves the phases untouched
    pub refused_phases : left.phases ≡ phases
    unfolding next_phased_row_call next_phased_row_in
    refused_phases = stepped_stays rows file output phases work sought ready_there e

    module _ (y : Bytes file) where
      kept : Kept rows output work left.row
      unfolding next_phased_row_call next_phased_row_in
      kept = rw (row_stepped rows file output phases work sought)
          (stepped_keeps rows file output work y sought (sought_numbers rows file file (min (length output) (length phases)) (length work))
          (sought_names rows file file (min (length output) (length phases)) (length work))
          (sought_follows rows file file (min (length output) (length phases)) (length work)) (rw (row_stepped rows file output phases work sought) at e))

      -- its refusals are those of the call for the categories alone
      pub next_phased_row_refusals : Among next_row_numbers left.row.verdict.refusal.number
      next_phased_row_refusals = kept.numbered

      pub next_phased_row_names : StepNames rows left.row.verdict.refusal
      next_phased_row_names = kept.names

      -- DEMAND 1: a refusal leaves the output untouched
      pub refused_next_phased_row : left.row.output ≡ output
      refused_next_phased_row = kept.output_stays

      -- 01, Replies: "After 1 to 11 and 21 the work area is unchanged"; so is the state
      pub refused_next_phased_row_stays : keeps_work left.row.verdict.refusal.number ≡ true → (left.row.rows ≡ rows) × (left.row.work ≡ work)
      refused_next_phased_row_stays = kept.stays
