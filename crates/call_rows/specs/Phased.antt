-- The call for the next variant's phases besides its categories: as the call for its categories alone (Calls), with one lent buffer more.
-- Assumes nothing.
use Rattle.std.specs.Prelude.{ℕ, min, List, ◌++◌, length, take, drop, is_ok}
use Rattle.format.specs.Base.{pick, Out, ok, refused}
use Rattle.format.specs.Body.{type_leans, Body, read_body, body_phases}
use Rattle.head_places.specs.declared.Place.{Place}
use Rattle.call_rows.specs.declared.Rows.{Rows}
use Rattle.call_rows.specs.declared.RowStep.{RowStep}
use Rattle.call_rows.specs.Calls.{anchor_reply, next_record, Left, row_left, over_nothing, over_anchor, stepped}

-- the answer, the state, the output and the work area as the call for the categories leaves them; and the phases
pub record LeftPhased : Type 0 where
  pub row : Left
  pub phases : List ℕ

abbrev pub with_phases : Left → List ℕ → LeftPhased
with_phases row phases = record { row = row; phases = phases }

abbrev pub phased_row_left : RowStep → List ℕ → List ℕ → List ℕ → LeftPhased
phased_row_left step output phases work = with_phases (row_left step output work) phases

-- 02, Ask 1: "A new reading fills N bytes: 0 unphased, 1 unswapped, 2 swapped", those of the body that was read; where it is refused they stay
abbrev pub phases_filled : ℕ → List ℕ → List ℕ → Out Body → List ℕ
phases_filled N anchor phases (ok body left) = body_phases N anchor body ++ drop N phases
phases_filled N anchor phases (refused why) = phases

-- the body at a record's place, over the work area, which holds its anchor's row if it leans
abbrev pub body_at : Rows → List ℕ → Place → List ℕ → Out Body
body_at rows held p work =
    read_body (length (take p.end held)) rows.fields.samples (take rows.fields.samples work) p.record_type (drop p.start (take p.end held))

abbrev pub phases_at : Rows → List ℕ → Place → List ℕ → List ℕ → List ℕ
phases_at rows held p phases work = phases_filled rows.fields.samples (take rows.fields.samples work) phases (body_at rows held p work)

-- a record that leans on none
abbrev pub phased_over_nothing : Rows → List ℕ → Place → List ℕ → List ℕ → List ℕ → LeftPhased
phased_over_nothing rows held p output phases work = with_phases (over_nothing rows held p output work) (phases_at rows held p phases work)

-- 01, Replies: "an anchor is checked before the record that leans on it": where it was refused the phases stay
abbrev pub phased_over_anchor : Rows → List ℕ → Place → List ℕ → List ℕ → List ℕ → LeftPhased
phased_over_anchor rows held p output phases work =
    with_phases (over_anchor rows held p output work) (pick (is_ok (anchor_reply rows.anchor)) (phases_at rows held p phases work) phases)

abbrev pub phased_stepped : Rows → List ℕ → List ℕ → List ℕ → List ℕ → Out Place → LeftPhased
phased_stepped rows held output phases work (refused why) = with_phases (stepped rows held output work (refused why)) phases
phased_stepped rows held output phases work (ok p left) =
    pick (type_leans p.record_type) (phased_over_anchor rows held p output phases work) (phased_over_nothing rows held p output phases work)

-- 10, "a lent buffer of wrong size", is looked for in the phases as in the output: the shorter of the two must hold a row
unfoldable pub next_phased_row_in : Rows → List ℕ → List ℕ → List ℕ → List ℕ → List ℕ → LeftPhased
next_phased_row_in rows index held output phases work =
    phased_stepped rows held output phases work (next_record rows index held (min (length output) (length phases)) (length work))

unfoldable pub next_phased_row_call : Rows → List ℕ → List ℕ → List ℕ → List ℕ → LeftPhased
next_phased_row_call rows file output phases work = next_phased_row_in rows file file output phases work
