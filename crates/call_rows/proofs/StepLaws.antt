-- What each way out of a step says, from what the code was told of the record.
-- Assumes nothing.
use Rattle.std.specs.Prelude.{Result, Ok, Err, is_ok, ⊤}
use mathlib.Core.Path.{◌≡◌, refl, sym, ap, ◌∙◌}
use Prim.Native.Nat.{ℕ, ◌+◌, ◌≤◌}
use native.Mathlib.Numerals.{add-one}
use mathlib.Core.Bool.{Bool, true, false}
use mathlib.Core.List.{List, [], ◌++◌}
use lib.ListN.{length, take, drop, replicate, length-take, length-append, length-drop}
use lib.Seq.{take_at, length-take-le}
use native.Mathlib.Omega.{arith}
use Rattle.format.proofs.Rules.{never_both}
use Rattle.format.specs.declared.FileVariant.{FileVariant}
use Rattle.format.specs.declared.Refusal.{Refusal}
use Rattle.format.specs.Base.{pick, Out, ok, refused, named, naming, map_out}
use Rattle.format.specs.Body.{type_leans, type_phased, Body, read_body, body_categories}
use Rattle.format.specs.Variant.{file_variant}
use Rattle.format.specs.Reply.{named_reply, emptied}
use Rattle.format.proofs.RowLaws.{row_anchor_unused, read_alike}
use Rattle.head_places.specs.declared.Place.{Place}
use Rattle.read_record.specs.Recorded.{replied, RecordLeft, record_left, record_replied, recorded, named_left}
use Rattle.read_record.proofs.BodyLaws.{reply_of, row_of}
use Rattle.read_record.proofs.NamedLaws.{replied_named, left_named}
use Rattle.read_check.specs.Checked.{body_checked}
use Rattle.read_check.specs.Straight.{own_as, straight_replied, straight}
use Rattle.call_rows.specs.declared.Rows.{Rows}
use Rattle.call_rows.specs.declared.RowStep.{RowStep}
use Rattle.call_rows.specs.Calls.{Kept, kept, row_kept}
use Rattle.call_rows.specs.Calls.{Left, row_left, past, answered, alone, leaning, read_at, anchor_reply, leaning_checked}
use Rattle.call_rows.specs.Calls.{over_nothing, over_anchor, RowReady}

-- ---- past a record that leans on none

module _ (rows : Rows) (end : ℕ) (got : Result ⊤ Refusal) (output work : List ℕ) (next : Rows) (work₁ : List ℕ) where
  pub kept_refused : (why : Refusal) → next ≡ past rows end (Err why) → got ≡ Err why → work₁ ≡ replicate rows.fields.samples 0 ++ drop rows.fields.samples work
      → kept (answered next (Err why)) work₁ ≡ row_kept rows end got output work
  unfolding row_kept
  kept_refused why n q w = rw (q, n, w) refl

  pub kept_accepted : next ≡ past rows end (Ok tt) → got ≡ Ok tt → work₁ ≡ take rows.fields.samples output ++ drop rows.fields.samples work
      → kept (answered next (Ok tt)) work₁ ≡ row_kept rows end got output work
  unfolding row_kept
  kept_accepted n q w = rw (q, n, w) refl

pub ruleset kept_laws = (kept_refused, kept_accepted)

-- ---- a record that leans on none, read straight in the output

abbrev left_of : List ℕ → Kept → Left
left_of output (kept step work) = row_left step output work

module _ (rows : Rows) (held : List ℕ) (p : Place) (output work : List ℕ) (stands : type_leans p.record_type ≡ false)
    (room : rows.fields.samples ≤ length output) (read got : Result ⊤ Refusal) (output₁ : List ℕ) (same : length output₁ ≡ length output)
    (d : record_left read output₁ ≡ straight rows.fields.samples p.record_type (take p.end held) p.start output)
    (v : got ≡ named_reply rows.variant read) (step : RowStep) (work₁ : List ℕ) (k : kept step work₁ ≡ row_kept rows p.end got output₁ work) where
  abbrev n : ℕ
  n = rows.fields.samples

  abbrev own : Out (List ℕ)
  own = own_as body_categories n p.record_type (take p.end held) p.start

  -- a step, by what the record is read as
  abbrev alone_as : Out (List ℕ) → Left
  alone_as (ok row left) = alone rows p.end output (record_left (Ok tt) (row ++ drop n work))
  alone_as (refused why) = alone rows p.end output (record_left (Err (named rows.variant why)) (emptied n work))

  alone_over : over_nothing rows held p output work ≡ alone_as own
  unfolding recorded
  alone_over =
      go (read_body (length cut) n (take n work) p.record_type (drop p.start cut))
      ∙ ap alone_as (read_alike body_categories n (row_anchor_unused n) (length cut) (take n work) [] p.record_type (drop p.start cut) stands)
    where
      cut : List ℕ
      cut = take p.end held

      go : (m : Out Body)
          → alone rows p.end output (named_left rows.variant (record_replied n work m)) ≡ alone_as (map_out (body_categories n (take n work)) m)
      go (ok body left) = refl
      go (refused why) = refl

  -- its reply and the output, by the same
  pub alone_left : row_left step output₁ work₁ ≡ over_nothing rows held p output work
  unfolding straight row_kept
  alone_left = go own d ∙ sym alone_over
    where
      go : (m : Out (List ℕ)) → record_left read output₁ ≡ straight_replied n output m → row_left step output₁ work₁ ≡ alone_as m
      go (refused why) t =
          let o : output₁ ≡ output = ap row_of t in
          let x : got ≡ Err (named rows.variant why) = v ∙ ap (λ (z : RecordLeft). named_reply rows.variant (reply_of z)) t in
          ap (left_of output₁) (k ∙ ap (λ (z : Result ⊤ Refusal). row_kept rows p.end z output₁ work) x) ∙ rw o refl
      go (ok row left) t =
          let o : output₁ ≡ row ++ drop n output = ap row_of t in
          let x : got ≡ (Ok tt) = v ∙ ap (λ (z : RecordLeft). named_reply rows.variant (reply_of z)) t in
          let count : length row ≡ n = omega (arith, ap length o, length-append row (drop n output), length-drop n output) in
          let own_row : take n output₁ ≡ row = ap (take n) o ∙ take_at row (drop n output) n count in
          ap (left_of output₁) (k ∙ ap (λ (z : Result ⊤ Refusal). row_kept rows p.end z output₁ work) x)
          ∙ rw (own_row, take_at row (drop n work) n count, o) refl

-- ---- one that leans: checked over the work area

module _ (rows : Rows) (held : List ℕ) (p : Place) (work : List ℕ) (reply : Result ⊤ Refusal) (looked : reply ≡ anchor_reply rows.anchor) where
  pub checked_anchor : (why : Refusal) → reply ≡ Err why → Err why ≡ leaning_checked rows held p work
  unfolding leaning_checked
  checked_anchor why q = rw (← looked, q) refl

  pub checked_body : reply ≡ Ok tt → (read got : Result ⊤ Refusal)
      → read ≡ body_checked rows.fields.samples p.record_type (take p.end held) p.start work → got ≡ named_reply rows.variant read
      → got ≡ leaning_checked rows held p work
  unfolding leaning_checked
  checked_body z read got e v = rw (← looked, z) (v ∙ ap (named_reply rows.variant) e)

-- a type that leans is not of a record that is phased and leans on none
pub leans_there : (type : ℕ) → type_leans type ≡ true → type_phased type ≡ true → type_leans type ≡ true
leans_there type l t = l

-- ---- then read over a copy of it

unnamed : (v : FileVariant) (r : Result ⊤ Refusal) → named_reply v r ≡ Ok tt → r ≡ Ok tt
unnamed v (Ok tt) e = refl
unnamed v (Err why) e = let z : ◌≡◌ {A = ℕ} 0 1 = cc in absurd (omega arith)

module _ (rows : Rows) (held : List ℕ) (p : Place) (output work : List ℕ) (ready : RowReady rows held p work) where
  abbrev N : ℕ
  N = rows.fields.samples

  abbrev cut : List ℕ
  cut = take p.end held

  -- the record, over the anchor's row; a refusal names its variant
  abbrev pub read : Out Body
  read = naming rows.variant (read_body (length cut) N (take N work) p.record_type (drop p.start cut))

  abbrev copied : List ℕ
  copied = take N work ++ drop N output

  pub same_row : take N copied ≡ take N work
  same_row = take_at (take N work) (drop N output) N (length-take-le N work ready.work_holds)

  -- read over a copy of the row, it is read alike
  pub over_copy : read_at rows held p copied ≡ record_replied N copied read
  unfolding recorded
  over_copy =
      ap (λ (lent : List ℕ). named_left rows.variant (record_replied N copied (read_body (length cut) N lent p.record_type (drop p.start cut))))
      same_row
      ∙ left_named rows.variant N copied (read_body (length cut) N (take N work) p.record_type (drop p.start cut))

  abbrev accepted_anchor : Bool
  accepted_anchor = is_ok (anchor_reply rows.anchor)

  -- what the check says, by how the anchor was read and how the record is
  abbrev pub checked_as : Bool → Out Body → Result ⊤ Refusal
  checked_as b m = pick b (replied m) (anchor_reply rows.anchor)

  abbrev left_as : Bool → Out Body → Left
  left_as b m =
      pick b (leaning rows p.end output work (record_replied N copied m))
      (row_left (answered (past rows p.end rows.anchor) (anchor_reply rows.anchor)) output work)

  over : over_anchor rows held p output work ≡ left_as accepted_anchor read
  over = rw over_copy

  module _ (next : Rows) (n : next ≡ past rows p.end rows.anchor) (got : Result ⊤ Refusal) (told : got ≡ leaning_checked rows held p work) where
    pub checked : got ≡ checked_as accepted_anchor read
    unfolding leaning_checked body_checked
    checked =
        told
        ∙ ap (λ (reply : Result ⊤ Refusal). pick accepted_anchor reply (anchor_reply rows.anchor))
        (replied_named rows.variant (read_body (length cut) N (take N work) p.record_type (drop p.start cut)))

    pub leaning_refused : (why : Refusal) → got ≡ Err why → row_left (answered next (Err why)) output work ≡ over_anchor rows held p output work
    leaning_refused why q = go accepted_anchor read checked ∙ sym over
      where
        go : (b : Bool) (m : Out Body) → got ≡ checked_as b m → row_left (answered next (Err why)) output work ≡ left_as b m
        go true (ok body left) e = absurd (let y : ◌≡◌ {A = ℕ} 0 1 = cc in omega arith)
        go true (refused other) e = cc
        go false m e = cc

    pub leaning_accepted : (output₁ output₂ : List ℕ) (got₂ : Result ⊤ Refusal) → got ≡ Ok tt → output₁ ≡ take N work ++ drop N output
        → record_left got₂ output₂ ≡ recorded N p.record_type cut p.start output₁
        → row_left (answered next got₂) output₂ work ≡ over_anchor rows held p output work
    leaning_accepted output₁ output₂ got₂ q f d = go accepted_anchor refl read checked refl ∙ sym over
      where
        go : (b : Bool) → accepted_anchor ≡ b → (m : Out Body) → got ≡ checked_as b m → read ≡ m → row_left (answered next got₂) output₂ work ≡ left_as b m
        go false t m e r = never_both (ap is_ok (sym e ∙ q)) t
        go true t (refused other) e r = absurd (let y : ◌≡◌ {A = ℕ} 0 1 = cc in omega arith)
        go true t (ok body left) e r =
            let again : record_left (named_reply rows.variant got₂) output₂ ≡ record_replied N copied (ok body left)
            = ap (named_left rows.variant) (rw f at d) ∙ over_copy ∙ ap (record_replied N copied) r in
            let fine : got₂ ≡ Ok tt = unnamed rows.variant got₂ (ap reply_of again) in
            cc

-- the data cut where the record ends
module _ (rows : Rows) (held : List ℕ) (p : Place) (work : List ℕ) (ready : RowReady rows held p work) where
  pub cut_end : p.end ≡ length (take p.end held)
  cut_end = omega (arith, length-take p.end held, ready.inside)

  pub cut_holds : p.start ≤ length (take p.end held)
  cut_holds = omega (arith, cut_end, ready.rises)

pub buffer_room : (n : ℕ) (buffer buffer₁ : List ℕ) → n ≤ length buffer → length buffer₁ ≡ length buffer → n ≤ length buffer₁
buffer_room n buffer buffer₁ h e = omega arith

-- past a record
pub past_is : (rows : Rows) (end : ℕ) (anchor : Result ⊤ Refusal)
    → record { fields = rows.fields; variant = file_variant (rows.variant.0 + 1); start = end; anchor = anchor } ≡ past rows end anchor
past_is rows end anchor = rw add-one

pub ruleset checked_laws = (checked_anchor, checked_body, leans_there, cut_end, cut_holds)

pub ruleset alone_laws = (alone_left, cut_end, cut_holds, buffer_room)

pub ruleset step_laws = (leaning_refused, leaning_accepted, cut_end, cut_holds, buffer_room)
