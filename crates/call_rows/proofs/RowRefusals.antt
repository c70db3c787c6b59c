-- Each refusal of the two calls is a number of document 01's table that belongs to that call, also where no start gave the state; what a refused step names
-- and leaves.
-- Assumes nothing.
use Rattle.std.specs.Prelude.{Result, Ok, Err, is_ok, ⊤}
use mathlib.Core.Path.{◌≡◌, refl, ap}
use Prim.Native.Nat.{ℕ}
use mathlib.Core.Bool.{true, false, not, ◌&&◌, ◌||◌}
use mathlib.Core.List.{List, [], ◌∷◌, ◌++◌}
use lib.ListN.{length, take, drop}
use lib.Dec.{ltb, leb}
use native.Mathlib.Omega.{arith}
use Rattle.format.specs.declared.Refusal.{Refusal}
use Rattle.format.specs.Base.{pick, Bytes, Out, ok, refused, refusal, named}
use Rattle.format.specs.Classes.{header_numbers, record_numbers, among}
use Rattle.format.specs.Limits.{most_samples, most_variants, variants_to_a_block}
use Rattle.format.specs.Body.{Body, read_body, type_leans}
use Rattle.format.specs.Variant.{file_variant, no_variant, in_block}
use Rattle.format.specs.Layout.{from_1_to, type_allowed}
use Rattle.format.specs.Header.{type_place, read_layout}
use Rattle.format.specs.Reply.{keeps_work, holds_row}
use Rattle.format.proofs.Rules.{Holds, by_test, by_bind, both, never_both, below_take, below_drop, by_need_of}
use Rattle.format.proofs.Unique.{apart}
use Rattle.format.proofs.Refuses.{RefusalIs, is_need, is_need_of, is_then, Refuses, Among, RecordNumber, class_holds, no_other_class, refuses_wider}
use Rattle.format.proofs.Refuses.{refuses_need, refuses_need_of, refuses_then}
use Rattle.format.proofs.Refusals.{body_refusals, allowed_kind}
use Rattle.format.proofs.HeaderRefusals.{header_refusals}
use Rattle.format.proofs.CallRefusals.{record_clears_work}
use Rattle.head_blocks.specs.Parts.{fixed}
use Rattle.head_places.specs.declared.Place.{Place}
use Rattle.read_record.specs.Recorded.{RecordLeft, record_left, record_replied, recorded, named_left}
use Rattle.call_rows.specs.declared.Rows.{Rows}
use Rattle.call_rows.specs.Calls.{start_rows_call, state_checked, record_of, anchor_reply, record_reply, anchor_told, type_follows, record_checked, next_record}
use Rattle.call_rows.specs.Calls.{Left, row_left, past, answered, alone, leaning, read_at, over_nothing, over_anchor, stepped, next_row_in, next_row_call}

-- ---- the start

-- 1 to 9, and 10
abbrev pub start_rows_numbers : List ℕ
start_rows_numbers = header_numbers ++ (10 ∷ [])

pub start_rows_refusals : (file work : List ℕ) → Refuses (Among start_rows_numbers) (start_rows_call file work)
unfolding start_rows_call
start_rows_refusals file work =
    refuses_then (Among start_rows_numbers) (read_layout variants_to_a_block file) _
    (refuses_wider header_numbers start_rows_numbers (read_layout variants_to_a_block file) refl (header_refusals variants_to_a_block file)) (λ l left.
    refuses_need_of (Among start_rows_numbers) _ (holds_row work l) _ _ _ refl tt)

-- ---- a step

-- 4, 8 and 9, which a state meets that is not of the file; 10 and 11; 12 to 18 and 23 to 25
abbrev pub next_row_numbers : List ℕ
next_row_numbers = 4 ∷ 8 ∷ 9 ∷ 10 ∷ 11 ∷ record_numbers

-- 02, Ask 2: what a step's own refusals name, whatever the state: 4 names 0; 9, 10 and 11 the state's M; 8 its variant, at the byte that holds its type
pub record StepNames (rows : Rows) (why : Refusal) : Type 0 where
  pub names_zero : why.number ≡ 4 → why.variant ≡ file_variant 0
  pub names_none : Among (9 ∷ 10 ∷ 11 ∷ []) why.number → why.variant ≡ no_variant rows.fields.variants
  pub names_type : why.number ≡ 8 → (why.variant ≡ rows.variant) × (why.place ≡ type_place variants_to_a_block (fixed rows.fields) rows.variant)

-- what a refused step leaves: its number is one of them, the output stays, and where nothing was read the state and the work area stay too
pub record Kept (rows : Rows) (output work : List ℕ) (left : Left) : Type 0 where
  pub numbered : Among next_row_numbers left.verdict.refusal.number
  pub names : StepNames rows left.verdict.refusal
  pub output_stays : left.output ≡ output
  pub stays : keeps_work left.verdict.refusal.number ≡ true → (left.rows ≡ rows) × (left.work ≡ work)

-- a refusal of what a record leaves is one of a record's
abbrev RecordNumbered : RecordLeft → Type 0
RecordNumbered (record_left (Ok tt) row) = Unit {0}
RecordNumbered (record_left (Err why) row) = RecordNumber why.number

module _ (rows : Rows) (held output work : List ℕ) (y : Bytes held) where
  abbrev Keeps : Left → Type 0
  Keeps left = left.verdict.accepted ≡ false → Kept rows output work left

  -- refused for a record, with whatever state and work area
  for_record : (why : Refusal) (later : Rows) (work₁ : List ℕ) → RecordNumber why.number
      → Kept rows output work (row_left (answered later (Err why)) output work₁)
  for_record why later work₁ c = record {
    numbered = class_holds (among next_row_numbers) record_numbers why.number refl c;
    names = record {
      names_zero = λ t. never_both c (ap (among record_numbers) t);
      names_none = λ t. no_other_class record_numbers (9 ∷ 10 ∷ 11 ∷ []) why.number refl c t;
      names_type = λ t. never_both c (ap (among record_numbers) t);
    };
    output_stays = refl;
    stays = λ k. never_both k (record_clears_work why.number c);
  }

  alone_keeps : (end : ℕ) (x : RecordLeft) → RecordNumbered x → Keeps (alone rows end output x)
  alone_keeps end (record_left (Ok tt) row) k = λ e. apart e
  alone_keeps end (record_left (Err why) row) k = λ e. for_record why (past rows end (Err why)) row k

  leaning_keeps : (end : ℕ) (x : RecordLeft) → RecordNumbered x → Keeps (leaning rows end output work x)
  leaning_keeps end (record_left (Ok tt) row) k = λ e. apart e
  leaning_keeps end (record_left (Err why) row) k = λ e. for_record why (past rows end rows.anchor) work k

  module _ (p : Place) (t : type_follows rows p.record_type ≡ true) where
    abbrev type : ℕ
    type = p.record_type

    follows : (type_allowed (in_block variants_to_a_block rows.variant) type ≡ true) × (not (type_leans type) || anchor_told rows.anchor ≡ true)
    unfolding type_follows
    follows = both (type_allowed (in_block variants_to_a_block rows.variant) type) (not (type_leans type) || anchor_told rows.anchor) t

    -- the record at its place, over any row
    read_numbers : (row : List ℕ) → RecordNumbered (read_at rows held p row)
    unfolding recorded
    read_numbers row =
        let l : List ℕ = take p.end held in
        let N : ℕ = rows.fields.samples in
        go (read_body (length l) N (take N row) type (drop p.start l))
        (body_refusals (length l) N (take N row) type (drop p.start l)
        (allowed_kind (in_block variants_to_a_block rows.variant) type follows.0)
        (below_drop 256 p.start l (below_take 256 p.end held y)))
      where
        go : (m : Out Body) → Refuses RecordNumber m → RecordNumbered (named_left rows.variant (record_replied rows.fields.samples row m))
        go (ok body left) r = tt
        go (refused why) r = r

    -- its anchor was refused as a record is
    anchored_keeps : (reply : Result ⊤ Refusal) → record_reply reply ≡ true → (left : Left) → Keeps left
        → Keeps (pick (is_ok reply) left (row_left (answered (past rows p.end rows.anchor) reply) output work))
    anchored_keeps (Ok tt) t left k = k
    anchored_keeps (Err why) t left k = λ e. for_record why (past rows p.end rows.anchor) work t

    over_anchor_keeps : type_leans type ≡ true → Keeps (over_anchor rows held p output work)
    unfolding anchor_told
    over_anchor_keeps l = anchored_keeps (anchor_reply rows.anchor) (rw l at follows.1) _ (leaning_keeps p.end (read_at rows held p _) (read_numbers _))

    placed_keeps : Keeps (pick (type_leans type) (over_anchor rows held p output work) (over_nothing rows held p output work))
    placed_keeps = by_test Keeps (type_leans type) over_anchor_keeps (λ l. alone_keeps p.end (read_at rows held p work) (read_numbers work))

  pub stepped_keeps : (m : Out Place) → Refuses (Among next_row_numbers) m → RefusalIs (StepNames rows) m
      → Holds (λ (p : Place) (left : List ℕ). type_follows rows p.record_type ≡ true) m → Keeps (stepped rows held output work m)
  stepped_keeps (ok p left) r n t = placed_keeps p t
  stepped_keeps (refused why) r n t = λ e. record { numbered = r; names = n; output_stays = refl; stays = λ k. (refl, refl) }

-- what is refused before a record is read
state_numbers : (rows : Rows) (output work : ℕ) → Refuses (Among next_row_numbers) (state_checked rows output work)
unfolding state_checked
state_numbers rows output work =
    refuses_need (Among next_row_numbers) (from_1_to most_variants rows.fields.variants) _ _ _ refl
    (refuses_need (Among next_row_numbers) (from_1_to most_samples rows.fields.samples) _ _ _ refl
    (refuses_need_of (Among next_row_numbers) _ (leb rows.fields.samples output && leb rows.fields.samples work) _ _ _ refl
    (refuses_need_of (Among next_row_numbers) _ (ltb rows.variant.0 rows.fields.variants) _ _ _ refl tt)))

module _ (rows : Rows) where
  zeroth : (place : ℕ) → StepNames rows (refusal 4 place)
  zeroth place = record { names_zero = λ t. refl; names_none = λ t. never_both t refl; names_type = λ t. absurd (omega arith) }

  none : (number place : ℕ) → Among (9 ∷ 10 ∷ 11 ∷ []) number → StepNames rows (named (no_variant rows.fields.variants) (refusal number place))
  none number place h = record {
    names_zero = λ t. never_both h (ap (among (9 ∷ 10 ∷ 11 ∷ [])) t);
    names_none = λ t. refl;
    names_type = λ t. never_both h (ap (among (9 ∷ 10 ∷ 11 ∷ [])) t);
  }

  state_names : (output work : ℕ) → RefusalIs (StepNames rows) (state_checked rows output work)
  unfolding state_checked
  state_names output work =
      is_need _ (from_1_to most_variants rows.fields.variants) 4 3 _ (λ t. zeroth 3) (λ t.
      is_need _ (from_1_to most_samples rows.fields.samples) 4 7 _ (λ t. zeroth 7) (λ t.
      is_need_of _ _ (leb rows.fields.samples output && leb rows.fields.samples work) 10 0 _ (λ t. none 10 0 refl) (λ t.
      is_need_of _ _ (ltb rows.variant.0 rows.fields.variants) 11 0 _ (λ t. none 11 0 refl) (λ t. tt))))

module _ (rows : Rows) (index held : List ℕ) (output work : ℕ) where
  pub sought_names : RefusalIs (StepNames rows) (next_record rows index held output work)
  unfolding next_record record_checked
  sought_names =
      is_then _ (state_checked rows output work) _ (state_names rows output work) (λ u left.
      is_need_of _ _ (type_follows rows (record_of rows index).record_type) 8 _ _ (λ t. of_type) (λ t.
      is_need_of _ _ (leb (record_of rows index).end (length held)) 9 (length held) _ (λ f. none rows 9 (length held) refl) (λ f. tt)))
    where
      of_type : StepNames rows (named rows.variant (refusal 8 (type_place variants_to_a_block (fixed rows.fields) rows.variant)))
      of_type = record { names_zero = λ t. absurd (omega arith); names_none = λ t. never_both t refl; names_type = λ t. (refl, refl) }

  pub sought_numbers : Refuses (Among next_row_numbers) (next_record rows index held output work)
  unfolding next_record record_checked
  sought_numbers =
      refuses_then (Among next_row_numbers) (state_checked rows output work) _ (state_numbers rows output work) (λ u left.
      refuses_need_of (Among next_row_numbers) _ (type_follows rows (record_of rows index).record_type) _ _ _ refl
      (refuses_need_of (Among next_row_numbers) _ (leb (record_of rows index).end (length held)) _ _ _ refl tt))

  pub sought_follows : Holds (λ (p : Place) (left : List ℕ). type_follows rows p.record_type ≡ true) (next_record rows index held output work)
  unfolding next_record record_checked
  sought_follows =
      by_bind (λ u left. Unit {0}) _ (state_checked rows output work) _ (any (state_checked rows output work)) (λ u left q.
      by_need_of _ _ (type_follows rows (record_of rows index).record_type) 8 _ _ (λ t.
      by_need_of _ _ (leb (record_of rows index).end (length held)) 9 (length held) _ (λ e. t)))
    where
      any : (m : Out (Unit {0})) → Holds (λ u left. Unit {0}) m
      any (ok u left) = tt
      any (refused why) = tt

module _ (rows : Rows) (file output work : List ℕ) (y : Bytes file) (e : (next_row_call rows file output work).verdict.accepted ≡ false) where
  kept : Kept rows output work (next_row_call rows file output work)
  unfolding next_row_call next_row_in
  kept =
      stepped_keeps rows file output work y (next_record rows file file (length output) (length work))
      (sought_numbers rows file file (length output) (length work)) (sought_names rows file file (length output) (length work))
      (sought_follows rows file file (length output) (length work)) e

  -- whatever the state: the refusal that it tells of its anchor is handed on only if a record can have it
  pub next_row_refusals : Among next_row_numbers (next_row_call rows file output work).verdict.refusal.number
  next_row_refusals = kept.numbered

  pub next_row_names : StepNames rows (next_row_call rows file output work).verdict.refusal
  next_row_names = kept.names

  -- DEMAND 1: a refusal leaves the output untouched
  pub refused_next_row : (next_row_call rows file output work).output ≡ output
  refused_next_row = kept.output_stays

  -- 01, Replies: "After 1 to 11 and 21 the work area is unchanged"; so is the state
  pub refused_next_row_stays : keeps_work (next_row_call rows file output work).verdict.refusal.number ≡ true
      → ((next_row_call rows file output work).rows ≡ rows) × ((next_row_call rows file output work).work ≡ work)
  refused_next_row_stays = kept.stays
