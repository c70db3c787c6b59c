-- The two calls of a way through a file: for any state and any slices the reply, the state moved on, and both lent buffers afterwards. A step is defined over
-- an index and the data that it speaks of, `held`, as code below the public calls is: a file in one piece is both.
-- Assumes nothing.
use Rattle.std.specs.Prelude.{◌≡◌, ℕ, ◌+◌, ◌≤◌, ◌<◌, Bool, true, not, ◌&&◌, ◌||◌, List, [], ◌++◌, length, take, drop, eqb, leb, ltb}
use Rattle.std.specs.Prelude.{Result, Ok, Err, is_ok, ⊤}
use Rattle.format.specs.declared.Fields.{Fields}
use Rattle.format.specs.declared.Refusal.{Refusal}
use Rattle.format.specs.Base.{pick, Out, ok, refused, bind, need, need_of}
use Rattle.format.specs.Limits.{most_samples, most_variants, variants_to_a_block}
use Rattle.format.specs.Classes.{record_numbers, among}
use Rattle.format.specs.Body.{kind_of, type_leans}
use Rattle.format.specs.Variant.{file_variant, no_variant, next_variant, in_block}
use Rattle.format.specs.Layout.{fields_of, from_1_to, first_record, Layout, fixed_of, type_allowed}
use Rattle.format.specs.Header.{type_place}
use Rattle.format.specs.Reply.{Verdict, verdict, named_reply, answer, emptied, holds_row, with_layout}
use Rattle.head_blocks.specs.Parts.{fixed}
use Rattle.head_records.specs.Extent.{record_type, record_size}
use Rattle.head_places.specs.declared.Place.{Place}
use Rattle.read_record.specs.Recorded.{RecordLeft, record_left, named_left, recorded}
use Rattle.read_check.specs.Checked.{body_checked}
use Rattle.call_rows.specs.declared.Rows.{Rows}
use Rattle.call_rows.specs.declared.RowStep.{RowStep}

-- ---- the start

-- before the first variant of a file with these fields
abbrev pub first_row : Fields → Rows
first_row f = record {
  fields = f;
  variant = file_variant 0;
  start = first_record variants_to_a_block (fixed f);
  anchor = Ok tt;
}

-- 01, Replies: the header check, then 10, "a lent buffer of wrong size"
unfoldable pub start_rows_call : List ℕ → List ℕ → Out Rows
start_rows_call file work = with_layout variants_to_a_block file (holds_row work) (λ (l : Layout). ok (first_row (fields_of (fixed_of l))) [])

-- ---- what refuses a call before a record is read

-- By the state alone and the sizes of output and work area. 01, Replies: 4, "M or N outside its range", "3 or 7, M first", as the header check has it;
-- 10, "a lent buffer of wrong size"; 11, "variant not below M". 02, Ask 2: "M where no variant is concerned, 0 in 1 to 4".
unfoldable pub state_checked : Rows → ℕ → ℕ → Out (Unit {0})
state_checked rows output work =
    need (from_1_to most_variants rows.fields.variants) 4 3
    (need (from_1_to most_samples rows.fields.samples) 4 7
    (need_of (no_variant rows.fields.variants) (leb rows.fields.samples output && leb rows.fields.samples work) 10 0
    (need_of (no_variant rows.fields.variants) (ltb rows.variant.0 rows.fields.variants) 11 0 (ok tt []))))

-- the record of the state's variant: where it starts and ends, and its type
unfoldable pub record_of : Rows → List ℕ → Place
record_of rows index = record {
  start = rows.start;
  end = rows.start + record_size variants_to_a_block (fixed rows.fields) index rows.variant;
  record_type = record_type variants_to_a_block (fixed rows.fields) index rows.variant;
}

-- How an anchor was read, by what a state keeps of it. 01, Replies: "An accepted call has refusal 0", so number 0 tells that it was accepted, whatever place
-- and variant stand beside it.
unfoldable pub anchor_reply : Result ⊤ Refusal → Result ⊤ Refusal
anchor_reply (Ok done) = Ok tt
anchor_reply (Err why) = pick (eqb why.number 0) (Ok tt) (Err why)

-- a reply that the reading of a record can give
abbrev pub record_reply : Result ⊤ Refusal → Bool
record_reply (Ok done) = true
record_reply (Err why) = among record_numbers why.number

-- the state tells how its anchor was read: accepted, or refused as a record is
unfoldable pub anchor_told : Result ⊤ Refusal → Bool
anchor_told anchor = record_reply (anchor_reply anchor)

-- 01, The header: "its kind is not 2 or 3 at the first variant of a block", where there is no anchor; nor where the state tells of none
unfoldable pub type_follows : Rows → ℕ → Bool
type_follows rows type = type_allowed (in_block variants_to_a_block rows.variant) type && (not (type_leans type) || anchor_told rows.anchor)

-- 8, "type not allowed", which names the state's variant; 9, "records don't end at the file's end"
unfoldable pub record_checked : Rows → List ℕ → List ℕ → Out Place
record_checked rows index held =
    need_of rows.variant (type_follows rows (record_of rows index).record_type) 8 (type_place variants_to_a_block (fixed rows.fields) rows.variant)
    (need_of (no_variant rows.fields.variants) (leb (record_of rows index).end (length held)) 9 (length held) (ok (record_of rows index) []))

-- A file's own states, stepped over that file, are never refused with 4, 8 or 9.
unfoldable pub next_record : Rows → List ℕ → List ℕ → ℕ → ℕ → Out Place
next_record rows index held output work = bind (state_checked rows output work) (λ checked left. record_checked rows index held)

-- as the code finds it
abbrev pub found : Result Place Refusal → Out Place
found (Ok p) = ok p []
found (Err why) = refused why

-- ---- a step

-- a call's answer in document 01's numbers, the state moved on, and both buffers as it leaves them
pub record Left : Type 0 where
  pub verdict : Verdict
  pub rows : Rows
  pub output : List ℕ
  pub work : List ℕ

abbrev pub row_left : RowStep → List ℕ → List ℕ → Left
row_left step output work = record { verdict = verdict (answer step.reply); rows = step.rows; output = output; work = work }

-- past a record that ends there, with the reply of the last record that leans on none, which names its own variant
abbrev pub past : Rows → ℕ → Result ⊤ Refusal → Rows
past rows end anchor = record { fields = rows.fields; variant = next_variant rows.variant; start = end; anchor = anchor }

abbrev pub answered : Rows → Result ⊤ Refusal → RowStep
answered rows reply = record { rows = rows; reply = reply }

-- a record that leans on none, as the work area was left by reading it there
abbrev pub alone : Rows → ℕ → List ℕ → RecordLeft → Left
alone rows end output (record_left (Ok tt) work) =
    row_left (answered (past rows end (Ok tt)) (Ok tt)) (take rows.fields.samples work ++ drop rows.fields.samples output) work
alone rows end output (record_left (Err why) work) = row_left (answered (past rows end (Err why)) (Err why)) output work

-- its answer by its reply, and the work area: its categories, which the output holds, stay there for those that lean on it; after a refusal the first N bytes
-- are zero
pub data Kept : Type 0 where
  kept : RowStep → List ℕ → Kept

unfoldable pub row_kept : Rows → ℕ → Result ⊤ Refusal → List ℕ → List ℕ → Kept
row_kept rows end (Ok tt) output work =
    kept (answered (past rows end (Ok tt)) (Ok tt)) (take rows.fields.samples output ++ drop rows.fields.samples work)
row_kept rows end (Err why) output work = kept (answered (past rows end (Err why)) (Err why)) (emptied rows.fields.samples work)

-- one that leans, as the output would be left by reading it there over the anchor's row; the state keeps what it tells of the anchor, place and variant too
abbrev pub leaning : Rows → ℕ → List ℕ → List ℕ → RecordLeft → Left
leaning rows end output work (record_left (Ok tt) row) = row_left (answered (past rows end rows.anchor) (Ok tt)) row work
leaning rows end output work (record_left (Err why) row) = row_left (answered (past rows end rows.anchor) (Err why)) output work

-- a record at its place, over a row. 02, Ask 2: a refusal names "the variant in whose record or type the fault lies"
abbrev pub read_at : Rows → List ℕ → Place → List ℕ → RecordLeft
read_at rows held p row = named_left rows.variant (recorded rows.fields.samples p.record_type (take p.end held) p.start row)

-- 01, Replies: "an anchor is checked before the record that leans on it": refused as its anchor was, or checked over the anchor's row
unfoldable pub leaning_checked : Rows → List ℕ → Place → List ℕ → Result ⊤ Refusal
leaning_checked rows held p work =
    pick (is_ok (anchor_reply rows.anchor))
    (named_reply rows.variant (body_checked rows.fields.samples p.record_type (take p.end held) p.start work))
    (anchor_reply rows.anchor)

-- a record that leans on none, as if it were read in the work area
abbrev pub over_nothing : Rows → List ℕ → Place → List ℕ → List ℕ → Left
over_nothing rows held p output work = alone rows p.end output (read_at rows held p work)

-- 01, Replies: "an anchor is checked before the record that leans on it": refused as its anchor was, or read over the anchor's row, which the work area holds
abbrev pub over_anchor : Rows → List ℕ → Place → List ℕ → List ℕ → Left
over_anchor rows held p output work =
    pick (is_ok (anchor_reply rows.anchor))
    (leaning rows p.end output work (read_at rows held p (take rows.fields.samples work ++ drop rows.fields.samples output)))
    (row_left (answered (past rows p.end rows.anchor) (anchor_reply rows.anchor)) output work)

abbrev pub stepped : Rows → List ℕ → List ℕ → List ℕ → Out Place → Left
stepped rows held output work (refused why) = row_left (answered rows (Err why)) output work
stepped rows held output work (ok p left) =
    pick (type_leans p.record_type) (over_anchor rows held p output work) (over_nothing rows held p output work)

unfoldable pub next_row_in : Rows → List ℕ → List ℕ → List ℕ → List ℕ → Left
next_row_in rows index held output work = stepped rows held output work (next_record rows index held (length output) (length work))

unfoldable pub next_row_call : Rows → List ℕ → List ℕ → List ℕ → Left
next_row_call rows file output work = next_row_in rows file file output work

-- ---- what the parts of the code are given

-- M and N are in their ranges, and there is the variant
pub record Standing (rows : Rows) : Type 0 where
  pub few_variants : rows.fields.variants ≤ most_variants
  pub few_samples : rows.fields.samples ≤ most_samples
  pub below : rows.variant.0 < rows.fields.variants

-- the record's place lies in the data, its type's kind is one of the seven, and the work area holds a row
pub record RowReady (rows : Rows) (held : List ℕ) (p : Place) (work : List ℕ) : Type 0 where
  pub few_variants : rows.variant.0 < most_variants
  pub few_samples : rows.fields.samples ≤ most_samples
  pub work_holds : rows.fields.samples ≤ length work
  pub rises : p.start ≤ p.end
  pub inside : p.end ≤ length held
  pub kind_known : kind_of p.record_type ≡ 5 → ⊥
