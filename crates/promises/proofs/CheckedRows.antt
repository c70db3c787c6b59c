-- A file that the whole-file check has accepted, gone through by rows: none is refused.
-- Assumes nothing.
use Rattle.std.specs.Prelude.{Ok}
use mathlib.Core.Path.{◌≡◌, sym, ap, ◌∙◌, subst}
use Prim.Native.Nat.{ℕ, suc, ◌≤◌, ◌<◌}
use mathlib.Core.List.{List, []}
use lib.ListN.{length, length-map}
use lib.Dec.{lit<}
use native.Mathlib.Omega.{arith}
use Rattle.format.specs.declared.Fields.{Fields}
use Rattle.format.specs.Base.{Bytes, Out, ok}
use Rattle.format.specs.Limits.{variants_to_a_block}
use Rattle.format.specs.Body.{body_bytes}
use Rattle.format.specs.Variant.{file_variant}
use Rattle.format.specs.Layout.{fields_of, Layout, fixed_of}
use Rattle.format.specs.Header.{read_layout}
use Rattle.format.specs.File.{File, layout_of_file, file_bytes, Obeys, read_variant}
use Rattle.format.specs.Reply.{Verdict, verdict, answer, given, given_or, no_fields, check_out, check_call, read_call}
use Rattle.format.proofs.HeaderLaws.{layout_read_back}
use Rattle.format.proofs.ReadsLaws.{variant_reads}
use Rattle.call_rows.specs.declared.Rows.{Rows}
use Rattle.call_rows.specs.Calls.{first_row, start_rows_call, next_row_call}
use Rattle.call_rows.proofs.Started.{FromStart, from_start}
use Rattle.promises.proofs.CallLaws.{passes, check_exactly}
use Rattle.promises.proofs.CallPromises.{read_call_reads}
use Rattle.promises.proofs.StepIsRead.{Before, Stepped}
use Rattle.promises.proofs.RowsAreReads.{begins, moves_on, called, walked, from, rows_are_reads}

abbrev K : ℕ
K = variants_to_a_block

-- ---- what an accepted check tells

pub record Whole (file : List ℕ) (f : Fields) : Type 0 where
  pub bytes : Bytes file
  pub layout : Layout
  pub is_accepted : read_layout K file ≡ ok layout []
  pub fields_are : f ≡ fields_of (fixed_of layout)
  pub reads : (v : ℕ) → v < length layout.bodies → (row : List ℕ) × (read_variant K layout (file_variant v) ≡ ok row [])

module _ (file work : List ℕ) (y : Bytes file) (e : (check_call K file work).reply.verdict.refusal.number ≡ 0) where
  obeying : (g : File) × Obeys K g × (file ≡ file_bytes K g) × (g.samples ≤ length work)
  obeying = (check_exactly K file work (lit< tt) y).0 e

  abbrev g : File
  g = obeying.0

  abbrev l : Layout
  l = layout_of_file g

  header : read_layout K file ≡ ok l []
  unfolding file_bytes
  header = ap (read_layout K) obeying.2 ∙ layout_read_back K l (lit< tt) obeying.1.layout

  count : length l.bodies ≡ length g.bodies
  count = length-map g.bodies (body_bytes g.samples)

  its_fields : (check_call K file work).reply.fields ≡ fields_of (fixed_of l)
  unfolding check_call
  its_fields =
      ap (λ (out : Out Layout). given (λ (l : Layout). fields_of (fixed_of l)) no_fields out)
      (ap (λ (bs : List ℕ). check_out K bs work) obeying.2 ∙ passes K g work (lit< tt) obeying.1 obeying.3)

  pub whole : Whole file (check_call K file work).reply.fields
  whole = record {
    bytes = y;
    layout = l;
    is_accepted = header;
    fields_are = its_fields;
    reads = λ v h. (_, variant_reads K g (lit< tt) obeying.1 (file_variant v) (omega (arith, count)));
  }

  -- the check was lent a byte for each sample
  pub work_held : (check_call K file work).reply.fields.samples ≤ length work
  work_held = omega (arith, obeying.3, ap (λ (z : Fields). z.samples) its_fields)

-- ---- so each step is accepted, and the next variant's turn has come

module _ (file : List ℕ) (f : Fields) (w : Whole file f) (work₀ : List ℕ) (held : f.samples ≤ length work₀) where
  room : w.layout.samples ≤ length work₀
  room = omega (arith, ap (λ (z : Fields). z.samples) w.fields_are)

  pub first_before : Before w.layout work₀ 0 (first_row f) work₀
  first_before =
      subst (λ (z : Fields). Before w.layout work₀ 0 (first_row z) work₀) (sym w.fields_are)
      (begins file work₀ w.bytes w.layout w.is_accepted room)

  module _ (v : ℕ) (rows : Rows) (work output : List ℕ) (k : Before w.layout work₀ v rows work) (h : v < f.variants)
      (o : f.samples ≤ length output) where
    there : v < length w.layout.bodies
    there = omega (arith, ap (λ (z : Fields). z.variants) w.fields_are)

    its_step : Stepped w.layout work₀ v output (read_variant K w.layout (file_variant v)) (next_row_call rows file output work)
    its_step =
        moves_on file work₀ w.bytes w.layout w.is_accepted room v rows work output k there
        (omega (arith, ap (λ (z : Fields). z.samples) w.fields_are))

    pub row_accepted : (next_row_call rows file output work).verdict ≡ verdict (answer {A = Unit {0}} (Ok tt))
    row_accepted = its_step.verdict_is ∙ ap (λ (out : Out (List ℕ)). verdict out) (w.reads v there).1

    pub next_before : Before w.layout work₀ (suc v) (next_row_call rows file output work).rows (next_row_call rows file output work).work
    next_before = its_step.next

-- ---- the same of the calls

-- After an accepted check, started with a work area of N bytes and stepped: no row is refused.
pub no_row_refused : (file work : List ℕ) → Bytes file → (check_call K file work).reply.verdict.refusal.number ≡ 0
    → (work₁ : List ℕ) (rows : Rows) → start_rows_call file work₁ ≡ ok rows []
    → (outputs : ℕ → List ℕ) (v : ℕ) → v < rows.fields.variants → ((u : ℕ) → u < v → rows.fields.samples ≤ length (outputs u))
    → (output : List ℕ) → rows.fields.samples ≤ length output
    → (called file (walked file outputs (from rows work₁) v) output).verdict.refusal.number ≡ 0
no_row_refused file work y e work₁ rows s outputs v h each output o =
    let c = obeying file work y e in
    let f : File = c.0 in
    let b : FromStart file work₁ rows = from_start file work₁ rows y s in
    let same : b.layout ≡ layout_of_file f = ap (λ (out : Out Layout). given_or b.layout out) (sym b.is_accepted ∙ header file work y e) in
    let fields : rows.fields ≡ fields_of (fixed_of (layout_of_file f))
    = ap (λ (r : Rows). r.fields) b.rows_are ∙ ap (λ (l : Layout). fields_of (fixed_of l)) same in
    let n : rows.fields.samples ≡ f.samples = ap (λ (z : Fields). z.samples) fields in
    let m : rows.fields.variants ≡ length f.bodies = ap (λ (z : Fields). z.variants) fields ∙ count file work y e in
    let r : b.layout.samples ≡ f.samples = ap (λ (l : Layout). l.samples) same in
    ap (λ (z : Verdict). z.refusal.number) (rows_are_reads file work₁ rows y s outputs v each output).0
    ∙ ap (λ (bs : List ℕ). (read_call K bs (file_variant v) output work₁).verdict.refusal.number) c.2
    ∙ (read_call_reads K f (file_variant v) (lit< tt) c.1 (omega (arith, m)) output work₁ (omega (arith, n)) (omega (arith, b.room, r))).0
