-- Demand 2 of the calls themselves: the header check accepts exactly the headers that obey, and a view is accepted where the variant is there too; a read and
-- a lookup of a file that obeys give what the format defines.
-- Assumes nothing.
use mathlib.Core.Path.{◌≡◌, refl, sym, ap, ◌∙◌, subst}
use Prim.Native.Nat.{ℕ, zero, ◌≤◌, ◌<◌}
use mathlib.Core.Bool.{true}
use mathlib.Core.Logic.{◌↔◌}
use mathlib.Core.List.{List, [], ◌++◌}
use lib.ListN.{length, take, drop, get_or, replicate}
use lib.Dec.{ltb, leb}
use native.Mathlib.Omega.{arith}
use borrow.Author.Tests.{ltb-true, le-leb, lt-ltb}
use Rattle.format.specs.declared.FileVariant.{FileVariant}
use Rattle.format.specs.Base.{Bytes, Out, ok, refused, bind}
use Rattle.format.specs.Classes.{header_numbers}
use Rattle.format.specs.Body.{Body, body_categories, body_phases}
use Rattle.format.specs.Layout.{Layout, layout_bytes, record_start, LayoutObeys}
use Rattle.format.specs.Header.{read_layout}
use Rattle.format.specs.File.{File, layout_of_file, file_bytes, rows, phase_rows, Obeys, read_variant, variant_as}
use Rattle.format.specs.Reply.{refusal_of, given, header_call, need_variant, read_as, read_call, phases_call, lookup_call, view_out, view_call}
use Rattle.format.proofs.Rules.{Holds, by_test, by_bind, by_need_of}
use Rattle.format.proofs.HeaderLaws.{layout_read_back, IsLayout, layout_as_written}
use Rattle.format.proofs.HeaderRefusals.{header_refusals}
use Rattle.format.proofs.CallRefusals.{view_numbers, view_refusals}
use Rattle.format.proofs.ReadsLaws.{variant_reads, variant_phases}
use Rattle.head_index.proofs.StartLaws.{body_length_at, body_at_is}
use Rattle.promises.proofs.CallLaws.{accepted, counted}

-- DEMAND 2: the header check accepts a file exactly when it is the bytes of a layout that obeys
pub header_call_exactly : (K : ℕ) (file : List ℕ) → zero < K → Bytes file
    → ((header_call K file).verdict.refusal.number ≡ 0) ↔ ((l : Layout) × LayoutObeys K l × (file ≡ layout_bytes K l))
unfolding header_call
header_call_exactly K file p y = (
  λ e.
      let a = accepted header_numbers refl (read_layout K file) (header_refusals K file) e in
      let w : IsLayout K file a.0 a.1 = subst (Holds (IsLayout K file)) a.2 (layout_as_written K file p y) in
      (a.0, w.obeys, w.written),
  λ h. ap (λ (out : Out Layout). (refusal_of out).number) (ap (read_layout K) h.2 ∙ layout_read_back K h.0 p h.1),
)

-- a view of a variant that is there, of a layout that obeys
view_passes : (K : ℕ) (l : Layout) (v : FileVariant) → zero < K → LayoutObeys K l → v.0 < length l.bodies
    → view_out K (layout_bytes K l) v ≡ ok l []
view_passes K l v p h there = simp (layout_read_back K l p h, lt-ltb v.0 (length l.bodies) there)

-- 01: "A view checks 1 to 9 and 11 only": it is accepted exactly when the header obeys and the variant is there
pub view_exactly : (K : ℕ) (file : List ℕ) (v : FileVariant) → zero < K → Bytes file
    → ((view_call K file v).refusal.number ≡ 0) ↔ ((l : Layout) × LayoutObeys K l × (file ≡ layout_bytes K l) × (v.0 < length l.bodies))
unfolding view_call
view_exactly K file v p y =
    let Q : Layout → List ℕ → Type 0 = λ seen left. (l : Layout) × LayoutObeys K l × (file ≡ layout_bytes K l) × (v.0 < length l.bodies) in (
      λ e.
          let a = accepted view_numbers refl (view_out K file v) (view_refusals K file v) e in
          subst (Holds Q) a.2
          (by_bind (IsLayout K file) Q (read_layout K file) _ (layout_as_written K file p y) (λ l left w.
          by_need_of Q _ (ltb v.0 (length l.bodies)) 11 0 _ (λ t. (l, w.obeys, w.written, ltb-true v.0 (length l.bodies) t)))),
      λ h. ap (λ (out : Out Layout). (refusal_of out).number) (ap (λ (bs : List ℕ). view_out K bs v) h.2 ∙ view_passes K h.0 v p h.1 h.3),
    )

-- and then it is the record's bytes
pub view_gives : (K : ℕ) (l : Layout) (v : FileVariant) → zero < K → LayoutObeys K l → v.0 < length l.bodies
    → (view_call K (layout_bytes K l) v).part ≡ get_or l.bodies v.0 []
unfolding view_call
view_gives K l v p h there = ap (given (λ (seen : Layout). get_or seen.bodies v.0 []) []) (view_passes K l v p h there)

-- from where the record starts
pub view_starts : (K : ℕ) (l : Layout) (v : FileVariant) → zero < K → LayoutObeys K l → v.0 < length l.bodies
    → (view_call K (layout_bytes K l) v).start ≡ record_start K l v
unfolding view_call
view_starts K l v p h there = ap (given (λ (seen : Layout). record_start K seen v) 0) (view_passes K l v p h there)

module _ (K : ℕ) (f : File) (v : FileVariant) (p : zero < K) (h : Obeys K f) (there : v.0 < length f.bodies) where
  -- the categories that the format defines, and the phases
  abbrev row : List ℕ
  row = get_or (rows f.samples [] f.bodies) v.0 []

  abbrev phase_row : List ℕ
  phase_row = get_or (phase_rows f.samples [] f.bodies) v.0 []

  -- whatever a variant of a file that obeys reads as, a call gives it
  as_read : (what : ℕ → List ℕ → Body → List ℕ) (value : List ℕ) → variant_as what K (layout_of_file f) v ≡ ok value [] → (output work : List ℕ)
      → f.samples ≤ length output → f.samples ≤ length work
      → ((read_as what K (file_bytes K f) v output work).verdict.refusal.number ≡ 0)
      × ((read_as what K (file_bytes K f) v output work).output ≡ value ++ drop f.samples output)
      × ((read_as what K (file_bytes K f) v output work).work ≡ replicate f.samples 0 ++ drop f.samples work)
  unfolding file_bytes
  as_read what value reads output work o w =
      let l : Layout = layout_of_file f in
      let header : read_layout K (layout_bytes K l) ≡ ok l [] = layout_read_back K l p h.layout in
      let short : leb f.samples (length output) ≡ true = le-leb f.samples (length output) o in
      let shorter : leb f.samples (length work) ≡ true = le-leb f.samples (length work) w in
      let below : ltb v.0 (length l.bodies) ≡ true = lt-ltb v.0 (length l.bodies) (omega (arith, counted f)) in
      (simp (header, short, shorter, below, reads), simp (header, short, shorter, below, reads), simp (header, short, shorter, below, reads))

  -- DEMAND 2: a variant of a file that obeys is read as the format defines
  pub read_call_reads : (output work : List ℕ) → f.samples ≤ length output → f.samples ≤ length work
      → ((read_call K (file_bytes K f) v output work).verdict.refusal.number ≡ 0)
      × ((read_call K (file_bytes K f) v output work).output ≡ row ++ drop f.samples output)
      × ((read_call K (file_bytes K f) v output work).work ≡ replicate f.samples 0 ++ drop f.samples work)
  unfolding read_call
  read_call_reads output work o w = as_read body_categories row (variant_reads K f p h v there) output work o w

  -- and so are its phases
  pub phases_call_reads : (output work : List ℕ) → f.samples ≤ length output → f.samples ≤ length work
      → ((phases_call K (file_bytes K f) v output work).verdict.refusal.number ≡ 0)
      × ((phases_call K (file_bytes K f) v output work).output ≡ phase_row ++ drop f.samples output)
      × ((phases_call K (file_bytes K f) v output work).work ≡ replicate f.samples 0 ++ drop f.samples work)
  unfolding phases_call
  phases_call_reads output work o w = as_read body_phases phase_row (variant_phases K f p h v there) output work o w

  -- and so is each of its samples
  pub lookup_call_reads : (sample : ℕ) (work : List ℕ) → sample < f.samples → f.samples ≤ length work
      → ((lookup_call K (file_bytes K f) v sample work).verdict.refusal.number ≡ 0)
      × ((lookup_call K (file_bytes K f) v sample work).category ≡ get_or row sample 0)
  unfolding lookup_call file_bytes
  lookup_call_reads sample work s w =
      let l : Layout = layout_of_file f in
      let header : read_layout K (layout_bytes K l) ≡ ok l [] = layout_read_back K l p h.layout in
      let short : leb f.samples (length work) ≡ true = le-leb f.samples (length work) w in
      let below : ltb v.0 (length l.bodies) ≡ true = lt-ltb v.0 (length l.bodies) (omega (arith, counted f)) in
      let inside : ltb sample f.samples ≡ true = lt-ltb sample f.samples s in
      let reads : read_variant K l v ≡ ok row [] = variant_reads K f p h v there in
      (simp (header, short, below, inside, reads), simp (header, short, below, inside, reads))

-- what is handed back for a layout, or for none, stands in the file
abbrev InFile : (K : ℕ) (file : List ℕ) (v : FileVariant) → Out Layout → Type 0
InFile K file v m =
    given (λ (l : Layout). get_or l.bodies v.0 []) [] m
    ≡ take (length (given (λ (l : Layout). get_or l.bodies v.0 []) [] m)) (drop (given (λ (l : Layout). record_start K l v) 0 m) file)

-- 01: "hands back the bytes of one record as a part of the caller's file": they are the file's bytes from where the part starts
pub view_is_part : (K : ℕ) (file : List ℕ) (v : FileVariant) → zero < K → Bytes file
    → (view_call K file v).part ≡ take (length (view_call K file v).part) (drop (view_call K file v).start file)
unfolding view_call
view_is_part K file v p y = go (read_layout K file) (layout_as_written K file p y)
  where
    go : (m : Out Layout) → Holds (IsLayout K file) m → InFile K file v (bind m (λ l left. need_variant v l (ok l [])))
    go (refused why) w = refl
    go (ok l left) w =
        by_test (InFile K file v) (ltb v.0 (length l.bodies))
        (λ t.
        let there : v.0 < length l.bodies = ltb-true v.0 (length l.bodies) t in
        sym (rw (body_length_at v l, ← w.written) at (body_at_is K v l p w.obeys there)))
        (λ t. refl)
