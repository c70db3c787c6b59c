-- The calls: a refused one leaves each output and the file as they were; the whole-file check accepts exactly the files that obey.
-- Assumes nothing.
use mathlib.Core.Path.{◌≡◌, refl, ap, ◌∙◌, subst}
use Prim.Native.Nat.{ℕ, zero, ◌≤◌, ◌<◌}
use mathlib.Core.Bool.{Bool, true, false, not}
use mathlib.Core.Logic.{◌↔◌}
use mathlib.Core.List.{List, []}
use lib.ListN.{length, length-map}
use lib.Dec.{eqb, leb}
use native.Mathlib.Omega.{arith}
use borrow.Author.Tests.{leb-true, le-leb}
use Rattle.format.specs.declared.FileVariant.{FileVariant}
use Rattle.format.specs.Base.{Bytes, Out, ok, refused, bind, map_out, need, need_of}
use Rattle.format.specs.Body.{Body, body_bytes}
use Rattle.format.specs.Limits.{most_samples}
use Rattle.format.specs.Layout.{Layout, fixed_of, first_record}
use Rattle.format.specs.Header.{read_layout}
use Rattle.format.specs.File.{File, layout_of_file, file_bytes, Obeys, file_of, read_all, read_file}
use Rattle.format.specs.Writer.{write_record, write_phased}
use Rattle.format.specs.Reply.{refusal_of, given, no_fields, header_call, check_out, check_call, read_out, read_call, lookup_out, lookup_call}
use Rattle.format.specs.Body.{body_phases}
use Rattle.format.specs.Reply.{out_as, phases_call, view_out, view_call, write_call, write_phased_call, flip_out, flip_call}
use Rattle.format.specs.Variant.{file_variant, no_variant}
use Rattle.format.proofs.Refuses.{Refuses, Among, every, not_none}
use Rattle.format.proofs.CallRefusals.{check_numbers, check_refusals}
use Rattle.format.proofs.Rules.{Holds}
use Rattle.format.proofs.OffsetsLaws.{from_1_to_most}
use Rattle.format.proofs.HeaderLaws.{layout_read_back}
use Rattle.format.proofs.FileLaws.{records_read_back, IsFile, file_as_written}

-- ---- DEMAND 1: a refusal leaves every output and the file untouched

untouched : {A B : Type 0} (f : A → B) (before : B) (out : Out A) → ((refusal_of out).number ≡ 0 → ⊥) → given f before out ≡ before
untouched f before (ok a left) h = absurd (h refl)
untouched f before (refused why) h = refl

-- 01: "mode, M, N and the form byte (0 for each on a refusal)"
pub refused_header : (K : ℕ) (file : List ℕ) → ((header_call K file).verdict.refusal.number ≡ 0 → ⊥) → (header_call K file).fields ≡ no_fields
unfolding header_call
refused_header K file h = untouched _ no_fields (read_layout K file) h

pub refused_check : (K : ℕ) (file work : List ℕ) → ((check_call K file work).reply.verdict.refusal.number ≡ 0 → ⊥)
    → (check_call K file work).reply.fields ≡ no_fields
unfolding check_call
refused_check K file work h = untouched _ no_fields (check_out K file work) h

-- 01: "a lookup gives the category (0 on a refusal)"
pub refused_lookup : (K : ℕ) (file : List ℕ) (v : FileVariant) (sample : ℕ) (work : List ℕ)
    → ((lookup_call K file v sample work).verdict.refusal.number ≡ 0 → ⊥)
    → (lookup_call K file v sample work).category ≡ 0
unfolding lookup_call
refused_lookup K file v sample work h = untouched _ 0 (lookup_out K file v sample work) h

-- 01: "A refused view is the empty part."
pub refused_view : (K : ℕ) (file : List ℕ) (v : FileVariant) → ((view_call K file v).refusal.number ≡ 0 → ⊥) → (view_call K file v).part ≡ []
unfolding view_call
refused_view K file v h = untouched _ [] (view_out K file v) h

-- 01: "A read changes the output's first N bytes and no others", and a refused one none
pub refused_read : (K : ℕ) (file : List ℕ) (v : FileVariant) (output work : List ℕ) → ((read_call K file v output work).verdict.refusal.number ≡ 0 → ⊥)
    → (read_call K file v output work).output ≡ output
unfolding read_call
refused_read K file v output work h = untouched _ output (read_out K file v output work) h

pub refused_phases : (K : ℕ) (file : List ℕ) (v : FileVariant) (output work : List ℕ)
    → ((phases_call K file v output work).verdict.refusal.number ≡ 0 → ⊥) → (phases_call K file v output work).output ≡ output
unfolding phases_call
refused_phases K file v output work h = untouched _ output (out_as body_phases K file v output work) h

-- 01: "A refusal has count 0."
pub refused_count : (categories : List ℕ) (number code : ℕ) (lent output : List ℕ)
    → ((write_call categories number code lent output).verdict.refusal.number ≡ 0 → ⊥)
    → (write_call categories number code lent output).count ≡ 0
unfolding write_call
refused_count categories number code lent output h = untouched length 0 (write_record categories number code lent (length output)) h

pub refused_write : (categories : List ℕ) (number code : ℕ) (lent output : List ℕ)
    → ((write_call categories number code lent output).verdict.refusal.number ≡ 0 → ⊥)
    → (write_call categories number code lent output).output ≡ output
unfolding write_call
refused_write categories number code lent output h = untouched _ output (write_record categories number code lent (length output)) h

-- the same of a phased record
pub refused_phased_count : (categories phases : List ℕ) (number code : ℕ) (lent output : List ℕ)
    → ((write_phased_call categories phases number code lent output).verdict.refusal.number ≡ 0 → ⊥)
    → (write_phased_call categories phases number code lent output).count ≡ 0
unfolding write_phased_call
refused_phased_count categories phases number code lent output h =
    untouched length 0 (write_phased categories phases number code lent (length output)) h

pub refused_phased_write : (categories phases : List ℕ) (number code : ℕ) (lent output : List ℕ)
    → ((write_phased_call categories phases number code lent output).verdict.refusal.number ≡ 0 → ⊥)
    → (write_phased_call categories phases number code lent output).output ≡ output
unfolding write_phased_call
refused_phased_write categories phases number code lent output h =
    untouched _ output (write_phased categories phases number code lent (length output)) h

pub refused_flip : (K : ℕ) (file set work : List ℕ) → ((flip_call K file set work).verdict.refusal.number ≡ 0 → ⊥)
    → (flip_call K file set work).file ≡ file
unfolding flip_call
refused_flip K file set work h = untouched _ file (flip_out K file set work) h

-- ---- DEMAND 2, of the call: accepted exactly when it obeys

-- no class of refusals has the number 0: what gives it was accepted
pub accepted : {A : Type 0} (class : List ℕ) → every (λ (n : ℕ). not (eqb n 0)) class ≡ true → (out : Out A) → Refuses (Among class) out
    → (refusal_of out).number ≡ 0 → (a : A) × (left : List ℕ) × (out ≡ ok a left)
accepted class t (ok a left) h e = (a, left, refl)
accepted class t (refused why) h e = absurd (not_none class t (rw e at h))

-- what was accepted has passed its test
pub passed_of : {A : Type 0} (v : FileVariant) (t : Bool) (number place : ℕ) (next : Out A) (a : A) (left : List ℕ)
    → need_of v t number place next ≡ ok a left → (t ≡ true) × (next ≡ ok a left)
passed_of v true number place next a left e = (refl, e)
passed_of v false number place next a left e = let z : ◌≡◌ {A = ℕ} 0 1 = cc in absurd (omega arith)

pub passed : {A : Type 0} (t : Bool) (number place : ℕ) (next : Out A) (a : A) (left : List ℕ) → need t number place next ≡ ok a left
    → (t ≡ true) × (next ≡ ok a left)
passed t number place next a left e = passed_of (file_variant 0) t number place next a left e

-- what was accepted is what was read
pub itself : {A : Type 0} (m : Out A) → Holds (λ (a : A) (left : List ℕ). m ≡ ok a left) m
itself (ok a left) = refl
itself (refused why) = tt

-- a file has as many records as its layout
pub counted : (f : File) → length (layout_of_file f).bodies ≡ length f.bodies
counted f = length-map f.bodies (body_bytes f.samples)

-- the check of the records is the file's own
checked_file : (K : ℕ) (file work : List ℕ) (l : Layout) (left : List ℕ) → check_out K file work ≡ ok l left
    → (f : File) × (rest : List ℕ) × (read_file K file ≡ ok f rest) × (f.samples ≤ length work)
unfolding read_file
checked_file K file work l left e = header (read_layout K file) e
  where
    records : (m : Layout) (bodies : Out (List Body)) → leb m.samples (length work) ≡ true → map_out (λ (b : List Body). m) bodies ≡ ok l left
        → (f : File) × (rest : List ℕ) × (map_out (file_of m) bodies ≡ ok f rest) × (f.samples ≤ length work)
    records m (ok b r) t q = (file_of m b, r, refl, leb-true m.samples (length work) t)
    records m (refused why) t q = let z : ◌≡◌ {A = ℕ} 0 1 = cc in absurd (omega arith)

    sized : (m : Layout) (t : Bool) → leb m.samples (length work) ≡ t
        → need_of (no_variant (length m.bodies)) t 10 0 (map_out (λ (b : List Body). m) (read_all K m)) ≡ ok l left
        → (f : File) × (rest : List ℕ) × (map_out (file_of m) (read_all K m) ≡ ok f rest) × (f.samples ≤ length work)
    sized m true t q = records m (read_all K m) t q
    sized m false t q = let z : ◌≡◌ {A = ℕ} 0 1 = cc in absurd (omega arith)

    header : (out : Out Layout)
        → bind out (λ m r.
        need_of (no_variant (length m.bodies)) (leb m.samples (length work)) 10 0 (map_out (λ (b : List Body). m) (read_all K m))) ≡ ok l left
        → (f : File) × (rest : List ℕ) × (bind out (λ m r. map_out (file_of m) (read_all K m)) ≡ ok f rest) × (f.samples ≤ length work)
    header (ok m r) q = sized m (leb m.samples (length work)) refl q
    header (refused why) q = let z : ◌≡◌ {A = ℕ} 0 1 = cc in absurd (omega arith)

-- a file that obeys passes, with a work area for its samples
pub passes : (K : ℕ) (f : File) (work : List ℕ) → zero < K → Obeys K f → f.samples ≤ length work
    → check_out K (file_bytes K f) work ≡ ok (layout_of_file f) []
unfolding read_all file_bytes
passes K f work p h m =
    let l : Layout = layout_of_file f in
    let N : ℕ = f.samples in
    simp (
      layout_read_back K l p h.layout,
      le-leb N (length work) m,
      records_read_back N (file_variant 0) (first_record K (fixed_of l)) [] f.bodies (from_1_to_most most_samples N h.layout.fixed.samples) h.bodies,
    )

-- the call accepts a file exactly when it is the bytes of a file that obeys, and the work area holds its samples
pub check_exactly : (K : ℕ) (file work : List ℕ) → zero < K → Bytes file
    → ((check_call K file work).reply.verdict.refusal.number ≡ 0) ↔ ((f : File) × Obeys K f × (file ≡ file_bytes K f) × (f.samples ≤ length work))
unfolding check_call
check_exactly K file work p y = (
  λ e.
      let a = accepted check_numbers refl (check_out K file work) (check_refusals K file work p y) e in
      let c = checked_file K file work a.0 a.1 a.2 in
      let w : IsFile K file c.0 c.1 = subst (Holds (IsFile K file)) c.2 (file_as_written K file p y) in
      (c.0, w.obeys, w.written, c.3),
  λ h. ap (λ (out : Out Layout). (refusal_of out).number) (ap (λ (bs : List ℕ). check_out K bs work) h.2 ∙ passes K h.0 work p h.1 h.3),
)
