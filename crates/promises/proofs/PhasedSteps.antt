-- A step that gives phases besides categories (02, Ask 1), from a state that stands before variant v: it gives exactly what `read` and the reading of phases
-- of variant v give, refusals too.
-- Assumes nothing.
use mathlib.Core.Path.{◌≡◌, refl, sym, ap, ◌∙◌, subst}
use Prim.Native.Nat.{ℕ, min, ◌≤◌, ◌<◌}
use mathlib.Core.Bool.{Bool, true, false}
use mathlib.Core.List.{List, [], ◌++◌}
use lib.ListN.{length, take, drop}
use lib.Dec.{lit<}
use native.Mathlib.Omega.{arith}
use borrow.Author.Tests.{le-leb, lt-ltb, le-ltb}
use Rattle.format.specs.declared.FileVariant.{FileVariant}
use Rattle.format.specs.Base.{pick, Bytes, Out, ok, refused, bind, map_out, refuse_of, naming}
use Rattle.format.specs.Limits.{variants_to_a_block}
use Rattle.format.specs.Body.{read_body, body_phases, Reading, body_reading}
use Rattle.format.specs.Variant.{file_variant, anchor, no_variant}
use Rattle.format.specs.Layout.{fields_of, Layout, LayoutObeys, fixed_of}
use Rattle.format.specs.Header.{read_layout}
use Rattle.format.specs.File.{variant_leans, read_over, over_as, variant_as, read_variant}
use Rattle.format.specs.Reply.{Verdict, verdict, given, out_as, read_out, read_call, phases_call}
use Rattle.format.proofs.Rules.{split}
use Rattle.format.proofs.RowLaws.{phases_anchor_unused}
use Rattle.format.proofs.ReadsLaws.{variant_map}
use Rattle.head_index.specs.Stored.{Stored}
use Rattle.head_index.proofs.StoredLaws.{stored_whole}
use Rattle.head_index.proofs.InOrderLaws.{stands_alike_as}
use Rattle.head_index.proofs.RecordTurns.{record_over}
use Rattle.head_places.specs.declared.Place.{Place}
use Rattle.head_places.specs.Located.{HasLayout, place_in, Located}
use Rattle.read_file.proofs.Cut.{body_is_bytes, body_is}
use Rattle.call_rows.specs.declared.Rows.{Rows}
use Rattle.call_rows.specs.Calls.{next_record}
use Rattle.call_rows.specs.Phased.{LeftPhased, next_phased_row_call}
use Rattle.call_rows.proofs.PhasedRows.{phased_row_is_row, phases_of_body, refused_phases}
use Rattle.promises.proofs.StepIsRead.{Told, was_accepted, was_refused, told_known, Before, follows, found_there}
use Rattle.promises.proofs.RowsAreReads.{At, called, AsRead, Reached, within, beyond}

abbrev K : ℕ
K = variants_to_a_block

-- a call for categories and phases, from a state and a work area
abbrev pub both_called : List ℕ → At → List ℕ → List ℕ → LeftPhased
both_called file at output phases = next_phased_row_call at.rows file output phases at.work

-- ---- what is to be shown

-- the refusal (number, place and variant) and the output are those of a read of variant v; the refusal and the phases those of the reading of its phases
pub record AsBothRead (file work : List ℕ) (v : ℕ) (output phases : List ℕ) (left : LeftPhased) : Type 0 where
  pub as_read : AsRead file work v output left.row
  pub verdict_of_phases : left.row.verdict ≡ (phases_call K file (file_variant v) phases work).verdict
  pub phases_are : left.phases ≡ (phases_call K file (file_variant v) phases work).output

-- ---- the two readings are refused alike

verdict_map : {A B : Type 0} (f : A → B) (m : Out A) → verdict (map_out f m) ≡ verdict m
verdict_map f (ok a left) = refl
verdict_map f (refused why) = refl

read_alike : (l : Layout) (v : FileVariant) → verdict (read_variant K l v) ≡ verdict (variant_as body_phases K l v)
read_alike l v =
    ap verdict (variant_map body_reading (λ (r : Reading). r.categories) K l v)
    ∙ verdict_map (λ (r : Reading). r.categories) (variant_as body_reading K l v)
    ∙ sym (verdict_map (λ (r : Reading). r.phases) (variant_as body_reading K l v))
    ∙ ap verdict (sym (variant_map body_reading (λ (r : Reading). r.phases) K l v))

-- ---- one step

module _ (file work₀ : List ℕ) (y : Bytes file) (l : Layout) (a : read_layout K file ≡ ok l []) (w₀ : l.samples ≤ length work₀) where
  abbrev N : ℕ
  N = l.samples

  abbrev M : ℕ
  M = length l.bodies

  stored : Stored K file file l
  stored = stored_whole K file l (lit< tt) y a

  obeys : LayoutObeys K l
  obeys = stored.obeys

  -- the reading of phases, where every buffer holds a row
  module _ (v : ℕ) (phases : List ℕ) (o : N ≤ length phases) where
    phases_one : v < M → out_as body_phases K file (file_variant v) phases work₀ ≡ variant_as body_phases K l (file_variant v)
    phases_one h = simp (a, le-leb N (length phases) o, le-leb N (length work₀) w₀, lt-ltb v M h)

    phases_none : M ≤ v → out_as body_phases K file (file_variant v) phases work₀ ≡ refuse_of (no_variant M) 11 0
    phases_none h = simp (a, le-leb N (length phases) o, le-leb N (length work₀) w₀, le-ltb v M h)

  -- ---- an accepted step

  module _ (v : ℕ) (rows : Rows) (work : List ℕ) (k : Before l work₀ v rows work) (b : v < M) where
    abbrev here : FileVariant
    here = file_variant v

    abbrev has : HasLayout file file (fields_of (fixed_of l))
    has = record { layout = l; stored = stored; fields_are = refl }

    -- a variant that reads, reads as its record does over the work area
    over_work : (row rest : List ℕ) → variant_as body_phases K l here ≡ ok row rest
        → map_out (body_phases N (take N work)) (record_over K l v (take N work)) ≡ ok row rest
    unfolding variant_as over_as
    over_work row rest e = go (variant_leans l here) refl e
      where
        told_over : Told N k.reply work (read_over K l [] (anchor K l.types here))
            → bind (read_over K l [] (anchor K l.types here)) (λ lent left. over_as body_phases K l lent here) ≡ ok row rest
            → map_out (body_phases N (take N work)) (record_over K l v (take N work)) ≡ ok row rest
        told_over (was_accepted left z q) e = sym (ap (λ (m : Out (List ℕ)). bind m (λ lent left. over_as body_phases K l lent here)) q) ∙ e
        told_over (was_refused why was c q) e =
            let never : ◌≡◌ {A = Out (List ℕ)} (refused why) (ok row rest)
            = sym (ap (λ (m : Out (List ℕ)). bind m (λ lent left. over_as body_phases K l lent here)) q) ∙ e in
            absurd (let z : ◌≡◌ {A = ℕ} 0 1 = cc in omega arith)

        go : (t : Bool) → variant_leans l here ≡ t
            → pick t (bind (read_over K l [] (anchor K l.types here)) (λ lent left. over_as body_phases K l lent here)) (over_as body_phases K l [] here)
            ≡ ok row rest
            → map_out (body_phases N (take N work)) (record_over K l v (take N work)) ≡ ok row rest
        go true t e = told_over (k.told b t) e
        go false t e =
            sym (stands_alike_as K l (lit< tt) obeys body_phases (phases_anchor_unused N) v (take N work) (body_is_bytes has y v) t) ∙ e

    module _ (output phases : List ℕ) (o : N ≤ length output) (o₁ : N ≤ length phases) where
      found_here : next_record rows file file (min (length output) (length phases)) (length work) ≡ ok (place_in l here) []
      found_here =
          rw k.state_is
          (found_there file file y l stored v b k.reply (min (length output) (length phases)) (length work) (omega arith) (omega (arith, k.holds))
          (follows file file y l stored v b k.reply (λ t. told_known (k.told b t))))

      -- its phases are those that the variant reads as
      filled : (row rest : List ℕ) → variant_as body_phases K l here ≡ ok row rest
          → (next_phased_row_call rows file output phases work).row.verdict.accepted ≡ true
          → (next_phased_row_call rows file output phases work).phases ≡ row ++ drop N phases
      filled row rest e q =
          let f = phases_of_body rows file output phases work (place_in l here) found_here q in
          let body = f.body in
          let left : List ℕ = f.rest in
          let n : rows.fields.samples ≡ N = ap (λ (r : Rows). r.fields.samples) k.state_is in
          let there : Located file file (fields_of (fixed_of l)) here (place_in l here) = record { has = has; below = b; is = refl } in
          let at : Place = place_in l here in
          let cut : List ℕ = take at.end file in
          let read : record_over K l v (take N work) ≡ ok body left
          = ap (naming here)
          (sym (body_is there (take N work))
          ∙ sym (ap (λ (z : ℕ). read_body (length cut) z (take z work) at.record_type (drop at.start cut)) n) ∙ f.is_read) in
          let same : ok (body_phases N (take N work) body) left ≡ ok row rest
          = sym (ap (map_out (body_phases N (take N work))) read) ∙ over_work row rest e in
          let its_phases : body_phases N (take N work) body ≡ row = cc in
          f.are_phases ∙ ap (λ (z : ℕ). body_phases z (take z work) body ++ drop z phases) n ∙ ap (λ (z : List ℕ). z ++ drop N phases) its_phases

  -- ---- any step from the state that v steps reached

  module _ (v : ℕ) (at : At) (output phases : List ℕ) (o : N ≤ length output) (o₁ : N ≤ length phases) (s : at.rows.fields.samples ≡ N)
      (r : Reached file work₀ y l a w₀ v at) (read : AsRead file work₀ v output (called file at output)) where
    abbrev left : LeftPhased
    left = both_called file at output phases

    row_is : left.row ≡ called file at output
    row_is = phased_row_is_row at.rows file output phases at.work (omega (arith, s))

    reads : AsRead file work₀ v output left.row
    reads = subst (AsRead file work₀ v output) (sym row_is) read

    -- what the reading of phases gives
    module _ (m : Out (List ℕ)) (e : out_as body_phases K file (file_variant v) phases work₀ ≡ m) where
      both_read : left.row.verdict ≡ verdict m → left.phases ≡ given (λ (row : List ℕ). row ++ drop N phases) phases m
          → AsBothRead file work₀ v output phases left
      unfolding phases_call
      both_read q filled = record {
        as_read = reads;
        verdict_of_phases = q ∙ ap verdict (sym e);
        phases_are =
            filled ∙ ap (given (λ (row : List ℕ). row ++ drop N phases) phases) (sym e)
            ∙ ap (λ (n : ℕ). given (λ (row : List ℕ). row ++ drop n phases) phases (out_as body_phases K file (file_variant v) phases work₀))
            (ap (λ (z : Out Layout). given (λ (l : Layout). l.samples) 0 z) (sym a));
      }

    -- where it is refused, so is the step, and the phases stay
    refused_both : (m : Out (List ℕ)) → out_as body_phases K file (file_variant v) phases work₀ ≡ m → left.row.verdict ≡ verdict m
        → (verdict m).accepted ≡ false → given (λ (row : List ℕ). row ++ drop N phases) phases m ≡ phases → AsBothRead file work₀ v output phases left
    refused_both m e q denied stay =
        both_read m e q (refused_phases at.rows file output phases at.work (ap (λ (z : Verdict). z.accepted) q ∙ denied) ∙ sym stay)

    none_there : M ≤ v → AsBothRead file work₀ v output phases left
    unfolding read_call
    none_there h =
        refused_both (refuse_of (no_variant M) 11 0) (phases_none v phases o₁ h)
        (reads.0 ∙ ap verdict (read_none h)) refl refl
      where
        read_none : M ≤ v → read_out K file (file_variant v) output work₀ ≡ refuse_of (no_variant M) 11 0
        read_none h = simp (a, le-leb N (length output) o, le-leb N (length work₀) w₀, le-ltb v M h)

    one_there : (h : v < M) → Before l work₀ v at.rows at.work → AsBothRead file work₀ v output phases left
    unfolding read_call
    one_there h k = go (variant_as body_phases K l (file_variant v)) refl
      where
        read_one : read_out K file (file_variant v) output work₀ ≡ read_variant K l (file_variant v)
        read_one = simp (a, le-leb N (length output) o, le-leb N (length work₀) w₀, lt-ltb v M h)

        its_verdict : left.row.verdict ≡ verdict (variant_as body_phases K l (file_variant v))
        its_verdict = reads.0 ∙ ap verdict read_one ∙ read_alike l (file_variant v)

        go : (m : Out (List ℕ)) → variant_as body_phases K l (file_variant v) ≡ m → AsBothRead file work₀ v output phases left
        go (refused why) e = refused_both (refused why) (phases_one v phases o₁ h ∙ e) (its_verdict ∙ ap verdict e) refl refl
        go (ok row rest) e =
            let q : left.row.verdict ≡ verdict {A = List ℕ} (ok row rest) = its_verdict ∙ ap verdict e in
            both_read (ok row rest) (phases_one v phases o₁ h ∙ e) q
            (filled v at.rows at.work k h output phases o o₁ row rest e (ap (λ (z : Verdict). z.accepted) q))

    pub gives_both : AsBothRead file work₀ v output phases left
    gives_both = go r
      where
        go : Reached file work₀ y l a w₀ v at → AsBothRead file work₀ v output phases left
        go (within k) = split M v none_there (λ h. one_there h k)
        go (beyond m k) = none_there m
