-- What a read replies and leaves, by what its opening found and its record was found to be. What is read of the variant's body may be its categories or its
-- phases.
-- Assumes nothing.
use Rattle.std.specs.Prelude.{Result, Ok, Err, ⊤}
use mathlib.Core.Path.{◌≡◌, refl, sym, ap, ◌∙◌, subst}
use Prim.Native.Nat.{ℕ, min, ◌≤◌}
use mathlib.Core.Bool.{◌&&◌}
use mathlib.Core.List.{List, ◌++◌}
use lib.ListN.{length, drop}
use native.Mathlib.Omega.{arith}
use Rattle.format.specs.declared.FileVariant.{FileVariant}
use Rattle.format.specs.declared.Fields.{Fields}
use Rattle.format.specs.declared.Refusal.{Refusal}
use Rattle.format.specs.Base.{Out, ok, refused, bind}
use Rattle.format.specs.Limits.{variants_to_a_block}
use Rattle.format.specs.Body.{Body, body_categories}
use Rattle.format.specs.Layout.{Layout}
use Rattle.format.specs.File.{variant_as, read_variant}
use Rattle.format.specs.Reply.{Read, verdict, refusal_of, given, work_after, samples_of, holds_row, read_left, read_as, read_call}
use Rattle.call_open.specs.Open.{open_at_out, OpenAt, OpeningAt}
use Rattle.call_open.proofs.Callers.{ready_at, shut_at, through_at, holds_both, open_samples, samples_are, open_at_is}
use Rattle.head_places.proofs.AcceptedLaws.{one_layout}
use Rattle.read_file.specs.Rows.{HasVariantRow, VariantGiven}
use Rattle.read_file.proofs.Replies.{Given, given_as}
use Rattle.call_read.proofs.RowLaws.{variant_row}

abbrev K : ℕ
K = variants_to_a_block

abbrev pub read_from : ℕ → List ℕ → List ℕ → Out (List ℕ) → Read
read_from N output work m = record {
  verdict = verdict m;
  output = given (λ (row : List ℕ). row ++ drop N output) output m;
  work = work_after N (refusal_of m) work;
}

module _ (file : List ℕ) (v : FileVariant) (output work : List ℕ) (lent : ℕ) (both : lent ≡ min (length output) (length work))
    (r : Result Fields Refusal) (e : OpeningAt file v lent r) where
  module _ (what : ℕ → List ℕ → Body → List ℕ) where
    -- the reply, by what was opened: its opening has room in both buffers
    opened_as : (m : Out Layout) → open_at_out K file v lent ≡ m
        → read_from (samples_of K file) output work (bind m (λ l left. variant_as what K l v)) ≡ read_as what K file v output work
    opened_as m s =
        ap (read_from (samples_of K file) output work)
        (sym (through_at file lent (λ (l : Layout). holds_row output l && holds_row work l)
        (λ l. rw both (holds_both l.samples (length output) (length work))) v (λ (l : Layout). variant_as what K l v)
        ∙ ap (λ (m : Out Layout). bind m (λ l left. variant_as what K l v)) s))

    -- 1 to 11
    pub shut_as : (why : Refusal) → r ≡ Err why → read_left (Err why) output work ≡ read_as what K file v output work
    shut_as why q = let s = shut_at file v lent r why e q in simp s.keeps at (opened_as _ s.is)

  module _ (f : Fields) (q : r ≡ Ok f) where
    pub opened : OpenAt file v lent f
    opened = ready_at file v lent r f e q

    abbrev pub layout : Layout
    layout = opened.has.layout

    pub has_variant_row : (buffer : List ℕ) → f.samples ≤ length buffer → HasVariantRow file file f v buffer
    has_variant_row buffer room = variant_row file v lent f opened buffer room

    pub room_output : (output₁ : List ℕ) → length output₁ ≡ length output → f.samples ≤ length output₁
    room_output output₁ same = omega (arith, opened.has.room)

    pub room_work : (work₁ : List ℕ) → length work₁ ≡ length work → f.samples ≤ length work₁
    room_work work₁ same = omega (arith, opened.has.room)

    -- the reply, by what of the variant was read
    pub read_by : (what : ℕ → List ℕ → Body → List ℕ)
        → read_from f.samples output work (variant_as what K layout v) ≡ read_as what K file v output work
    read_by what =
        let n : samples_of K file ≡ f.samples = samples_are file lent f opened.has ∙ sym (open_samples file lent f opened.has) in
        ap (λ (N : ℕ). read_from N output work (variant_as what K layout v)) (sym n) ∙ opened_as what _ (open_at_is file v lent f opened)

-- ---- categories

module _ (file : List ℕ) (v : FileVariant) (output work : List ℕ) (lent : ℕ) (both : lent ≡ min (length output) (length work))
    (r : Result Fields Refusal) (e : OpeningAt file v lent r) where
  pub read_shut : (why : Refusal) → r ≡ Err why → read_left (Err why) output work ≡ read_call K file v output work
  unfolding read_call
  read_shut why q = shut_as file v output work lent both r e body_categories why q

  -- 12 to 18 and 23 to 25, or accepted
  pub read_given : (f : Fields) → r ≡ Ok f → (got : Result ⊤ Refusal) (output₁ work₁ : List ℕ)
      → VariantGiven file file f v output work got output₁ work₁ → read_left got output₁ work₁ ≡ read_call K file v output work
  unfolding read_call
  read_given f q got output₁ work₁ d =
      go (read_variant K l v) told ∙ read_by file v output work lent both r e f q body_categories
    where
      o : OpenAt file v lent f
      o = opened file v output work lent both r e f q

      l : Layout
      l = o.has.layout

      told : Given f.samples output got output₁ (read_variant K l v)
      told =
          subst (λ (z : Layout). Given f.samples output got output₁ (read_variant K z v)) (one_layout o.has.stored d.has.has)
          (given_as d o.has.bytes)

      go : (m : Out (List ℕ)) → Given f.samples output got output₁ m → read_left got output₁ work₁ ≡ read_from f.samples output work m
      go (ok row left) t = rw (t.0, t.1, d.cleared) refl
      go (refused why) t = rw (t.0, t.1, d.cleared, t.2) refl

pub ruleset room_laws = (has_variant_row, room_output, room_work)

pub ruleset read_laws = (read_shut, room_laws, read_given)
