-- The ways out of the look for the next record, and what is known where it is found.
-- Assumes nothing.
use Rattle.std.specs.Prelude.{Result, Ok, Err, ⊤}
use mathlib.Core.Path.{◌≡◌, refl, sym, ap, ◌∙◌, subst}
use Prim.Native.Nat.{ℕ, ◌+◌, ◌-◌, ◌≤◌, ◌<◌}
use mathlib.Core.Bool.{Bool, true, false, not, ◌&&◌, ◌||◌}
use mathlib.Core.List.{List, []}
use lib.ListN.{length}
use lib.Dec.{eqb, leb}
use native.Mathlib.Omega.{arith}
use borrow.Author.Tests.{leb-true, le-leb, lt-leb, not-true, not-false}
use Rattle.format.specs.declared.BlockVariant.{BlockVariant}
use Rattle.format.specs.declared.Refusal.{Refusal}
use Rattle.format.specs.Base.{pick, Out, ok, refused, bind, refuse_of}
use Rattle.format.specs.Limits.{variants_to_a_block}
use Rattle.format.specs.Body.{type_leans}
use Rattle.format.specs.Variant.{in_block, no_variant}
use Rattle.format.specs.Layout.{unblocked, fixed_type, type_allowed}
use Rattle.format.specs.Header.{type_place}
use Rattle.format.specs.Reply.{answer}
use Rattle.format.proofs.Rules.{Holds, by_bind, never_both, both, by_need_of}
use Rattle.head_index.specs.VariantsAt.{type_at}
use Rattle.head_blocks.specs.Parts.{fixed}
use Rattle.head_blocks.proofs.Answers.{holds, fails}
use Rattle.head_records.specs.Extent.{record_type, record_size}
use Rattle.head_places.specs.declared.Place.{Place}
use Rattle.format.proofs.AnchorLaws.{allowed}
use Rattle.call_rows.specs.declared.Rows.{Rows}
use Rattle.call_rows.specs.declared.RowStep.{RowStep}
use Rattle.call_rows.specs.Calls.{state_checked, record_of, anchor_told, type_follows, record_checked, found, next_record, answered, row_left}
use Rattle.call_rows.specs.Calls.{over_nothing, over_anchor, stepped, next_row_in, next_row_call, Standing, RowReady}
use Rattle.call_rows.proofs.StateLaws.{refused_as, Passed, all_passed, passed}

abbrev K : ℕ
K = variants_to_a_block

-- ---- `record_checked`

-- where there are no blocks every type may follow
never_leans : (rows : Rows) → type_follows rows 0 ≡ true
unfolding type_follows
never_leans rows = go (eqb (in_block K rows.variant).0 0)
  where
    go : (b : Bool) → not (b && false) && true ≡ true
    go true = refl
    go false = refl

module _ (rows : Rows) (index held : List ℕ) where
  abbrev type : ℕ
  type = record_type K (fixed rows.fields) index rows.variant

  abbrev size : ℕ
  size = record_size K (fixed rows.fields) index rows.variant

  denied_blocked : type_follows rows type ≡ false → unblocked rows.fields.mode ≡ false
  unfolding record_type
  denied_blocked = go (unblocked rows.fields.mode)
    where
      go : (b : Bool) → type_follows rows (pick b (fixed_type (fixed rows.fields)) (type_at K (fixed rows.fields) index rows.variant)) ≡ false
          → b ≡ false
      go true h = never_both (never_leans rows) h
      go false h = refl

  no_type : type_follows rows type ≡ false → refuse_of rows.variant 8 (type_place K (fixed rows.fields) rows.variant) ≡ record_checked rows index held
  unfolding record_checked record_of
  no_type h = simp h

  module _ (t : type_follows rows type ≡ true) where
    no_end : length held < rows.start + size → refuse_of (no_variant rows.fields.variants) 9 (length held) ≡ record_checked rows index held
    unfolding record_checked record_of
    no_end h = simp (lt-leb, t)

    pub record_there : rows.start + size ≤ length held
        → ◌≡◌ {A = Out Place} (ok (record { start = rows.start; end = rows.start + size; record_type = type }) []) (record_checked rows index held)
    unfolding record_checked record_of
    record_there h = simp (le-leb, t)

  -- in the code's own terms: the type that was read
  module _ (a : Bool) (k : ℕ) (g : a ≡ type_follows rows k) (d : k ≡ type) where
    denied : not a ≡ true → type_follows rows type ≡ false
    denied t = sym (g ∙ ap (type_follows rows) d) ∙ not-true a t

    pub denied_there : not a ≡ true → unblocked rows.fields.mode ≡ false
    denied_there t = denied_blocked (denied t)

    pub no_type_at : not a ≡ true → (place : ℕ) → place ≡ type_place K (fixed rows.fields) rows.variant
        → refuse_of rows.variant 8 place ≡ record_checked rows index held
    no_type_at t place e = rw e (no_type (denied t))

    module _ (t : not a ≡ false) (s : ℕ) (z : s ≡ size) where
      granted : type_follows rows type ≡ true
      granted = sym (g ∙ ap (type_follows rows) d) ∙ not-false a t

      pub starts_past : length held < rows.start → refuse_of (no_variant rows.fields.variants) 9 (length held) ≡ record_checked rows index held
      starts_past h = no_end granted (omega arith)

      module _ (b : rows.start ≤ length held) where
        pub ends_past : length held - rows.start < s → refuse_of (no_variant rows.fields.variants) 9 (length held) ≡ record_checked rows index held
        ends_past h = no_end granted (omega arith)

        pub there : s ≤ length held - rows.start
            → ◌≡◌ {A = Out Place} (ok (record { start = rows.start; end = rows.start + s; record_type = k }) []) (record_checked rows index held)
        there h = rw (d, z) (record_there granted (omega arith))

pub ruleset record_laws = (refused_as, denied_there, no_type_at, starts_past, ends_past, there)

-- ---- `next_record`

module _ (rows : Rows) (index held : List ℕ) (output work : ℕ) where
  -- the state was refused
  pub not_next : (why : Refusal) → refused why ≡ state_checked rows output work → refused why ≡ next_record rows index held output work
  unfolding next_record
  not_next why e = ap (λ (m : Out (Unit {0})). bind m (λ checked left. record_checked rows index held)) e

  -- and where it was not
  pub next_is : ok tt [] ≡ state_checked rows output work → record_checked rows index held ≡ next_record rows index held output work
  unfolding next_record
  next_is e = ap (λ (m : Out (Unit {0})). bind m (λ checked left. record_checked rows index held)) e

  module _ (r : Result ⊤ Refusal) (told : answer r ≡ state_checked rows output work) where
    pub state_refused : (why : Refusal) → r ≡ Err why → refused why ≡ next_record rows index held output work
    state_refused why q = not_next why (rw q at told)

    module _ (q : r ≡ Ok tt) where
      pub standing : Standing rows
      standing = (passed rows output work r told q).standing

      pub looked_for : (x : Result Place Refusal) → found x ≡ record_checked rows index held → found x ≡ next_record rows index held output work
      looked_for x e = e ∙ next_is (rw q at told)

pub ruleset next_record_laws = (state_refused, standing, looked_for)

-- ---- where it is found

-- `lent` is the shortest length of the buffers that are to hold a row, besides the work area's
pub all_known : (rows : Rows) (index held : List ℕ) (lent : ℕ) (work : List ℕ)
    → Holds (λ (p : Place) (left : List ℕ). RowReady rows held p work × (rows.fields.samples ≤ lent)) (next_record rows index held lent (length work))
unfolding next_record record_checked record_of type_follows
all_known rows index held lent work =
    by_bind (λ (u : Unit {0}) (left : List ℕ). Passed rows lent (length work)) _ (state_checked rows lent (length work)) _
    (all_passed rows lent (length work)) (λ u left q.
    by_need_of _ _ (type_follows rows (record_of rows index).record_type) 8 _ _ (λ t.
    by_need_of _ _ (leb (record_of rows index).end (length held)) 9 (length held) _ (λ e.
    let b : BlockVariant = in_block K rows.variant in
    let type : ℕ = (record_of rows index).record_type in
    let known = allowed b type (both (type_allowed b type) (not (type_leans type) || anchor_told rows.anchor) t).0 in (
      record {
        few_variants = omega (arith, q.standing.below, q.standing.few_variants);
        few_samples = q.standing.few_samples;
        work_holds = q.work_holds;
        rises = omega arith;
        inside = leb-true (record_of rows index).end (length held) e;
        kind_known = known.2;
      },
      q.output_holds,
    ))))

module _ (rows : Rows) (index held output work : List ℕ) where
  abbrev looked : Out Place
  looked = next_record rows index held (length output) (length work)

  pub not_found : (why : Refusal) → refused why ≡ looked → row_left (answered rows (Err why)) output work ≡ next_row_in rows index held output work
  unfolding next_row_in
  not_found why e = ap (stepped rows held output work) e

  -- what the code was told
  module _ (r : Result Place Refusal) (told : found r ≡ looked) where
    pub refused_there : (why : Refusal) → r ≡ Err why
        → row_left (answered rows (Err why)) output work ≡ next_row_in rows index held output work
    refused_there why q = not_found why (rw q at told)

    module _ (p : Place) (q : r ≡ Ok p) where
      at_place : ok p [] ≡ looked
      at_place = rw q at told

      known_there : RowReady rows held p work × (rows.fields.samples ≤ length output)
      known_there =
          subst (Holds (λ (p : Place) (left : List ℕ). RowReady rows held p work × (rows.fields.samples ≤ length output))) (sym at_place)
          (all_known rows index held (length output) work)

      pub ready : RowReady rows held p work
      ready = known_there.0

      pub output_holds : rows.fields.samples ≤ length output
      output_holds = known_there.1

      -- the two ways on
      module _ (t : Bool) (k : t ≡ type_leans p.record_type) (step : RowStep) (output₁ work₁ : List ℕ) where
        pub stepped_leaning : t ≡ true → row_left step output₁ work₁ ≡ over_anchor rows held p output work
            → row_left step output₁ work₁ ≡ next_row_in rows index held output work
        unfolding next_row_in
        stepped_leaning s d = rw (← at_place, ← k, s) d

        pub stepped_alone : t ≡ false → row_left step output₁ work₁ ≡ over_nothing rows held p output work
            → row_left step output₁ work₁ ≡ next_row_in rows index held output work
        unfolding next_row_in
        stepped_alone s d = rw (← at_place, ← k, s) d

pub ruleset next_laws = (ready, output_holds, holds, fails, refused_there, stepped_leaning, stepped_alone)

-- ---- of a file in one piece

pub in_one_piece : (rows : Rows) (file output work : List ℕ) (step : RowStep) (output₁ work₁ : List ℕ)
    → row_left step output₁ work₁ ≡ next_row_in rows file file output work → row_left step output₁ work₁ ≡ next_row_call rows file output work
unfolding next_row_call
in_one_piece rows file output work step output₁ work₁ e = e
