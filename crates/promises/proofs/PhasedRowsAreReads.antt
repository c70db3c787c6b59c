-- Started on a file and stepped, the v-th step that gives phases besides categories gives exactly what `read` and the reading of phases of variant v give,
-- refusals too, whichever of the two calls each step before it was.
-- Assumes nothing.
use Rattle.std.specs.Prelude.{Err}
use mathlib.Core.Path.{◌≡◌, refl, sym, ap, ◌∙◌, subst}
use Prim.Native.Nat.{ℕ, zero, suc, min, ◌≤◌, ◌<◌}
use mathlib.Core.Bool.{Bool, true, false}
use mathlib.Core.List.{List, []}
use lib.ListN.{length}
use lib.Dec.{lit<}
use native.Mathlib.Omega.{arith}
use Rattle.format.specs.declared.Fields.{Fields}
use Rattle.format.specs.declared.Refusal.{Refusal}
use Rattle.format.specs.Base.{pick, Bytes, ok, refused, refusal, named, refuse_of}
use Rattle.format.specs.Variant.{no_variant}
use Rattle.format.specs.Limits.{most_samples, most_variants, variants_to_a_block}
use Rattle.format.specs.Layout.{fields_of, from_1_to, Layout, LayoutObeys, fixed_of}
use Rattle.format.specs.Reply.{check_call}
use Rattle.head_index.proofs.StoredLaws.{stored_whole}
use Rattle.call_rows.specs.declared.Rows.{Rows}
use Rattle.call_rows.specs.Calls.{start_rows_call, state_checked, Left, answered}
use Rattle.call_rows.specs.Phased.{phased_row_left, phased_stepped, next_phased_row_in, next_phased_row_call}
use Rattle.call_rows.proofs.Started.{FromStart, from_start}
use Rattle.call_rows.proofs.StateLaws.{short_output}
use Rattle.call_rows.proofs.RecordLaws.{not_next}
use Rattle.call_rows.proofs.PhasedRows.{phased_row_is_row}
use Rattle.promises.proofs.RowsAreReads.{At, after, called, walked, from, Reached, reach, rows_are_reads, fields_kept}
use Rattle.promises.proofs.CheckedRows.{no_row_refused}
use Rattle.promises.proofs.PhasedSteps.{both_called, AsBothRead, gives_both}

abbrev K : ℕ
K = variants_to_a_block

-- ---- the calls, one after another

-- what a step is lent; `both` says that it is the call for categories and phases, and the other call is lent no phases
pub record Lent : Type 0 where
  pub both : Bool
  pub output : List ℕ
  pub phases : List ℕ

-- each buffer that its call takes holds n bytes
pub record Room (n : ℕ) (lent : Lent) : Type 0 where
  pub output : n ≤ length lent.output
  pub phases : lent.both ≡ true → n ≤ length lent.phases

abbrev pub either_called : List ℕ → At → Lent → Left
either_called file at lent = pick lent.both (both_called file at lent.output lent.phases).row (called file at lent.output)

-- after v steps, each of one call or the other
unfoldable pub either_walked : List ℕ → (ℕ → Lent) → At → ℕ → At
either_walked file lent at zero = at
either_walked file lent at (suc v) = after (either_called file (either_walked file lent at v) (lent v))

-- ---- from a start

module _ (file work : List ℕ) (rows : Rows) (y : Bytes file) (e : start_rows_call file work ≡ ok rows []) (lent : ℕ → Lent) (v : ℕ)
    (each : (u : ℕ) → u < v → Room rows.fields.samples (lent u)) where
  abbrev outputs : ℕ → List ℕ
  outputs u = (lent u).output

  each_output : (u : ℕ) → u < v → rows.fields.samples ≤ length (outputs u)
  each_output u h = (each u h).output

  -- the state keeps the file's fields
  fields : (u : ℕ) → u ≤ v → (walked file outputs (from rows work) u).rows.fields ≡ rows.fields
  fields u h = fields_kept file work rows y e outputs u (λ w k. each_output w (omega arith))

  samples : (u : ℕ) → u ≤ v → (walked file outputs (from rows work) u).rows.fields.samples ≡ rows.fields.samples
  samples u h = ap (λ (f : Fields). f.samples) (fields u h)

  -- a step of either call leaves the same state and work area
  either_is : (at : At) (x : Lent) → at.rows.fields.samples ≡ rows.fields.samples → Room rows.fields.samples x
      → either_called file at x ≡ called file at x.output
  either_is at x s r = go x.both refl
    where
      go : (b : Bool) → x.both ≡ b → pick b (both_called file at x.output x.phases).row (called file at x.output) ≡ called file at x.output
      go true t = phased_row_is_row at.rows file x.output x.phases at.work (omega (arith, s, r.phases t))
      go false t = refl

  same_walk : (u : ℕ) → u ≤ v → either_walked file lent (from rows work) u ≡ walked file outputs (from rows work) u
  unfolding either_walked walked
  same_walk zero h = refl
  same_walk (suc u) h =
      ap (λ (at : At). after (either_called file at (lent u))) (same_walk u (omega arith))
      ∙ ap after (either_is (walked file outputs (from rows work) u) (lent u)
      (samples u (omega arith)) (each u (omega arith)))

  -- the state after v steps, and the work area
  abbrev reached : At
  reached = either_walked file lent (from rows work) v

  reached_is : reached ≡ walked file outputs (from rows work) v
  reached_is = same_walk v (omega arith)

  reached_fields : reached.rows.fields ≡ rows.fields
  reached_fields = ap (λ (at : At). at.rows.fields) reached_is ∙ fields v (omega arith)

  -- where both buffers hold N bytes, the v-th step gives what the two readings of variant v give
  pub phased_rows_are_reads : (output phases : List ℕ) → rows.fields.samples ≤ length output → rows.fields.samples ≤ length phases
      → AsBothRead file work v output phases (both_called file reached output phases)
  phased_rows_are_reads output phases o o₁ =
      let s : FromStart file work rows = from_start file work rows y e in
      let l : Layout = s.layout in
      let n : rows.fields.samples ≡ l.samples = ap (λ (r : Rows). r.fields.samples) s.rows_are in
      let there : At = walked file outputs (from rows work) v in
      let held : (u : ℕ) → u < v → l.samples ≤ length (outputs u) = λ u h. omega (arith, each_output u h, n) in
      let r : Reached file work y l s.is_accepted s.room v there
      = subst (λ (r : Rows). Reached file work y l s.is_accepted s.room v (walked file outputs (from r work) v)) (sym s.rows_are)
      (reach file work y l s.is_accepted s.room outputs v held) in
      subst (λ (at : At). AsBothRead file work v output phases (both_called file at output phases)) (sym reached_is)
      (gives_both file work y l s.is_accepted s.room v there output phases (omega (arith, n)) (omega (arith, n))
      (samples v (omega arith) ∙ n) r (rows_are_reads file work rows y e outputs v each_output output))

  -- where one of them is shorter, the step is refused with 10, which names M, and leaves all as it was
  abbrev no_room : Refusal
  no_room = named (no_variant rows.fields.variants) (refusal 10 0)

  pub short_phased_row : (output phases : List ℕ) → min (length output) (length phases) < rows.fields.samples
      → both_called file reached output phases ≡ phased_row_left (answered reached.rows (Err no_room)) output phases reached.work
  unfolding next_phased_row_call next_phased_row_in
  short_phased_row output phases h =
      let s : FromStart file work rows = from_start file work rows y e in
      let o : LayoutObeys K s.layout = (stored_whole K file s.layout (lit< tt) y s.is_accepted).obeys in
      let f : fields_of (fixed_of s.layout) ≡ reached.rows.fields = sym (reached_fields ∙ ap (λ (r : Rows). r.fields) s.rows_are) in
      let lent_both : ℕ = min (length output) (length phases) in
      let short : refused no_room ≡ state_checked reached.rows lent_both (length reached.work)
      = ap (λ (z : Fields). refuse_of (no_variant z.variants) 10 0) (sym reached_fields)
      ∙ short_output reached.rows lent_both (length reached.work)
      (subst (λ (z : Fields). from_1_to most_variants z.variants ≡ true) f o.fixed.variants)
      (subst (λ (z : Fields). from_1_to most_samples z.samples ≡ true) f o.fixed.samples)
      (omega (arith, ap (λ (z : Fields). z.samples) reached_fields)) in
      sym (ap (phased_stepped reached.rows file output phases reached.work)
      (not_next reached.rows file file lent_both (length reached.work) no_room short))

  -- after an accepted check no step below M is refused
  pub no_phased_row_refused : (work₁ : List ℕ) → (check_call K file work₁).reply.verdict.refusal.number ≡ 0 → v < rows.fields.variants
      → (output phases : List ℕ) → rows.fields.samples ≤ length output → rows.fields.samples ≤ length phases
      → (both_called file reached output phases).row.verdict.refusal.number ≡ 0
  no_phased_row_refused work₁ q h output phases o o₁ =
      ap (λ (left : Left). left.verdict.refusal.number)
      (phased_row_is_row reached.rows file output phases reached.work (omega (arith, ap (λ (z : Fields). z.samples) reached_fields))
      ∙ ap (λ (at : At). called file at output) reached_is)
      ∙ no_row_refused file work₁ y q work rows e outputs v h each_output output o
