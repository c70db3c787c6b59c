-- What follows from what the steps of the header check hand on.
-- Assumes nothing.
use Rattle.std.specs.Prelude.{Ok, Err}
use mathlib.Core.Path.{◌≡◌, refl, ap, ◌∙◌}
use Prim.Native.Nat.{ℕ, ◌+◌, ◌≤◌}
use mathlib.Core.List.{List, []}
use lib.ListN.{length}
use lib.Dec.{lit<}
use Rattle.format.specs.declared.Fields.{Fields}
use Rattle.format.specs.declared.Refusal.{Refusal}
use Rattle.format.specs.Base.{Out, ok, refused, refuse, refuse_of}
use Rattle.format.specs.Limits.{most_samples, most_variants}
use Rattle.format.specs.Layout.{Fixed, Arrays, sum, header_end, first_record, Layout}
use Rattle.format.specs.Reply.{summary, header_left}
use Rattle.format.specs.Variant.{no_variant}
use Rattle.format.proofs.OffsetsLaws.{from_1_to_most, from_1_to_positive}
use Rattle.head_index.specs.NumbersAt.{fixed_at}
use Rattle.head_index.specs.Rules.{unused_arrays, after_fixed, after_offsets, layout_at}
use Rattle.head_index.specs.Known.{Passed}
use Rattle.head_index.proofs.RefusalsByIndexArrays.{refusal_7, passed_7}
use Rattle.head_index.proofs.RefusalsByIndexRecords.{refusal_9_end, accepted, accepted_variants}
use Rattle.head_blocks.specs.Parts.{fixed}
use Rattle.head_check.specs.Ready.{FieldsPassed, Held}

-- ---- the numbers of variants and samples

pub record Ranges (f : Fields) : Type 0 where
  pub variants_least : 1 ≤ f.variants
  pub variants_most : f.variants ≤ most_variants
  pub samples_least : 1 ≤ f.samples
  pub samples_most : f.samples ≤ most_samples

pub ranges : {bs : List ℕ} {f : Fields} → FieldsPassed bs f → Ranges f
ranges {f = f} h = record {
  variants_least = from_1_to_positive most_variants f.variants h.obeys.variants;
  variants_most = from_1_to_most most_variants f.variants h.obeys.variants;
  samples_least = from_1_to_positive most_samples f.samples h.obeys.samples;
  samples_most = from_1_to_most most_samples f.samples h.obeys.samples;
}

pub most_variants_passed : {bs : List ℕ} {f : Fields} → FieldsPassed bs f → f.variants ≤ most_variants
most_variants_passed h = (ranges h).variants_most

pub held_variants : {bs : List ℕ} {f : Fields} → Held bs f → f.variants ≤ most_variants
held_variants h = (ranges h.ready).variants_most

pub held_samples : {bs : List ℕ} {f : Fields} → Held bs f → f.samples ≤ most_samples
held_samples h = (ranges h.ready).samples_most

-- ---- the ends of the check

-- a refusal
pub refused_as : {why : Refusal} (m : Out Layout) → m ≡ refused why → header_left (Err why) ≡ summary m
refused_as m e = rw e refl

-- the header's M is the one that was read
pub names : {bs : List ℕ} {f : Fields} → FieldsPassed bs f → (number place : ℕ)
    → refuse_of {A = Layout} (no_variant (fixed_at bs).variants) number place ≡ refuse_of (no_variant f.variants) number place
names r number place = ap (λ (z : Fixed). refuse_of (no_variant z.variants) number place) r.same

module _ {bs : List ℕ} {f : Fields} (h : Held bs f) where
  fits : header_end 65536 (fixed_at bs) ≤ length bs
  fits = rw h.ready.same h.fits

  -- 7
  pub seven : (place : ℕ) → unused_arrays 65536 (fixed f) bs ≡ refuse 7 place → after_fixed 65536 bs ≡ refuse_of (no_variant f.variants) 7 place
  seven place u = refusal_7 65536 place bs h.ready.bytes fits (rw h.ready.same u) ∙ names h.ready 7 place

  pub beyond_7 : unused_arrays 65536 (fixed f) bs ≡ ok tt [] → (a : Arrays) × Passed 65536 bs a
  beyond_7 u = passed_7 65536 bs (lit< tt) h.ready.bytes fits (rw h.ready.same u)

  module _ (a : Arrays) (p : Passed 65536 bs a) {m : Out Layout} (e : m ≡ after_offsets 65536 bs a) where
    -- 9, at the file's end
    pub nine_end : (first_record 65536 (fixed f) + sum a.columns.lengths ≡ length bs → ⊥) → m ≡ refuse_of (no_variant f.variants) 9 (length bs)
    nine_end n = e ∙ refusal_9_end 65536 bs a p fits (λ q. n (rw h.ready.same at q)) ∙ names h.ready 9 (length bs)

    -- accepted
    pub accepts : first_record 65536 (fixed f) + sum a.columns.lengths ≡ length bs → header_left (Ok f) ≡ summary m
    accepts n =
        let q : first_record 65536 (fixed_at bs) + sum a.columns.lengths ≡ length bs = rw h.ready.same n in
        let k : length (layout_at 65536 bs a).bodies ≡ f.variants
        = accepted_variants 65536 bs a p ∙ ap (λ (z : Fixed). z.variants) h.ready.same in
        rw (e ∙ accepted 65536 bs a p q) (rw (k, h.ready.same) refl)
