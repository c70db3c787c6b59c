-- What is known of a variant of a file that the header check accepts, and the place of its record.
-- Assumes nothing.
use mathlib.Core.Path.{◌≡◌, refl, sym, ap, ◌∙◌}
use Prim.Native.Nat.{ℕ, ◌+◌, ◌*◌, ◌≤◌, ◌<◌}
use mathlib.Core.Bool.{Bool, true}
use mathlib.Core.List.{List, []}
use lib.ListN.{length, get_or}
use lib.Dec.{lit<}
use mir.Syntax.{w64}
use mir.Val.{Fits}
use native.Mathlib.Omega.{arith}
use Rattle.format.specs.declared.FileVariant.{FileVariant}
use Rattle.format.specs.declared.Fields.{Fields}
use Rattle.format.specs.Limits.{most_samples, most_variants}
use Rattle.format.specs.Variant.{anchor}
use Rattle.format.specs.Layout.{Fixed, unblocked, fixed_size, first_record, Layout, record_start}
use Rattle.head_index.specs.Stored.{Stored}
use Rattle.head_index.proofs.StoredLaws.{stored_one}
use Rattle.head_index.proofs.StartLaws.{unblocked_start, stored_inside, record_end}
use Rattle.head_blocks.specs.Parts.{fixed}
use Rattle.head_blocks.proofs.Answers.{holds, fails}
use Rattle.head_check.proofs.UnblockedLaws.{records_small}
use Rattle.head_records.specs.Extent.{record_type, record_size}
use Rattle.head_records.proofs.AcceptedLaws.{fields_are, count_is, few_variants, few_samples, type_is, size_is}
use Rattle.head_places.specs.declared.Place.{Place}
use Rattle.head_places.specs.Located.{HasLayout, HasVariant, Starts, place_in, Located, Anchored}

-- ---- what is found holds for any layout that they stand for

module _ {index held : List ℕ} {f : Fields} {l : Layout} (s : Stored 65536 index held l) where
  pub one_layout : (h : HasLayout index held f) → h.layout ≡ l
  one_layout h = stored_one 65536 index held h.layout l (lit< tt) h.stored s

  pub located : {v : FileVariant} {p : Place} → Located index held f v p → p ≡ place_in l v
  located {v} p = p.is ∙ ap (λ (z : Layout). place_in z v) (one_layout p.has)

  pub anchored : {v x : FileVariant} → Anchored index held f v x → x ≡ anchor 65536 l.types v
  anchored {v} a = a.is ∙ ap (λ (z : Layout). anchor 65536 z.types v) (one_layout a.has)

-- ---- a variant that there is

-- a place, by its parts
same_place : (start end type : ℕ) (p : Place) → start ≡ p.start → end ≡ p.end → type ≡ p.record_type
    → ◌≡◌ {A = Place} (record { start = start; end = end; record_type = type }) p
same_place start end type p a b c = rw (a, b, c) refl

module _ {index held : List ℕ} {f : Fields} (h : HasLayout index held f) where
  pub variants_few : f.variants ≤ most_variants
  variants_few = few_variants h.stored h.fields_are

  pub samples_few : f.samples ≤ most_samples
  samples_few = few_samples h.stored h.fields_are

  module _ {v : FileVariant} (b : v.0 < f.variants) where
    pub below_in : v.0 < length h.layout.bodies
    below_in = omega (arith, count_is h.stored h.fields_are)

    -- its record is in the data
    pub record_ends : record_start 65536 h.layout v + length (get_or h.layout.bodies v.0 []) ≤ length held
    record_ends = stored_inside 65536 index held h.layout h.stored v below_in

    -- its place, from where it starts and the size and type that code read
    module _ {start size : ℕ} (s : start ≡ record_start 65536 h.layout v) (z : size ≡ record_size 65536 (fixed f) index v) where
      pub end_inside : start + size ≤ length held
      end_inside = omega (arith, size_is h.stored h.fields_are v below_in, record_ends)

      pub place_is : {type : ℕ} → type ≡ record_type 65536 (fixed f) index v
          → ◌≡◌ {A = Place} (record { start = start; end = start + size; record_type = type }) (place_in h.layout v)
      place_is {type} k =
          same_place start (start + size) type (place_in h.layout v) s
          (omega (arith, size_is h.stored h.fields_are v below_in, record_end 65536 v h.layout below_in))
          (k ∙ type_is h.stored h.fields_are v below_in)

-- ---- where its record starts, with no blocks: after as many equal ones

module _ {index held : List ℕ} {f : Fields} {v : FileVariant} (h : HasVariant index held f v) {size : ℕ} (z : size ≡ fixed_size (fixed f)) where
  records_before : v.0 * size ≤ 274877906944
  records_before = rw z (records_small v.0 f.samples (omega (arith, h.below, variants_few h.has)) (samples_few h.has))

  pub records_fit : Fits w64 (v.0 * size)
  records_fit = omega (arith, records_before)

  pub same_start_fits : {first : ℕ} → first ≤ 134217728 → Fits w64 (first + v.0 * size)
  same_start_fits m = omega (arith, records_before)

  pub same_start : {first : ℕ} {t : Bool} → first ≡ first_record 65536 (fixed f) → t ≡ unblocked f.mode → t ≡ true
      → Starts index held f v (first + v.0 * size)
  same_start d u e =
      let l : Layout = h.has.layout in
      let same : fixed f ≡ _ = fields_are h.has.stored h.has.fields_are in
      let mode : unblocked l.mode ≡ true = ap (λ (x : Fields). unblocked x.mode) (sym h.has.fields_are) ∙ holds u e in
      let t = sym (unblocked_start 65536 v l h.has.stored.obeys mode (omega (arith, below_in h.has h.below))) in
      record {
        has = h.has;
        is = rw (d ∙ ap (λ (x : Fixed). first_record 65536 x) same, z ∙ ap (λ (x : Fixed). fixed_size x) same) t;
      }

pub ruleset start_laws = (fails, variants_few, samples_few, records_fit, same_start_fits, same_start)

-- ---- its place, from where code found that it starts

module _ {index held : List ℕ} {f : Fields} {v : FileVariant} (h : HasVariant index held f v) {start : ℕ} (s : Starts index held f v start)
    {size : ℕ} (z : size ≡ record_size 65536 (fixed f) index v) where
  pub end_fits : Fits w64 (length held) → Fits w64 (start + size)
  end_fits m = omega (arith, end_inside s.has h.below s.is z)

  pub its_place : {type : ℕ} → type ≡ record_type 65536 (fixed f) index v
      → Located index held f v (record { start = start; end = start + size; record_type = type })
  its_place k = record { has = s.has; below = below_in s.has h.below; is = place_is s.has h.below s.is z k }

pub ruleset place_laws = (variants_few, samples_few, end_fits, its_place)
