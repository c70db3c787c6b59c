-- The turns of the two passes: what is left to do, done to the file as it is, gives the end.
-- Assumes nothing.
use mathlib.Core.Path.{◌≡◌, refl, ◌∙◌, sym}
use Prim.Native.Nat.{ℕ, suc, ◌+◌, ◌-◌, ◌≤◌, ◌<◌}
use native.Mathlib.Nat.{sub-zero}
use native.Mathlib.Numerals.{add-one}
use native.Mathlib.Omega.{arith}
use mathlib.Core.Bool.{Bool, true, false, not}
use mathlib.Core.List.{List}
use lib.ListN.{length}
use lib.Dec.{leb}
use mir.Syntax.{w64}
use mir.Val.{Fits}
use borrow.Author.Tests.{leb-true, not-true, not-false}
use Rattle.format.specs.declared.FileVariant.{FileVariant}
use Rattle.format.specs.Limits.{variants_to_a_block}
use Rattle.format.specs.Body.{type_leans}
use Rattle.format.specs.Variant.{file_variant}
use Rattle.format.specs.Layout.{Fixed, first_record}
use Rattle.format.specs.File.{next_anchor}
use Rattle.head_index.specs.VariantsAt.{type_at}
use Rattle.flip_body.specs.Edits.{flipped_in}
use Rattle.head_records.specs.Extent.{record_type, record_size}
use Rattle.flip_file.proofs.Ways.{read_small}
use Rattle.flip_file.specs.Passes.{bodies_flipped, all_bodies, type_flipped, types_flipped, all_types}

abbrev K : ℕ
K = variants_to_a_block

-- one less to do
left_over : (M v : ℕ) → v < M → M - v ≡ suc (M - suc v)
left_over M v h = omega arith

nothing_left : (M v : ℕ) → M ≤ v → M - v ≡ 0
nothing_left M v h = omega arith

-- ---- the bodies

pub record Bodies (f : Fixed) (member : FileVariant → Bool) (whole : List ℕ) (size : ℕ) (file : List ℕ) (v start : ℕ) (lent : Bool) : Type 0 where
  pub upto : v ≤ f.variants
  pub same : bodies_flipped K f member (f.variants - v) (file_variant v) start lent file ≡ whole
  pub kept : length file ≡ size

pub bodies_first : (f : Fixed) (member : FileVariant → Bool) (file : List ℕ) (start : ℕ) → start ≡ first_record K f
    → Bodies f member (all_bodies K f member file) (length file) file 0 start false
bodies_first f member file start e = record { upto = omega arith; same = rw (sub-zero f.variants, e) refl; kept = refl }

module _ {f : Fixed} {member : FileVariant → Bool} {whole : List ℕ} {size : ℕ} {file : List ℕ} {v start : ℕ} {lent : Bool}
    (i : Bodies f member whole size file v start lent) where
  pub bodies_last : f.variants ≤ v → file ≡ whole
  unfolding bodies_flipped
  bodies_last h = rw (nothing_left f.variants v h) at i.same

  module _ (h : v < f.variants) (z : ℕ) (t : Bool) (ez : z ≡ record_size K f file (file_variant v)) (et : t ≡ leb (start + z) (length file)) where
    -- whether it fits, by the format's own size
    test : leb (start + record_size K f file (file_variant v)) (length file) ≡ t
    test = sym (rw ez at et)

    pub bodies_stop : not t ≡ true → file ≡ whole
    unfolding bodies_flipped
    bodies_stop n = rw (left_over f.variants v h, test, not-true t n) at i.same

    pub inside : not t ≡ false → start + z ≤ length file
    inside n = leb-true (start + z) (length file) (sym et ∙ not-false t n)

    pub end_fits : not t ≡ false → Fits w64 size → Fits w64 (start + z)
    end_fits n l = omega (arith, inside n, i.kept)

    pub bodies_next : not t ≡ false → (type : ℕ) (o b : Bool) (g : List ℕ) → type ≡ record_type K f file (file_variant v) → o ≡ member (file_variant v)
        → g ≡ flipped_in start (start + z) f.samples type lent o file → length g ≡ length file → b ≡ next_anchor (type_leans type) lent o
        → Bodies f member whole size g (v + 1) (start + z) b
    unfolding bodies_flipped
    bodies_next n type o b g ey eo eg el eb = record {
      upto = omega arith;
      same = rw (eb, eg, ey, eo, ez, add-one) (rw (left_over f.variants v h, test, not-false t n) at i.same);
      kept = el ∙ i.kept;
    }

pub ruleset bodies_laws = (bodies_first, bodies_last, bodies_stop, inside, end_fits, bodies_next)

-- ---- the types

pub record Types (f : Fixed) (member : FileVariant → Bool) (whole : List ℕ) (size : ℕ) (file : List ℕ) (v : ℕ) (lent : Bool) : Type 0 where
  pub upto : v ≤ f.variants
  pub same : types_flipped K f member (f.variants - v) (file_variant v) lent file ≡ whole
  pub kept : length file ≡ size

pub types_first : (f : Fixed) (member : FileVariant → Bool) (file : List ℕ) → Types f member (all_types K f member file) (length file) file 0 false
types_first f member file = record { upto = omega arith; same = rw (sub-zero f.variants) refl; kept = refl }

module _ {f : Fixed} {member : FileVariant → Bool} {whole : List ℕ} {size : ℕ} {file : List ℕ} {v : ℕ} {lent : Bool}
    (i : Types f member whole size file v lent) where
  pub types_last : f.variants ≤ v → file ≡ whole
  unfolding types_flipped
  types_last h = rw (nothing_left f.variants v h) at i.same

  pub types_next : v < f.variants → (type : ℕ) (o b : Bool) (g : List ℕ) → type ≡ type_at K f file (file_variant v) → o ≡ member (file_variant v)
      → g ≡ type_flipped K f (file_variant v) lent o type file → length g ≡ length file → b ≡ next_anchor (type_leans type) lent o
      → Types f member whole size g (v + 1) b
  unfolding types_flipped
  types_next h type o b g et eo eg el eb = record {
    upto = omega arith;
    same = rw (eb, eg, et, eo, add-one) (rw (left_over f.variants v h) at i.same);
    kept = el ∙ i.kept;
  }

pub ruleset types_laws = (types_first, types_last, types_next, read_small)
