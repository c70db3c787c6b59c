-- What the passes leave, by what they were told, and that of an accepted file it is the flip.
-- Assumes nothing.
use mathlib.Core.Path.{◌≡◌, ap, ap₂, ◌∙◌}
use Prim.Native.Nat.{ℕ, ◌≤◌}
use mathlib.Core.Bool.{Bool, true, false}
use mathlib.Core.List.{List}
use lib.Dec.{lit<}
use native.Mathlib.Omega.{arith}
use Rattle.format.specs.declared.FileVariant.{FileVariant}
use Rattle.format.specs.declared.Fields.{Fields}
use Rattle.format.specs.Base.{Bytes}
use Rattle.format.specs.Limits.{most_samples, most_variants, variants_to_a_block}
use Rattle.format.specs.Layout.{Fixed, unblocked, Layout, fixed_of, FixedObeys}
use Rattle.format.specs.File.{layout_of_file, flip_bytes}
use Rattle.format.proofs.OffsetsLaws.{from_1_to_most}
use Rattle.format.proofs.FileLaws.{file_exactly}
use Rattle.head_blocks.specs.Parts.{fixed}
use Rattle.head_blocks.proofs.Answers.{fails}
use Rattle.head_blocks.proofs.Sizes.{known_bytes}
use Rattle.flip_file.specs.Passes.{all_bodies, all_types, passes}
use Rattle.flip_phase.specs.Accepted.{Accepted}
use Rattle.flip_phase.specs.AllRecords.{phases_flipped}
use Rattle.flip_file.proofs.FileLaw.{in_place_is_flip}

module _ (bs : List ℕ) (y : Bytes bs) (f : Fields) (w : Accepted variants_to_a_block bs f) where
  abbrev l : Layout
  l = layout_of_file w.whole

  -- the fields are those of its layout
  fixed_is : fixed f ≡ fixed_of l
  fixed_is = ap fixed w.fields_are

  fixed_obeys : FixedObeys (fixed_of l)
  fixed_obeys = ((file_exactly variants_to_a_block bs w.whole (lit< tt) y).0 w.accepted).0.layout.fixed

  pub variants_few : f.variants ≤ most_variants
  variants_few = omega (arith, from_1_to_most most_variants (fixed_of l).variants fixed_obeys.variants, ap (λ (z : Fixed). z.variants) fixed_is)

  pub samples_few : f.samples ≤ most_samples
  samples_few = omega (arith, from_1_to_most most_samples l.samples fixed_obeys.samples, ap (λ (z : Fixed). z.samples) fixed_is)

  -- its phases flipped, then its main tracks and types
  pub accepted_flipped : (member : FileVariant → Bool) (phased : List ℕ) → phased ≡ phases_flipped variants_to_a_block member bs
      → (later : List ℕ) → later ≡ passes variants_to_a_block (fixed f) member phased → later ≡ flip_bytes variants_to_a_block member bs
  accepted_flipped member phased r later e =
      e
      ∙ ap₂ (λ (x : Fixed) (z : List ℕ). passes variants_to_a_block x member z) fixed_is r
      ∙ in_place_is_flip variants_to_a_block member bs w.whole (lit< tt) y w.accepted

pub ruleset accepted_laws = (known_bytes, variants_few, samples_few, accepted_flipped)

-- ---- the two passes

module _ (f : Fields) (member : FileVariant → Bool) (bs : List ℕ) (t : Bool) (e : t ≡ unblocked f.mode) (later : List ℕ)
    (d : later ≡ all_bodies variants_to_a_block (fixed f) member bs) where
  -- where there are no blocks the bodies are all
  pub passed_unblocked : t ≡ true → later ≡ passes variants_to_a_block (fixed f) member bs
  passed_unblocked z = rw (← e, z) d

  -- else the types too
  pub passed_typed : t ≡ false → (last : List ℕ) → last ≡ all_types variants_to_a_block (fixed f) member later
      → last ≡ passes variants_to_a_block (fixed f) member bs
  passed_typed z last k = rw (← e, z) (k ∙ ap (all_types variants_to_a_block (fixed f) member) d)

pub ruleset passes_laws = (fails, passed_unblocked, passed_typed)
