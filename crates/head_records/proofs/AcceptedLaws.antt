-- What is known of an index whose layout obeys, and what code reads of its variants.
-- Assumes nothing.
use mathlib.Core.Path.{◌≡◌, ap, ◌∙◌}
use Prim.Native.Nat.{ℕ, ◌≤◌, ◌<◌}
use native.Mathlib.Omega.{arith}
use mathlib.Core.List.{List, []}
use lib.ListN.{length, get_or}
use lib.Dec.{lit<}
use Rattle.format.specs.declared.FileVariant.{FileVariant}
use Rattle.format.specs.declared.Fields.{Fields}
use Rattle.format.specs.Limits.{most_samples, most_variants}
use Rattle.format.specs.Layout.{fields_of, Layout, fixed_of}
use Rattle.format.specs.File.{type_of}
use Rattle.format.proofs.OffsetsLaws.{from_1_to_most}
use Rattle.head_index.specs.Stored.{Stored}
use Rattle.head_index.proofs.StoredLaws.{stored_header}
use Rattle.head_index.proofs.StartLaws.{body_length_at}
use Rattle.head_blocks.specs.Parts.{fixed}
use Rattle.head_records.specs.Extent.{record_type, record_size}
use Rattle.head_records.proofs.FoundLaws.{types_found, sizes_found}

module _ {index held : List ℕ} {l : Layout} (s : Stored 65536 index held l) where
  -- it has its first twelve bytes
  pub long : 12 ≤ length index
  long = omega (arith, stored_header 65536 index held l s (lit< tt))

  pub samples_most : l.samples ≤ most_samples
  samples_most = from_1_to_most most_samples l.samples s.obeys.fixed.samples

  pub variants_most : length l.bodies ≤ most_variants
  variants_most = from_1_to_most most_variants (length l.bodies) s.obeys.fixed.variants

  -- the header's fields are the layout's
  module _ {f : Fields} (e : f ≡ fields_of (fixed_of l)) where
    pub fields_are : fixed f ≡ fixed_of l
    fields_are = ap fixed e

    pub count_is : f.variants ≡ length l.bodies
    count_is = ap (λ (z : Fields). z.variants) e

    pub samples_are : f.samples ≡ l.samples
    samples_are = ap (λ (z : Fields). z.samples) e

    pub few_variants : f.variants ≤ most_variants
    few_variants = omega (arith, variants_most, count_is)

    pub few_samples : f.samples ≤ most_samples
    few_samples = omega (arith, samples_most, samples_are)

    -- so are a variant's type and size
    module _ (v : FileVariant) (b : v.0 < length l.bodies) where
      pub type_is : record_type 65536 (fixed f) index v ≡ type_of l v
      type_is = rw (fields_are, s.index_is) (types_found 65536 l (lit< tt) s.obeys s.after v b)

      pub size_is : record_size 65536 (fixed f) index v ≡ length (get_or l.bodies v.0 [])
      size_is = rw (fields_are, s.index_is) (sizes_found 65536 l (lit< tt) s.obeys s.after v b) ∙ body_length_at v l
