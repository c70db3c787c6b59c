-- A variant of a file that the header check accepts, and the place of its record. The file is stated as an index and the data that it speaks of, as in
-- head_index's `Stored`: a file in one piece is both. Each record says which layout they stand for; they stand for one.
-- Assumes nothing.
use Rattle.std.specs.Prelude.{◌≡◌, ℕ, ◌<◌, true, List, length}
use Rattle.format.specs.declared.FileVariant.{FileVariant}
use Rattle.format.specs.declared.Fields.{Fields}
use Rattle.format.specs.Limits.{variants_to_a_block}
use Rattle.format.specs.Body.{type_leans}
use Rattle.format.specs.Variant.{next_variant, anchor}
use Rattle.format.specs.Layout.{fields_of, Layout, fixed_of, record_start}
use Rattle.format.specs.File.{type_of}
use Rattle.head_index.specs.Stored.{Stored}
use Rattle.head_places.specs.declared.Place.{Place}

-- ---- what is given

-- a layout, and its fields
pub record HasLayout (index held : List ℕ) (f : Fields) : Type 0 where
  pub layout : Layout
  pub stored : Stored variants_to_a_block index held layout
  pub fields_are : f ≡ fields_of (fixed_of layout)

-- and a variant
pub record HasVariant (index held : List ℕ) (f : Fields) (v : FileVariant) : Type 0 where
  pub has : HasLayout index held f
  pub below : v.0 < f.variants

-- that leans on an anchor
pub record HasLeaner (index held : List ℕ) (f : Fields) (v : FileVariant) : Type 0 where
  pub has : HasVariant index held f v
  pub leaner : type_leans (type_of has.has.layout v) ≡ true

-- ---- what is found

-- where its record starts
pub record Starts (index held : List ℕ) (f : Fields) (v : FileVariant) (start : ℕ) : Type 0 where
  pub has : HasLayout index held f
  pub is : start ≡ record_start variants_to_a_block has.layout v

-- where it starts, where it ends, and its type
abbrev pub place_in : Layout → FileVariant → Place
place_in l v = record {
  start = record_start variants_to_a_block l v;
  end = record_start variants_to_a_block l (next_variant v);
  record_type = type_of l v;
}

pub record Located (index held : List ℕ) (f : Fields) (v : FileVariant) (p : Place) : Type 0 where
  pub has : HasLayout index held f
  pub below : v.0 < length has.layout.bodies
  pub is : p ≡ place_in has.layout v

-- the variant x that it leans on
pub record Anchored (index held : List ℕ) (f : Fields) (v x : FileVariant) : Type 0 where
  pub has : HasLayout index held f
  pub below : x.0 < f.variants
  pub is : x ≡ anchor variants_to_a_block has.layout.types v
