-- The contracts: what a file's records, as the format reads them, leave in a row. The file is stated as an index and the data that it speaks of, as the
-- contracts of places are.
-- Assumes nothing.
use Rattle.std.specs.Prelude.{◌≡◌, ℕ, ◌≤◌, ◌<◌, List, [], ◌++◌, length, drop, Result, Ok, Err, ⊤}
use Rattle.format.specs.declared.Refusal.{Refusal}
use Rattle.format.specs.declared.FileVariant.{FileVariant}
use Rattle.format.specs.declared.Fields.{Fields}
use Rattle.format.specs.Base.{pick, Out, ok, refused}
use Rattle.format.specs.Limits.{variants_to_a_block}
use Rattle.format.specs.Body.{Reading, body_reading}
use Rattle.format.specs.Variant.{anchor}
use Rattle.format.specs.Layout.{Layout}
use Rattle.format.specs.Reply.{emptied}
use Rattle.format.specs.File.{read_all, variant_leans, read_over, variant_as, read_variant}
use Rattle.head_blocks.specs.Parts.{fixed}
use Rattle.head_records.specs.Extent.{record_type}
use Rattle.head_places.specs.Located.{HasLayout, HasVariant}
use Rattle.read_record.specs.Recorded.{replied, RecordLeft, record_left, PhasedLeft, phased_left}
use Rattle.read_check.specs.Straight.{straight_replied}

-- ---- what is given

-- a layout, and a row that has a byte for each sample
pub record HasRow (index held : List ℕ) (f : Fields) (row : List ℕ) : Type 0 where
  pub has : HasLayout index held f
  pub room : f.samples ≤ length row

-- and a variant
pub record HasVariantRow (index held : List ℕ) (f : Fields) (v : FileVariant) (row : List ℕ) : Type 0 where
  pub has : HasVariant index held f v
  pub room : f.samples ≤ length row

-- ---- what is found

-- the type of variant v, if there is one
pub record TypeIfAny (index : List ℕ) (f : Fields) (v : FileVariant) (type : ℕ) : Type 0 where
  pub is : v.0 < f.variants → type ≡ record_type variants_to_a_block (fixed f) index v

-- ---- what is left

-- every record, in variant order
abbrev pub all_checked : Layout → List ℕ → RecordLeft
all_checked l row = record_left (replied (read_all variants_to_a_block l)) (emptied l.samples row)

pub record RecordsChecked (index held : List ℕ) (f : Fields) (row : List ℕ) (r : Result ⊤ Refusal) (later : List ℕ) : Type 0 where
  pub has : HasLayout index held f
  pub is : record_left r later ≡ all_checked has.layout row

-- categories in the row's first N bytes; after a refusal they are zero
abbrev pub row_replied : ℕ → List ℕ → Out (List ℕ) → RecordLeft
row_replied N row (ok categories left) = record_left (Ok tt) (categories ++ drop N row)
row_replied N row (refused why) = record_left (Err why) (emptied N row)

-- of the anchor of a variant that leans; for another nothing is read
abbrev pub anchor_left : Layout → FileVariant → List ℕ → RecordLeft
anchor_left l v row =
    pick (variant_leans l v)
    (row_replied l.samples row (read_over variants_to_a_block l [] (anchor variants_to_a_block l.types v)))
    (record_left (Ok tt) row)

pub record AnchorRead (index held : List ℕ) (f : Fields) (v : FileVariant) (row : List ℕ) (r : Result ⊤ Refusal) (later : List ℕ) : Type 0 where
  pub has : HasVariant index held f v
  pub is : record_left r later ≡ anchor_left has.has.layout v row

-- of a variant over its anchor
abbrev pub row_read : Layout → FileVariant → List ℕ → RecordLeft
row_read l v row = row_replied l.samples row (read_variant variants_to_a_block l v)

pub record VariantRead (index held : List ℕ) (f : Fields) (v : FileVariant) (row : List ℕ) (r : Result ⊤ Refusal) (later : List ℕ) : Type 0 where
  pub has : HasVariant index held f v
  pub is : record_left r later ≡ row_read has.has.layout v row

-- 02, Ask 3: "straight to the output": its categories in the output's first N bytes, and after a refusal it is as it was; the row's first N bytes are zero
pub record VariantGiven (index held : List ℕ) (f : Fields) (v : FileVariant) (output row : List ℕ) (r : Result ⊤ Refusal) (out later : List ℕ) : Type 0 where
  pub has : HasVariant index held f v
  pub is : record_left r out ≡ straight_replied has.has.layout.samples output (read_variant variants_to_a_block has.has.layout v)
  pub cleared : later ≡ emptied f.samples row

-- and phases in the output's first N bytes; after a refusal it is as it was
abbrev pub reading_replied : ℕ → List ℕ → List ℕ → Out Reading → PhasedLeft
reading_replied N row output (ok reading left) = phased_left (Ok tt) (reading.categories ++ drop N row) (reading.phases ++ drop N output)
reading_replied N row output (refused why) = phased_left (Err why) (emptied N row) output

abbrev pub row_phased : Layout → FileVariant → List ℕ → List ℕ → PhasedLeft
row_phased l v row output = reading_replied l.samples row output (variant_as body_reading variants_to_a_block l v)

pub record VariantPhased (index held : List ℕ) (f : Fields) (v : FileVariant) (row output : List ℕ) (r : Result ⊤ Refusal) (later out : List ℕ) : Type 0 where
  pub has : HasVariant index held f v
  pub is : phased_left r later out ≡ row_phased has.has.layout v row output
