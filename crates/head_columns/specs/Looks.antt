-- What the looks at the arrays of every block find: the first type that is not allowed; the first offset that is wrong, or where the records end.
-- Both are for any arrays that the file may hold. Assumes nothing.
use Rattle.std.specs.Prelude.{◌≡◌, ℕ, ◌+◌, ◌-◌, ◌/◌, ◌<◌, List, ltb, Option, Some, Result, Ok, Err}
use Rattle.format.specs.declared.FileVariant.{FileVariant}
use Rattle.format.specs.Base.{pick}
use Rattle.format.specs.Limits.{variants_to_a_block}
use Rattle.format.specs.Variant.{file_variant}
use Rattle.format.specs.Layout.{Fixed, Arrays, sum, first_record}
use Rattle.head_index.specs.Rules.{bad_type, wrong_offset, starts_of}
use Rattle.head_blocks.specs.declared.Blocks.{Blocks}
use Rattle.head_blocks.specs.Parts.{Arranged}
use Rattle.head_columns.specs.declared.WrongOffset.{WrongOffset}

-- 8
pub record FirstBad (bs : List ℕ) (m : ℕ) (b : Blocks) (r : Option FileVariant) : Type 0 where
  pub is : (f : Fixed) (a : Arrays) (records : List ℕ) → Arranged bs m b f a records → r ≡ bad_type variants_to_a_block (file_variant 0) a.columns.types
  -- it is a variant of the file
  pub below : (v : FileVariant) → r ≡ Some v → v.0 < m

-- 9, with the first record at `first`
abbrev pub ending : ℕ → ℕ → ℕ → Result ℕ WrongOffset
ending wrong blocks end = pick (ltb wrong blocks) (Err (record { 0 = wrong })) (Ok end)

abbrev pub EndOfRecords : List ℕ → ℕ → Blocks → ℕ → Result ℕ WrongOffset → Type 0
EndOfRecords bs m b first r =
    (f : Fixed) (a : Arrays) (records : List ℕ) → Arranged bs m b f a records → first ≡ first_record variants_to_a_block f
    → r ≡ ending (wrong_offset 0 a.offsets (starts_of variants_to_a_block f a)) ((m + (variants_to_a_block - 1)) / variants_to_a_block)
    (first + sum a.columns.lengths)
