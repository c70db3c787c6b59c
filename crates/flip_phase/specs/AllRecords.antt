-- The phases of all members of a file flipped. K is the number of variants to a block.
-- Assumes nothing.
use Rattle.std.specs.Prelude.{◌≡◌, ℕ, ◌≤◌, ◌<◌, Bool, false, List, [], ◌∷◌, map}
use Rattle.format.specs.declared.Fields.{Fields}
use Rattle.format.specs.declared.FileVariant.{FileVariant}
use Rattle.format.specs.Base.{Out, ok, refused}
use Rattle.format.specs.Limits.{variants_to_a_block}
use Rattle.format.specs.Body.{type_leans, type_phased, Body, body_bytes}
use Rattle.format.specs.Variant.{file_variant, next_variant}
use Rattle.format.specs.Layout.{fixed_of, arrays_of, joined, in_parts}
use Rattle.format.specs.Reply.{emptied}
use Rattle.format.specs.File.{File, layout_of_file, read_file}
use Rattle.head_blocks.specs.Parts.{fixed}
use Rattle.head_records.specs.Extent.{record_type}
use Rattle.flip_phase.specs.OneRecord.{turn_phases}

-- those of the records from variant v on
abbrev pub turn_all : (FileVariant → Bool) → FileVariant → List Body → List Body
turn_all member v [] = []
turn_all member v (body ∷ bodies) = turn_phases (member v) body ∷ turn_all member (next_variant v) bodies

abbrev pub records_bytes : ℕ → List Body → List ℕ
records_bytes N bodies = joined (map (body_bytes N) bodies)

-- in the file's bytes: its header stays
unfoldable pub phases_turned : ℕ → (FileVariant → Bool) → File → List ℕ
phases_turned K member g =
    in_parts K (fixed_of (layout_of_file g)) (arrays_of K (layout_of_file g)) (records_bytes g.samples (turn_all member (file_variant 0) g.bodies))

abbrev pub turned_if_read : ℕ → (FileVariant → Bool) → List ℕ → Out File → List ℕ
turned_if_read K member bs (ok g left) = phases_turned K member g
turned_if_read K member bs (refused why) = bs

unfoldable pub phases_flipped : ℕ → (FileVariant → Bool) → List ℕ → List ℕ
phases_flipped K member bs = turned_if_read K member bs (read_file K bs)

-- ---- what is told of the types

-- whether variant v leans, if there is one
pub record LeansIfAny (file : List ℕ) (f : Fields) (v : FileVariant) (leans : Bool) : Type 0 where
  pub is : v.0 < f.variants → leans ≡ type_leans (record_type variants_to_a_block (fixed f) file v)
  pub none : f.variants ≤ v.0 → leans ≡ false

-- no record has a phase track
pub record NonePhased (file : List ℕ) (f : Fields) : Type 0 where
  pub none : (v : ℕ) → v < f.variants → type_phased (record_type variants_to_a_block (fixed f) file (file_variant v)) ≡ false

pub record PhasedIfAny (file : List ℕ) (f : Fields) (any : Bool) : Type 0 where
  pub none : any ≡ false → NonePhased file f

-- ---- what is left

-- the file with the phases of members flipped, and the row's first n bytes zero
pub record AllPassed (member : FileVariant → Bool) (n : ℕ) (row file later row₁ : List ℕ) : Type 0 where
  pub file_is : later ≡ phases_flipped variants_to_a_block member file
  pub row_is : row₁ ≡ emptied n row
