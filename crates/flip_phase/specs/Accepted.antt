-- Demand 2: a file that the whole-file check accepts, and its fields. K is the number of variants to a block.
-- Assumes nothing.
use Rattle.std.specs.Prelude.{◌≡◌, ℕ, List, []}
use Rattle.format.specs.declared.Fields.{Fields}
use Rattle.format.specs.Base.{ok}
use Rattle.format.specs.Layout.{fields_of, fixed_of}
use Rattle.format.specs.File.{File, layout_of_file, read_file}

pub record Accepted (K : ℕ) (bs : List ℕ) (f : Fields) : Type 0 where
  pub whole : File
  pub accepted : read_file K bs ≡ ok whole []
  pub fields_are : f ≡ fields_of (fixed_of (layout_of_file whole))
