-- The values of a list.
-- Assumes nothing.
use Rattle.std.specs.Prelude.{ℕ, List, [], ◌∷◌, eqb}
use Rattle.format.specs.Base.{pick}
use Rattle.format.specs.Packed.{two, packed}
use Rattle.format.specs.Difflist.{Entry, values}

-- 01, Difference lists: "ceil(L/4) bytes of 2-bit values"
abbrev pub values_bytes : List Entry → List ℕ
values_bytes es = packed two (values es)

-- the value that the list has for a sample, unless it is the base's
abbrev pub sample_values : ℕ → ℕ → List ℕ
sample_values base value = pick (eqb value base) [] (value ∷ [])
