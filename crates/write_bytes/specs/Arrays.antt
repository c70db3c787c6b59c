-- The two packed arrays that a record can hold of its samples.
-- Assumes nothing.
use Rattle.std.specs.Prelude.{ℕ, suc, List, map, drop, eqb}
use Rattle.format.specs.Packed.{Bits, one, two, limit, more, byte_of, packed}
use Rattle.format.specs.Track.{bit_number}
use Rattle.write_bytes.specs.declared.Array.{Array}
use Rattle.write_bytes.specs.declared.Array.TheVariants as array

abbrev pub width : Array → Bits
width array.Categories = two
width (array.Bits higher) = one

-- 01, Categories and kinds: 0, "the packed array"; 1, "a bit per sample (set: the higher category of the pair)"
abbrev pub numbers : Array → List ℕ → List ℕ
numbers array.Categories categories = categories
numbers (array.Bits higher) categories = map bit_number (map (λ (category : ℕ). eqb category higher) categories)

abbrev pub array_bytes : Array → List ℕ → List ℕ
array_bytes a categories = packed (width a) (numbers a categories)

-- the byte that begins with sample i
abbrev pub array_byte : Array → List ℕ → ℕ → ℕ
array_byte a categories i = byte_of (limit (width a)) (suc (more (width a))) (drop i (numbers a categories))
