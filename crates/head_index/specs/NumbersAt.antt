-- What stands in bytes, by index, as code looks at it: numbers, the numbers of a packed array and its unused bits, the fixed fields.
-- Assumes nothing.
use Rattle.std.specs.Prelude.{ℕ, zero, suc, ◌+◌, ◌*◌, ◌/◌, ◌%◌, ◌^◌, List, [], ◌∷◌, drop, get_or, eqb}
use Rattle.format.specs.Base.{pick}
use Rattle.format.specs.Packed.{Bits, limit, more}
use Rattle.format.specs.Layout.{Fixed}

-- ---- numbers

-- 01, What the software covers: "All numbers are little-endian." The number in the first w bytes
unfoldable pub number_at : ℕ → List ℕ → ℕ
number_at zero bs = 0
number_at (suc w) bs = number_at w (drop 1 bs) * 256 + get_or bs 0 0

-- the first so many numbers of w bytes each
unfoldable pub numbers_at : ℕ → ℕ → List ℕ → List ℕ
numbers_at w zero bs = []
numbers_at w (suc count) bs = number_at w bs ∷ numbers_at w count (drop w bs)

-- ---- packed arrays

-- 01, The header: "packed types (low nibble first)". Number i of a packed array
unfoldable pub digit_at : Bits → List ℕ → ℕ → ℕ
digit_at bits bs i = get_or bs (i / suc (more bits)) 0 / limit bits ^ (i % suc (more bits)) % limit bits

-- so many of them, from number i on
unfoldable pub digits_at : Bits → List ℕ → ℕ → ℕ → List ℕ
digits_at bits bs i zero = []
digits_at bits bs i (suc count) = digit_at bits bs i ∷ digits_at bits bs (i + 1) count

-- 01, The header: "Each packed array ends at a byte boundary, and its unused bits are zero."
-- What n numbers leave of the last byte that they stand in: nothing where they fill it
unfoldable pub unused_bits : Bits → ℕ → List ℕ → ℕ
unused_bits bits n bs = pick (eqb (n % suc (more bits)) 0) 0 (get_or bs (n / suc (more bits)) 0 / limit bits ^ (n % suc (more bits)))

-- ---- the first twelve bytes

-- 01, The header: "Bytes 0 to 2: 0x6c 0x1b and the mode. Bytes 3 to 6: M. Bytes 7 to 10: N. Byte 11: the form."
unfoldable pub fixed_at : List ℕ → Fixed
fixed_at bs = record {
  magic = number_at 2 bs;
  mode = number_at 1 (drop 2 bs);
  variants = number_at 4 (drop 3 bs);
  samples = number_at 4 (drop 7 bs);
  form = number_at 1 (drop 11 bs);
}
