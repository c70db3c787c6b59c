-- A packed array at a place, and numbers stored one after another.
-- Assumes nothing.
use Rattle.std.specs.Prelude.{◌≡◌, ℕ, zero, suc, ◌+◌, ◌/◌, ◌%◌, List, drop, set}
use Rattle.format.specs.Limits.{most_samples}
use Rattle.format.specs.Packed.{Bits, one, two}
use Rattle.head_index.specs.NumbersAt.{digit_at, unused_bits}
use Rattle.read_packed.specs.declared.Width.{Width}
use Rattle.read_packed.specs.declared.Width.TheVariants.{One, Two}

abbrev pub bits_of : Width → Bits
bits_of One = one
bits_of Two = two

-- an array has at most a number for each sample and one more: the presence bits of a phase track, with its first bit
abbrev pub most_numbers : ℕ
most_numbers = suc most_samples

-- number k of an array that starts at v
unfoldable pub number_in : Bits → List ℕ → ℕ → ℕ → ℕ
number_in bits l v k = digit_at bits (drop v l) k

-- the unused bits of n numbers from there on
unfoldable pub unused : Bits → List ℕ → ℕ → ℕ → ℕ
unused bits l v n = unused_bits bits n (drop v l)

-- what f gives for m numbers from k on, stored one after another
unfoldable pub store : (ℕ → ℕ) → ℕ → ℕ → List ℕ → List ℕ
store f zero k row = row
store f (suc m) k row = store f m (k + 1) (set row k (f k))

-- a number whose four bytes, the lowest first, are these
abbrev pub Spread : ℕ → ℕ → ℕ → ℕ → ℕ → Type 0
Spread x a b c d = (x % 256 ≡ a) × (x / 256 % 256 ≡ b) × (x / 65536 % 256 ≡ c) × (x / 16777216 ≡ d)

-- those four bytes, stored from `at` on
abbrev pub put : List ℕ → ℕ → ℕ → List ℕ
put row at x = set (set (set (set row at (x % 256)) (at + 1) (x / 256 % 256)) (at + 2) (x / 65536 % 256)) (at + 3) (x / 16777216)
