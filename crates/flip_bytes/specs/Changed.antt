-- Packed numbers changed where they stand: the first n of them, in bytes.
-- Assumes nothing.
use Rattle.std.specs.Prelude.{ℕ, zero, suc, ◌+◌, ◌-◌, ◌*◌, ◌/◌, ◌%◌, List, [], ◌∷◌, ◌++◌, take, drop}
use Rattle.format.specs.Category.{exchange}

-- f on the first n numbers of a byte x; b is their limit, and the byte has `room` of them. What is past them stays.
abbrev pub changed_byte : ℕ → (ℕ → ℕ) → ℕ → ℕ → ℕ → ℕ
changed_byte b f room zero x = x
changed_byte b f zero (suc n) x = x
changed_byte b f (suc room) (suc n) x = changed_byte b f room n (x / b) * b + f (x % b)

-- f on the first n numbers of bytes that have m + 1 each
unfoldable pub changed : ℕ → ℕ → (ℕ → ℕ) → ℕ → List ℕ → List ℕ
changed b m f n [] = []
changed b m f n (x ∷ xs) = changed_byte b f (suc m) n x ∷ changed b m f (n - suc m) xs

-- 01, Categories and kinds: "Kind 1: a pair code, a bit per sample". A flip that turns the pair's order complements them.
abbrev pub complement : ℕ → ℕ
complement zero = 1
complement (suc zero) = 0
complement (suc (suc n)) = suc (suc n)

-- the first n categories from byte `at` on with 0 and 2 exchanged; the first n bits from there complemented
abbrev pub values_exchanged : ℕ → ℕ → List ℕ → List ℕ
values_exchanged at n bs = take at bs ++ changed 4 3 exchange n (drop at bs)

abbrev pub bits_complemented : ℕ → ℕ → List ℕ → List ℕ
bits_complemented at n bs = take at bs ++ changed 2 7 complement n (drop at bs)
