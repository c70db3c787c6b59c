-- Numbers of w bytes, rows of them, and rows of bytes.
-- Assumes nothing.
use Rattle.std.specs.Prelude.{ℕ, zero, suc, ◌+◌, ◌*◌, ◌/◌, ◌%◌, List, [], ◌∷◌, ◌++◌}
use Rattle.format.specs.Base.{Out, ok, refuse, bind, map_out}

-- 01, What the software covers: "All numbers are little-endian." The first w bytes must be there (12).
unfoldable pub number_bytes : ℕ → ℕ → List ℕ
number_bytes zero n = []
number_bytes (suc w) n = n % 256 ∷ number_bytes w (n / 256)

unfoldable pub read_number : ℕ → ℕ → List ℕ → Out ℕ
read_number end zero bs = ok 0 bs
read_number end (suc w) [] = refuse 12 end
read_number end (suc w) (b ∷ bs) = map_out (λ (n : ℕ). n * 256 + b) (read_number end w bs)

-- several, one after another
unfoldable pub numbers_bytes : ℕ → List ℕ → List ℕ
numbers_bytes w [] = []
numbers_bytes w (n ∷ ns) = number_bytes w n ++ numbers_bytes w ns

unfoldable pub read_numbers : ℕ → ℕ → ℕ → List ℕ → Out (List ℕ)
read_numbers end w zero bs = ok [] bs
read_numbers end w (suc count) bs = bind (read_number end w bs) (λ n left. map_out (◌∷◌ n) (read_numbers end w count left))

-- so many bytes, as they are
unfoldable pub read_bytes : ℕ → ℕ → List ℕ → Out (List ℕ)
read_bytes end zero bs = ok [] bs
read_bytes end (suc count) [] = refuse 12 end
read_bytes end (suc count) (b ∷ bs) = map_out (◌∷◌ b) (read_bytes end count bs)
