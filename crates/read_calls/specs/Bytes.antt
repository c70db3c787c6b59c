-- The heterozygous ones of packed categories, byte by byte.
-- Assumes nothing.
use Rattle.std.specs.Prelude.{ℕ, ◌+◌, ◌/◌, ◌%◌, List, [], ◌∷◌}
use Rattle.base_calls.specs.CallCount.{call_count}

-- 01, Categories and kinds: "Packed: two bits per sample, lowest sample in the lowest bits." Those among the four of a byte
abbrev pub four_calls : ℕ → ℕ
four_calls b = call_count (b % 4) + (call_count (b / 4 % 4) + (call_count (b / 16 % 4) + call_count (b / 64)))

unfoldable pub byte_calls : List ℕ → ℕ
byte_calls [] = 0
byte_calls (b ∷ bs) = four_calls b + byte_calls bs
