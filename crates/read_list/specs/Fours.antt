-- Four entries of a list that are put at once: their steps take a byte each, and their values fill one.
-- Assumes nothing.
use Rattle.std.specs.Prelude.{◌≡◌, ℕ, zero, suc, ◌+◌, ◌/◌, ◌%◌, ◌^◌, ◌≤◌, ◌<◌, List, length, get_or, set}
use Rattle.std.specs.Int.{w64}
use Rattle.std.proofs.Common.{Fits}

-- so many steps from `at` on take a byte each
pub record Single (l : List ℕ) (at count : ℕ) : Type 0 where
  pub each : (j : ℕ) → j < count → get_or l (at + j) 0 < 128

-- of `left` entries to come the next four are such; `passed` entries are passed
pub record FourNext (l : List ℕ) (at passed left : ℕ) : Type 0 where
  pub starts : passed % 4 ≡ 0
  pub enough : 4 ≤ left
  pub inside : at + 4 ≤ length l
  pub fits : Fits w64 (at + 4)
  pub single : Single l at 4

-- the sample that so many steps lead to
abbrev pub sample_after : List ℕ → ℕ → ℕ → ℕ → ℕ
sample_after l at last zero = last
sample_after l at last (suc j) = sample_after l at last j + get_or l (at + j) 0

-- so many values of a byte, each put at its sample
abbrev pub values_put : List ℕ → ℕ → ℕ → ℕ → ℕ → List ℕ → List ℕ
values_put l at packed last zero row = row
values_put l at packed last (suc j) row = set (values_put l at packed last j row) (sample_after l at last (suc j)) (packed / 4 ^ j % 4)

-- the steps are there, and the row has their samples
pub record FourThere (l : List ℕ) (at last : ℕ) (row : List ℕ) : Type 0 where
  pub inside : at + 4 ≤ length l
  pub below : sample_after l at last 4 < length row
  pub fits : Fits w64 (sample_after l at last 4)
