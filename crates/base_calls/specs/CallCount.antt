-- What a call adds to H.
-- Assumes nothing.
use Rattle.std.specs.Prelude.{ℕ}
use Rattle.format.specs.Base.{pick}
use Rattle.format.specs.Phase.{heterozygous}

-- 02, Ask 1: "H is the number of samples in category 1."
unfoldable pub call_count : ℕ → ℕ
call_count category = pick (heterozygous category) 1 0
