-- The sizes that a file may have.
-- Assumes nothing.
use Rattle.std.specs.Prelude.{ℕ}

-- 01, What the software covers: "samples N from 1 to 65,536; variants M from 1 to 16,777,216"
abbrev pub most_samples : ℕ
most_samples = 65536

abbrev pub most_variants : ℕ
most_variants = 16777216

-- 01, The header: "blocks of 65,536 variants, the last may be shorter". The definitions take it as a parameter, K, so that small blocks can be tried.
abbrev pub variants_to_a_block : ℕ
variants_to_a_block = 65536
