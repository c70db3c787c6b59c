-- A code byte and the table's row.
-- Assumes nothing.
use Rattle.std.specs.Prelude.{Some, None}
use mathlib.Core.Path.{◌≡◌}
use Prim.Native.Nat.{ℕ}
use borrow.Author.Tests.{ne_eqb}
use Rattle.format.specs.declared.Pair.{Pair}
use Rattle.format.specs.PairCode.{PairCode, pair, code_numbered, found}
use Rattle.format.proofs.PairLaws.{code_read_back}

-- the row of a code
pub row : (c : PairCode) {code : ℕ} {p : Pair} → code ≡ (pair c).code → p ≡ pair c → Some p ≡ found code
row c e d = rw (e, d, code_read_back c)

-- no row for any other byte
pub no_row : (n : ℕ) → (n ≡ 1 → ⊥) → (n ≡ 2 → ⊥) → (n ≡ 3 → ⊥) → (n ≡ 5 → ⊥) → (n ≡ 6 → ⊥) → (n ≡ 9 → ⊥) → None ≡ found n
unfolding code_numbered
no_row n a b c d e f = simp (ne_eqb n 1 a, ne_eqb n 2 b, ne_eqb n 3 c, ne_eqb n 5 d, ne_eqb n 6 e, ne_eqb n 9 f)
