-- H by its calls, one after another.
-- Assumes nothing.
use mathlib.Core.Path.{◌≡◌}
use Prim.Native.Nat.{ℕ, suc, ◌+◌, ◌≤◌}
use native.Mathlib.Omega.{arith}
use mathlib.Core.Bool.{Bool, true, false}
use mathlib.Core.List.{List, ◌∷◌}
use lib.Dec.{eqb}
use mir.Val.{bool_byte}
use Rattle.format.specs.Base.{pick}
use Rattle.format.specs.Phase.{heterozygous, heterozygous_count}
use Rattle.base_calls.specs.CallCount.{call_count}

-- what `call_count` adds up
pub call_adds : (category : ℕ) (b : Bool) → b ≡ heterozygous category → bool_byte b ≡ call_count category
unfolding call_count
call_adds category true e = rw (← e)
call_adds category false e = rw (← e)

-- ---- H of a row by its first call

pub call_few : (category : ℕ) → call_count category ≤ 1
unfolding call_count
call_few category = by_call (eqb category 1)
  where
    by_call : (b : Bool) → pick b 1 0 ≤ 1
    by_call true = omega arith
    by_call false = omega arith

pub count_cons : (category : ℕ) (row : List ℕ) → heterozygous_count (category ∷ row) ≡ call_count category + heterozygous_count row
unfolding heterozygous_count call_count
count_cons category row = by_call (eqb category 1)
  where
    by_call : (b : Bool) → pick b (suc (heterozygous_count row)) (heterozygous_count row) ≡ pick b 1 0 + heterozygous_count row
    by_call true = omega arith
    by_call false = omega arith
