-- A test of every number below one, which antt computes: what passes it holds of each.
-- Assumes nothing.
use mathlib.Core.Path.{◌≡◌, refl, sym, subst}
use mathlib.Core.Bool.{Bool, true, false, ◌&&◌}
use Prim.Native.Nat.{ℕ, zero, suc, ◌<◌}
use native.Mathlib.Nat.{not-suc-le-zero}
use native.Mathlib.Omega.{arith}
use lib.Dec.{T, eqb}
use borrow.Author.Tests.{eqb-true, eqb-false}

abbrev pub all_below : ℕ → (ℕ → Bool) → Bool
all_below zero f = true
all_below (suc n) f = f n && all_below n f

both_left : (a b : Bool) → T (a && b) → T a
both_left true b t = tt
both_left false b t = t

both_right : (a b : Bool) → T (a && b) → T b
both_right true b t = t
both_right false b t = absurd t

pub below_all : (n : ℕ) (f : ℕ → Bool) → T (all_below n f) → (k : ℕ) → k < n → T (f k)
below_all zero f t k h = absurd (not-suc-le-zero h)
below_all (suc n) f t k h = go (eqb k n) refl (below_all n f (both_right (f n) (all_below n f) t) k)
  where
    go : (b : Bool) → eqb k n ≡ b → (k < n → T (f k)) → T (f k)
    go true e r = subst (λ (m : ℕ). T (f m)) (sym (eqb-true k n e)) (both_left (f n) (all_below n f) t)
    go false e r = r (let ne : k ≡ n → ⊥ = eqb-false k n e in omega arith)
