-- How a law about a reading step is shown: one rule for each way of putting steps together.
-- Assumes nothing.
use mathlib.Core.Path.{◌≡◌, refl}
use Prim.Native.Nat.{ℕ, zero, suc, ◌≤◌, ◌<◌}
use mathlib.Core.Bool.{Bool, true, false, ◌&&◌, ◌||◌}
use mathlib.Core.List.{List, [], ◌∷◌, ◌++◌}
use lib.ListN.{take, drop}
use native.Mathlib.Omega.{arith}
use native.Mathlib.Decide.{dec_le}
use native.Mathlib.Nat.{lt_of_not-le}
use Rattle.format.specs.declared.FileVariant.{FileVariant}
use Rattle.format.specs.Base.{pick, Out, ok, naming, bind, map_out, need, need_of, numbered, Below, refused}
use Rattle.format.specs.Variant.{file_variant}

-- P holds of what was read, if anything was
abbrev pub Holds : {A : Type 0} → (A → List ℕ → Type 0) → Out A → Type 0
Holds P (ok a left) = P a left
Holds P (refused why) = Unit {0}

-- to show P of a choice, show it of each side under the test's outcome
pub by_test {ℓ κ} : {X : Type ℓ} (P : X → Type κ) (t : Bool) {x y : X} → (t ≡ true → P x) → (t ≡ false → P y) → P (pick t x y)
by_test P true f g = f refl
by_test P false f g = g refl

-- whichever variant the refusal names; 0 where none is named
pub by_need_of : {A : Type 0} (Q : A → List ℕ → Type 0) (v : FileVariant) (t : Bool) (number place : ℕ) (next : Out A) → (t ≡ true → Holds Q next)
    → Holds Q (need_of v t number place next)
by_need_of Q v true number place next f = f refl
by_need_of Q v false number place next f = tt

pub by_need : {A : Type 0} (Q : A → List ℕ → Type 0) (t : Bool) (number place : ℕ) (next : Out A) → (t ≡ true → Holds Q next)
    → Holds Q (need t number place next)
by_need Q t number place next f = by_need_of Q (file_variant 0) t number place next f

-- what follows a rule may be said within it
pub need_of_then : {A B : Type 0} (v : FileVariant) (t : Bool) (number place : ℕ) (m : Out A) (next : A → List ℕ → Out B)
    → bind (need_of v t number place m) next ≡ need_of v t number place (bind m next)
need_of_then v true number place m next = refl
need_of_then v false number place m next = refl

pub need_then : {A B : Type 0} (t : Bool) (number place : ℕ) (m : Out A) (next : A → List ℕ → Out B)
    → bind (need t number place m) next ≡ need t number place (bind m next)
need_then t number place m next = need_of_then (file_variant 0) t number place m next

pub by_bind : {A B : Type 0} (P : A → List ℕ → Type 0) (Q : B → List ℕ → Type 0) (m : Out A) (f : A → List ℕ → Out B)
    → Holds P m → ((a : A) (left : List ℕ) → P a left → Holds Q (f a left)) → Holds Q (bind m f)
by_bind P Q (ok a left) f h k = k a left h
by_bind P Q (refused why) f h k = tt

pub by_map : {A B : Type 0} (P : A → List ℕ → Type 0) (Q : B → List ℕ → Type 0) (m : Out A) (f : A → B)
    → Holds P m → ((a : A) (left : List ℕ) → P a left → Q (f a) left) → Holds Q (map_out f m)
by_map P Q (ok a left) f h k = k a left h
by_map P Q (refused why) f h k = tt

pub by_numbered : {A : Type 0} (P : A → List ℕ → Type 0) (number : ℕ) (m : Out A) → Holds P m → Holds P (numbered number m)
by_numbered P number (ok a left) h = h
by_numbered P number (refused why) h = tt

pub by_naming : {A : Type 0} (P : A → List ℕ → Type 0) (v : FileVariant) (m : Out A) → Holds P m → Holds P (naming v m)
by_naming P v (ok a left) h = h
by_naming P v (refused why) h = tt

pub weaken : {A : Type 0} (P Q : A → List ℕ → Type 0) (m : Out A) → ((a : A) (left : List ℕ) → P a left → Q a left) → Holds P m → Holds Q m
weaken P Q (ok a left) k h = k a left h
weaken P Q (refused why) k h = tt

-- a test has one outcome
pub never_both {ℓ} : {X : Type ℓ} {t : Bool} → t ≡ true → t ≡ false → X
never_both p q = let z : ◌≡◌ {A = ℕ} 0 1 = cc in absurd (omega arith)

-- what was not found, or is not known, says nothing
pub unsaid : {A : Type 0} → false ≡ true → A
unsaid e = never_both e refl

-- two tests that both hold
pub both : (a b : Bool) → a && b ≡ true → (a ≡ true) × (b ≡ true)
both true b h = (refl, h)
both false b h = never_both h refl

-- one of two tests that holds
pub either {ℓ} : {X : Type ℓ} (a b : Bool) → a || b ≡ true → (a ≡ true → X) → (b ≡ true → X) → X
either true b h f g = f refl
either false b h f g = g h

-- one order or the other
pub split {ℓ} : {X : Type ℓ} (a b : ℕ) → (a ≤ b → X) → (b < a → X) → X
split a b f g = elim (dec_le a b) [ yes h ↦ f h | no h ↦ g (lt_of_not-le h) ]

-- bounds on the elements of a list, of its parts and of two joined
pub below_after : (m : ℕ) (xs ys : List ℕ) → Below m (xs ++ ys) → Below m ys
below_after m [] ys h = h
below_after m (x ∷ xs) ys h = below_after m xs ys h.1

pub below_append : (m : ℕ) (xs ys : List ℕ) → Below m xs → Below m ys → Below m (xs ++ ys)
below_append m [] ys f g = g
below_append m (x ∷ xs) ys f g = (f.0, below_append m xs ys f.1 g)

pub below_take : (m n : ℕ) (xs : List ℕ) → Below m xs → Below m (take n xs)
below_take m zero [] h = tt
below_take m zero (x ∷ xs) h = tt
below_take m (suc n) [] h = tt
below_take m (suc n) (x ∷ xs) h = (h.0, below_take m n xs h.1)

pub below_drop : (m n : ℕ) (xs : List ℕ) → Below m xs → Below m (drop n xs)
below_drop m zero [] h = tt
below_drop m zero (x ∷ xs) h = h
below_drop m (suc n) [] h = tt
below_drop m (suc n) (x ∷ xs) h = below_drop m n xs h.1
