-- The exchange of categories 0 and 2: twice is none, bounds and lengths stay, and how one exchange follows another.
-- Assumes nothing.
use mathlib.Core.Path.{◌≡◌, refl, sym, ap, ap₂, ◌∙◌}
use Prim.Native.Nat.{ℕ, zero, suc, ◌<◌}
use mathlib.Core.Bool.{Bool, true, false}
use mathlib.Core.List.{List, [], ◌∷◌}
use lib.ListN.{length, get_or, set, replicate, length-map, get_or-map}
use lib.Dec.{eqb}
use native.Mathlib.Omega.{arith}
use borrow.Author.Tests.{eq-eqb, ne_eqb, eqb-true, eqb-false}
use Rattle.format.specs.Base.{Below}
use Rattle.format.specs.Category.{exchange, exchange_if, exchange_all, just_one}

-- ---- in just one of two

-- nothing is in just one of itself and itself
pub just_one_self : (a : Bool) → just_one a a ≡ false
just_one_self true = refl
just_one_self false = refl

-- the order of the two makes no difference
pub just_one_order : (a b : Bool) → just_one a b ≡ just_one b a
just_one_order true true = refl
just_one_order true false = refl
just_one_order false true = refl
just_one_order false false = refl

-- nor does how three are joined
pub just_one_joined : (a b c : Bool) → just_one a (just_one b c) ≡ just_one (just_one a b) c
just_one_joined true true true = refl
just_one_joined true true false = refl
just_one_joined true false c = refl
just_one_joined false b c = refl

-- taken out again
pub just_one_out : (a b : Bool) → just_one a (just_one a b) ≡ b
just_one_out true true = refl
just_one_out true false = refl
just_one_out false b = refl

-- two pairs, their firsts and their seconds put together
pub just_one_pairs : (a o a' o' : Bool) → just_one (just_one a o) (just_one a' o') ≡ just_one (just_one a a') (just_one o o')
just_one_pairs a o a' o' =
    sym (just_one_joined a o (just_one a' o'))
    ∙ ap (just_one a) (just_one_joined o a' o' ∙ ap (λ (b : Bool). just_one b o') (just_one_order o a') ∙ sym (just_one_joined a' o o'))
    ∙ just_one_joined a a' (just_one o o')

-- ---- one category

-- the exchange twice is none
pub exchange_twice : (category : ℕ) → exchange (exchange category) ≡ category
exchange_twice zero = refl
exchange_twice (suc zero) = refl
exchange_twice (suc (suc zero)) = refl
exchange_twice (suc (suc (suc n))) = refl

-- two exchanges are one where just one of them is made
pub exchange_if_twice : (a b : Bool) (category : ℕ) → exchange_if a (exchange_if b category) ≡ exchange_if (just_one a b) category
exchange_if_twice true true category = exchange_twice category
exchange_if_twice true false category = refl
exchange_if_twice false b category = refl

-- a category stays a category
pub exchange_below : (b : Bool) (category : ℕ) → category < 4 → exchange_if b category < 4
exchange_below false category h = h
exchange_below true zero h = omega arith
exchange_below true (suc zero) h = omega arith
exchange_below true (suc (suc zero)) h = omega arith
exchange_below true (suc (suc (suc n))) h = h

-- the heterozygous category stays
pub exchange_one : (b : Bool) → exchange_if b 1 ≡ 1
exchange_one true = refl
exchange_one false = refl

-- two categories that are equal once exchanged were equal
pub exchange_equal : (b : Bool) (x y : ℕ) → exchange_if b x ≡ exchange_if b y → x ≡ y
exchange_equal true x y p = sym (exchange_twice x) ∙ ap exchange p ∙ exchange_twice y
exchange_equal false x y p = p

-- the exchange of both changes no test of two categories
pub exchange_eqb : (b : Bool) (x y : ℕ) → eqb (exchange_if b x) (exchange_if b y) ≡ eqb x y
exchange_eqb b x y = by (eqb x y) refl
  where
    by : (t : Bool) → eqb x y ≡ t → eqb (exchange_if b x) (exchange_if b y) ≡ eqb x y
    by true e = eq-eqb (exchange_if b x) (exchange_if b y) (ap (exchange_if b) (eqb-true x y e)) ∙ sym e
    by false e = ne_eqb (exchange_if b x) (exchange_if b y) (λ p. eqb-false x y e (exchange_equal b x y p)) ∙ sym e

-- ---- a row of categories

-- two exchanges of a row are one where just one of them is made
pub exchange_all_twice : (a b : Bool) (row : List ℕ) → exchange_all a (exchange_all b row) ≡ exchange_all (just_one a b) row
exchange_all_twice a b [] = refl
exchange_all_twice a b (x ∷ row) = ap₂ ◌∷◌ (exchange_if_twice a b x) (exchange_all_twice a b row)

-- no exchange leaves a row
pub exchange_all_none : (row : List ℕ) → exchange_all false row ≡ row
exchange_all_none [] = refl
exchange_all_none (x ∷ row) = ap (◌∷◌ x) (exchange_all_none row)

-- made twice, it is undone
pub exchange_all_back : (b : Bool) (row : List ℕ) → exchange_all b (exchange_all b row) ≡ row
exchange_all_back b row = exchange_all_twice b b row ∙ ap (λ (a : Bool). exchange_all a row) (just_one_self b) ∙ exchange_all_none row

-- an exchanged row is as long
pub exchange_all_length : (b : Bool) (row : List ℕ) → length (exchange_all b row) ≡ length row
exchange_all_length b row = length-map row (exchange_if b)

-- a row of categories stays one
pub exchange_all_below : (b : Bool) (row : List ℕ) → Below 4 row → Below 4 (exchange_all b row)
exchange_all_below b [] h = tt
exchange_all_below b (x ∷ row) h = (exchange_below b x h.0, exchange_all_below b row h.1)

-- the category of one sample; past the end 1 stands, before and after
pub exchange_all_at : (b : Bool) (row : List ℕ) (i : ℕ) → get_or (exchange_all b row) i 1 ≡ exchange_if b (get_or row i 1)
exchange_all_at b row i = ap (get_or (exchange_all b row) i) (sym (exchange_one b)) ∙ get_or-map (exchange_if b) row i 1

-- a category set, then exchanged
pub exchange_all_set : (b : Bool) (row : List ℕ) (i value : ℕ) → exchange_all b (set row i value) ≡ set (exchange_all b row) i (exchange_if b value)
exchange_all_set b [] i value = refl
exchange_all_set b (x ∷ row) zero value = refl
exchange_all_set b (x ∷ row) (suc i) value = ap (◌∷◌ (exchange_if b x)) (exchange_all_set b row i value)

-- one category for all samples, exchanged
pub exchange_all_replicate : (b : Bool) (n category : ℕ) → replicate n (exchange_if b category) ≡ exchange_all b (replicate n category)
exchange_all_replicate b zero category = refl
exchange_all_replicate b (suc n) category = ap (◌∷◌ (exchange_if b category)) (exchange_all_replicate b n category)
