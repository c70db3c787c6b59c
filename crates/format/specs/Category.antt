-- The exchange of categories 0 and 2.
-- Assumes nothing.
use Rattle.std.specs.Prelude.{ℕ, zero, suc, Bool, true, false, List, map}

-- 01, Categories and kinds: "0 homozygous reference, 1 heterozygous, 2 double alternate, 3 missing". Demand 3: categories 0 and 2 exchanged.
-- Every other number stays, so that no law about it has a premise.
abbrev pub exchange : ℕ → ℕ
exchange zero = 2
exchange (suc zero) = 1
exchange (suc (suc zero)) = 0
exchange (suc (suc (suc n))) = suc (suc (suc n))

abbrev pub exchange_if : Bool → ℕ → ℕ
exchange_if true category = exchange category
exchange_if false category = category

abbrev pub exchange_all : Bool → List ℕ → List ℕ
exchange_all b categories = map (exchange_if b) categories

-- Demand 3: in just one of the two sets
abbrev pub just_one : Bool → Bool → Bool
just_one true true = false
just_one true false = true
just_one false b = b
