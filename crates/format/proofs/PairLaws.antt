-- The six pair codes: their numbers read back, and the one rule of the table: a code's image stands for the exchanged pair.
-- Assumes nothing.
use mathlib.Core.Path.{◌≡◌, refl, ap, ap₂, ◌∙◌, subst}
use Prim.Native.Nat.{ℕ, zero, suc, ◌<◌}
use mathlib.Core.Bool.{Bool, true, false, ◌&&◌, ◌||◌}
use mathlib.Core.List.{List, [], ◌∷◌, map}
use lib.ListN.{length, get_or}
use lib.Dec.{eqb, ltb, lit<}
use native.Mathlib.Omega.{arith}
use borrow.Author.Tests.{eqb-true, ltb-true}
use Rattle.format.specs.Category.{exchange, exchange_if, exchange_all, just_one}
use Rattle.format.specs.PairCode.{PairCode, code_1, code_2, code_3, code_5, code_6, code_9, pair_codes, pair, image, category_of, in_pair, Coded, coded}
use Rattle.format.specs.PairCode.{not_coded, seek, code_numbered}
use Rattle.format.specs.Track.{image_if}
use Rattle.format.proofs.Rules.{by_test, both}
use Rattle.format.proofs.CategoryLaws.{exchange_eqb, just_one_joined}

-- ---- the table, row by row

-- a list that f made has at each index what f gives there
pub map_at {ℓ} : {A : Type 0} {B : Type ℓ} (f : A → B) (xs : List A) (other : B) (last : A) (i : ℕ) → i < length xs
    → get_or (map f xs) i other ≡ f (get_or xs i last)
map_at f [] other last i l = absurd (omega arith)
map_at f (x ∷ xs) other last zero l = refl
map_at f (x ∷ xs) other last (suc i) l = map_at f xs other last i (omega arith)

-- where a code stands in the table
abbrev row_of : PairCode → ℕ
row_of code_1 = 0
row_of code_2 = 1
row_of code_3 = 2
row_of code_5 = 3
row_of code_6 = 4
row_of code_9 = 5

in_table : (c : PairCode) → (row_of c < length pair_codes) × (get_or pair_codes (row_of c) code_9 ≡ c)
in_table code_1 = (lit< tt, refl)
in_table code_2 = (lit< tt, refl)
in_table code_3 = (lit< tt, refl)
in_table code_5 = (lit< tt, refl)
in_table code_6 = (lit< tt, refl)
in_table code_9 = (lit< tt, refl)

-- a test holds of every row with either bit
abbrev every_row : (PairCode → Bool → Bool) → List PairCode → Bool
every_row test [] = true
every_row test (c ∷ cs) = (test c true && test c false) && every_row test cs

either_bit : (test : Bool → Bool) → test true && test false ≡ true → (bit : Bool) → test bit ≡ true
either_bit test h true = (both (test true) (test false) h).0
either_bit test h false = (both (test true) (test false) h).1

at_row : (test : PairCode → Bool → Bool) (cs : List PairCode) → every_row test cs ≡ true → (i : ℕ) → i < length cs → (bit : Bool)
    → test (get_or cs i code_9) bit ≡ true
at_row test [] h i l bit = absurd (omega arith)
at_row test (c ∷ cs) h zero l bit = either_bit (test c) (both (test c true && test c false) (every_row test cs) h).0 bit
at_row test (c ∷ cs) h (suc i) l bit = at_row test cs (both (test c true && test c false) (every_row test cs) h).1 i (omega arith) bit

-- what one computed test finds of the whole table holds of every code
pub by_table : (test : PairCode → Bool → Bool) → every_row test pair_codes ≡ true → (c : PairCode) (bit : Bool) → test c bit ≡ true
by_table test h c bit =
    subst (λ (d : PairCode). test d bit ≡ true) (in_table c).1 (at_row test pair_codes h (row_of c) (in_table c).0 bit)

-- THE TABLE'S RULE, one test of a row: its numbers are a byte and two categories; its image is the row of the number that it names; and under the image, the
-- bit turned where the row says that the order turns, a bit stands for the exchanged category
abbrev row_obeys : PairCode → Bool → Bool
row_obeys c bit =
    (ltb (pair c).code 256 && ltb (category_of c bit) 4)
    && (eqb (pair (image c)).code (pair c).image
    && eqb (category_of (image c) (just_one (pair c).turns bit)) (exchange (category_of c bit)))

pub table_rule : (c : PairCode) (bit : Bool) → row_obeys c bit ≡ true
table_rule = by_table row_obeys refl

-- ---- numbers

-- a code is found by its number
pub code_read_back : (c : PairCode) → code_numbered (pair c).code ≡ coded c
unfolding code_numbered
code_read_back code_1 = refl
code_read_back code_2 = refl
code_read_back code_3 = refl
code_read_back code_5 = refl
code_read_back code_6 = refl
code_read_back code_9 = refl

-- what is found has the number
abbrev pub IsCode : ℕ → Coded → Type 0
IsCode number (coded c) = number ≡ (pair c).code
IsCode number not_coded = Unit {0}

-- whatever code is found in a list of them has the number
seek_as_written : (number : ℕ) (cs : List PairCode) → IsCode number (seek number cs)
seek_as_written number [] = tt
seek_as_written number (c ∷ cs) =
    by_test (IsCode number) (eqb number (pair c).code) (λ t. eqb-true number (pair c).code t) (λ t. seek_as_written number cs)

-- whatever code is found has the number
pub code_as_written : (number : ℕ) → IsCode number (code_numbered number)
unfolding code_numbered
code_as_written number = seek_as_written number pair_codes

module _ (c : PairCode) (bit : Bool) where
  small : ltb (pair c).code 256 && ltb (category_of c bit) 4 ≡ true
  small = (both (ltb (pair c).code 256 && ltb (category_of c bit) 4) _ (table_rule c bit)).0

  turned : eqb (pair (image c)).code (pair c).image && eqb (category_of (image c) (just_one (pair c).turns bit)) (exchange (category_of c bit)) ≡ true
  turned = (both (ltb (pair c).code 256 && ltb (category_of c bit) 4) _ (table_rule c bit)).1

-- the two of a pair are categories
pub category_of_below : (c : PairCode) (bit : Bool) → category_of c bit < 4
category_of_below c bit = ltb-true (category_of c bit) 4 (both (ltb (pair c).code 256) _ (small c bit)).1

-- ---- the image

-- the table's number of the image is the image's number
pub image_number : (c : PairCode) → (pair (image c)).code ≡ (pair c).image
image_number c = eqb-true (pair (image c)).code (pair c).image (both (eqb (pair (image c)).code (pair c).image) _ (turned c true)).0

-- under the image, with its bit turned where the order of the pair turns, a sample has the exchanged category
pub category_of_image : (member : Bool) (c : PairCode) (bit : Bool)
    → category_of (image_if member c) (just_one (member && (pair c).turns) bit) ≡ exchange_if member (category_of c bit)
category_of_image false c b = refl
category_of_image true c b =
    eqb-true (category_of (image c) (just_one (pair c).turns b)) (exchange (category_of c b))
    (both (eqb (pair (image c)).code (pair c).image) _ (turned c b)).1

-- the same of a row
pub categories_of_image : (member : Bool) (c : PairCode) (bits : List Bool)
    → map (category_of (image_if member c)) (map (just_one (member && (pair c).turns)) bits) ≡ exchange_all member (map (category_of c) bits)
categories_of_image member c [] = refl
categories_of_image member c (b ∷ bits) = ap₂ ◌∷◌ (category_of_image member c b) (categories_of_image member c bits)

-- the order of two tests makes no difference
or_order : (a b : Bool) → a || b ≡ b || a
or_order true true = refl
or_order true false = refl
or_order false true = refl
or_order false false = refl

-- a category is in the pair exactly where the exchanged one is in the image
pub in_pair_image : (member : Bool) (c : PairCode) (value : ℕ) → in_pair (image_if member c) (exchange_if member value) ≡ in_pair c value
in_pair_image false c v = refl
in_pair_image true code_1 v = or_order (eqb (exchange v) 1) (eqb (exchange v) 2) ∙ ap₂ ◌||◌ (exchange_eqb true v 0) (exchange_eqb true v 1)
in_pair_image true code_2 v = or_order (eqb (exchange v) 0) (eqb (exchange v) 2) ∙ ap₂ ◌||◌ (exchange_eqb true v 0) (exchange_eqb true v 2)
in_pair_image true code_3 v = ap₂ ◌||◌ (exchange_eqb true v 0) (exchange_eqb true v 3)
in_pair_image true code_5 v = or_order (eqb (exchange v) 0) (eqb (exchange v) 1) ∙ ap₂ ◌||◌ (exchange_eqb true v 1) (exchange_eqb true v 2)
in_pair_image true code_6 v = ap₂ ◌||◌ (exchange_eqb true v 1) (exchange_eqb true v 3)
in_pair_image true code_9 v = ap₂ ◌||◌ (exchange_eqb true v 2) (exchange_eqb true v 3)

-- ---- one image after another

-- two images are one where just one of them is taken
pub image_if_twice : (a b : Bool) (c : PairCode) → image_if a (image_if b c) ≡ image_if (just_one a b) c
image_if_twice false b c = refl
image_if_twice true false c = refl
image_if_twice true true code_1 = refl
image_if_twice true true code_2 = refl
image_if_twice true true code_3 = refl
image_if_twice true true code_5 = refl
image_if_twice true true code_6 = refl
image_if_twice true true code_9 = refl

-- and the order turns as often
pub turns_twice : (a b : Bool) (c : PairCode)
    → just_one (a && (pair (image_if b c)).turns) (b && (pair c).turns) ≡ just_one a b && (pair c).turns
turns_twice false b c = refl
turns_twice true false code_1 = refl
turns_twice true false code_2 = refl
turns_twice true false code_3 = refl
turns_twice true false code_5 = refl
turns_twice true false code_6 = refl
turns_twice true false code_9 = refl
turns_twice true true code_1 = refl
turns_twice true true code_2 = refl
turns_twice true true code_3 = refl
turns_twice true true code_5 = refl
turns_twice true true code_6 = refl
turns_twice true true code_9 = refl

-- bits turned twice
pub bits_turned_twice : (a b : Bool) (bits : List Bool) → map (just_one a) (map (just_one b) bits) ≡ map (just_one (just_one a b)) bits
bits_turned_twice a b [] = refl
bits_turned_twice a b (x ∷ bits) = ap₂ ◌∷◌ (just_one_joined a b x) (bits_turned_twice a b bits)

-- bits turned not at all
pub bits_not_turned : (bits : List Bool) → map (just_one false) bits ≡ bits
bits_not_turned [] = refl
bits_not_turned (x ∷ bits) = ap (◌∷◌ x) (bits_not_turned bits)
