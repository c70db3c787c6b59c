-- The six pair codes.
-- Assumes nothing.
use Rattle.std.specs.Prelude.{ℕ, Bool, true, false, ◌||◌, List, [], ◌∷◌, eqb, get_or, Option, Some, None}
use Rattle.format.specs.declared.Pair.{Pair}
use Rattle.format.specs.Base.{pick}

pub data PairCode : Type 0 where
  code_1 code_2 code_3 code_5 code_6 code_9 : PairCode

abbrev pub pair_codes : List PairCode
pair_codes = code_1 ∷ code_2 ∷ code_3 ∷ code_5 ∷ code_6 ∷ code_9 ∷ []

-- 01, Categories and kinds: "Code and pair: 1 is 0,1; 2 is 0,2; 3 is 0,3; 5 is 1,2; 6 is 1,3; 9 is 2,3."
-- image: the code of the pair once 0 and 2 are exchanged; turns: whether the exchange turns the order of the pair.
abbrev pub pair : PairCode → Pair
pair code_1 = record { code = 1; lower = 0; higher = 1; image = 5; turns = true }
pair code_2 = record { code = 2; lower = 0; higher = 2; image = 2; turns = true }
pair code_3 = record { code = 3; lower = 0; higher = 3; image = 9; turns = false }
pair code_5 = record { code = 5; lower = 1; higher = 2; image = 1; turns = true }
pair code_6 = record { code = 6; lower = 1; higher = 3; image = 6; turns = false }
pair code_9 = record { code = 9; lower = 2; higher = 3; image = 3; turns = false }

abbrev pub image : PairCode → PairCode
image code_1 = code_5
image code_2 = code_2
image code_3 = code_9
image code_5 = code_1
image code_6 = code_6
image code_9 = code_3

-- 01: "a bit per sample (set: the higher category of the pair)"
abbrev pub category_of : PairCode → Bool → ℕ
category_of c bit = pick bit (pair c).higher (pair c).lower

abbrev pub in_pair : PairCode → ℕ → Bool
in_pair c category = eqb category (pair c).lower || eqb category (pair c).higher

-- the code with a number, if one has it
pub data Coded : Type 0 where
  coded : PairCode → Coded
  not_coded : Coded

abbrev pub seek : ℕ → List PairCode → Coded
seek number [] = not_coded
seek number (c ∷ cs) = pick (eqb number (pair c).code) (coded c) (seek number cs)

unfoldable pub code_numbered : ℕ → Coded
code_numbered number = seek number pair_codes

-- the table in code: its rows in the codes' order, and the row of a code byte
abbrev pub pair_at : ℕ → Pair
pair_at i = pair (get_or pair_codes i code_9)

abbrev pub as_found : Coded → Option Pair
as_found (coded c) = Some (pair c)
as_found not_coded = None

abbrev pub found : ℕ → Option Pair
found number = as_found (code_numbered number)
