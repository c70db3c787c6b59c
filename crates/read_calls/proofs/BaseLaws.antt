-- What a list is against, sample by sample: what the code looks up is there, and it is the row or the pair's categories.
-- Assumes nothing.
use mathlib.Core.Path.{◌≡◌, refl, ap}
use Prim.Native.Nat.{ℕ, zero, suc, ◌+◌, ◌/◌, ◌≤◌, ◌<◌}
use native.Mathlib.Omega.{arith}
use native.Mathlib.Numerals.{add-one}
use mathlib.Core.List.{List, ◌∷◌, map}
use lib.ListN.{get_or, length, take, drop}
use lib.Seq.{drop-cons}
use Rattle.format.specs.Packed.{one}
use Rattle.head_index.specs.NumbersAt.{digits_at}
use Rattle.read_packed.specs.Arrays.{number_in}
use Rattle.read_packed.specs.Unpacked.{of_pair}
use Rattle.read_list.specs.Entries.{allows, Against}
use Rattle.read_list.specs.declared.ListRule.TheVariants.{OffPair, OffRow}
use Rattle.read_calls.specs.Bases.{rule_of, category_before, categories_before, base_row, BaseAt, BaseThere}
use Rattle.read_calls.specs.declared.StoredBase.{StoredBase}
use Rattle.read_calls.specs.declared.StoredBase.TheVariants.{Row, Bits}

-- ---- the ways out of `rule_of`: `base` is what it was found to be

pub rule_row : (base : StoredBase) → base ≡ Row → OffRow ≡ rule_of base
rule_row base e = rw e

pub rule_bits : (base : StoredBase) (at lower higher : ℕ) → base ≡ Bits at lower higher → OffPair lower higher ≡ rule_of base
rule_bits base at lower higher e = rw e

pub ruleset rule_laws = (rule_row, rule_bits)

-- ---- the ways out of `category_before`

module _ (base : StoredBase) (l row : List ℕ) (sample : ℕ) where
  pub before_row_there : base ≡ Row → BaseAt base l row sample → sample < length row
  before_row_there e h = rw e at h

  pub before_row : base ≡ Row → get_or row sample 0 ≡ category_before base l row sample
  before_row e = rw e

  module _ (at lower higher : ℕ) (e : base ≡ Bits at lower higher) where
    pub before_bit_there : BaseAt base l row sample → at + sample / 8 < length l
    before_bit_there h = rw e at h

    pub before_bits : (bit : ℕ) → bit ≡ number_in one l at sample → (x : ℕ) → x ≡ of_pair lower higher bit → x ≡ category_before base l row sample
    before_bits bit f x d = rw (e, ← f) d

pub ruleset before_laws = (before_row_there, before_row, before_bit_there, before_bits)

-- ---- one sample of the first n

pub base_at : (base : StoredBase) (n : ℕ) (l row : List ℕ) (sample : ℕ) → BaseThere base n l row → sample < n → BaseAt base l row sample
base_at Row n l row sample h i = omega arith
base_at (Bits at lower higher) n l row sample h i = omega arith

pub base_against : (base : StoredBase) (n : ℕ) (l row : List ℕ) → BaseThere base n l row → Against (rule_of base) n row
base_against Row n l row h = h
base_against (Bits at lower higher) n l row h = tt

-- a list off a pair asks no row, and the other has there what it is against
pub same_rule : (base : StoredBase) (l row : List ℕ) (sample value : ℕ)
    → allows (rule_of base) (get_or row sample 0) value ≡ allows (rule_of base) (category_before base l row sample) value
same_rule Row l row sample value = refl
same_rule (Bits at lower higher) l row sample value = refl

-- ---- all of them

module _ (base : StoredBase) (l row : List ℕ) where
  pub before_length : (sample count : ℕ) → length (categories_before base l row sample count) ≡ count
  unfolding categories_before
  before_length sample zero = refl
  before_length sample (suc count) = ap suc (before_length (sample + 1) count)

  pub base_long : (n : ℕ) → n ≤ length (base_row base n l row)
  base_long n = omega (arith, before_length 0 n)

  pub before_at : (sample count j : ℕ) → j < count → get_or (categories_before base l row sample count) j 0 ≡ category_before base l row (sample + j)
  unfolding categories_before
  before_at sample zero j h = absurd (omega arith)
  before_at sample (suc count) zero h = let z : sample + 0 ≡ sample = omega arith in rw z
  before_at sample (suc count) (suc j) h =
      let z : sample + suc j ≡ sample + 1 + j = omega arith in
      rw z (before_at (sample + 1) count j (omega arith))

  pub base_at_0 : (n j : ℕ) → j < n → get_or (base_row base n l row) j 0 ≡ category_before base l row j
  base_at_0 n j h = let z : 0 + j ≡ j = omega arith in rw z at (before_at 0 n j h)

-- a row
row_from : (l row : List ℕ) (sample count : ℕ) → sample + count ≤ length row → categories_before Row l row sample count ≡ take count (drop sample row)
unfolding categories_before
row_from l row sample zero h = refl
row_from l row sample (suc count) h =
    rw (drop-cons row sample 0 (omega arith), ← add-one sample) (ap (◌∷◌ (get_or row sample 0)) (row_from l row (sample + 1) count (omega arith)))

pub row_is : (n : ℕ) (l row : List ℕ) → n ≤ length row → base_row Row n l row ≡ take n row
row_is n l row h = row_from l row 0 n (omega arith)

-- the categories that bits stand for
bits_from : (at lower higher : ℕ) (l row : List ℕ) (k count : ℕ)
    → categories_before (Bits at lower higher) l row k count ≡ map (of_pair lower higher) (digits_at one (drop at l) k count)
unfolding categories_before digits_at number_in
bits_from at lower higher l row k zero = refl
bits_from at lower higher l row k (suc count) =
    ap (◌∷◌ (category_before (Bits at lower higher) l row k)) (bits_from at lower higher l row (k + 1) count)

pub bits_are : (at lower higher n : ℕ) (l row : List ℕ) → base_row (Bits at lower higher) n l row ≡ map (of_pair lower higher) (digits_at one (drop at l) 0 n)
bits_are at lower higher n l row = bits_from at lower higher l row 0 n
