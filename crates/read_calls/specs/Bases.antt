-- What a list is against where it is walked to be counted, sample by sample, and its rule of what it may hold.
-- Assumes nothing.
use Rattle.std.specs.Prelude.{ℕ, zero, suc, ◌+◌, ◌/◌, ◌≤◌, ◌<◌, List, [], ◌∷◌, length, get_or}
use Rattle.format.specs.Packed.{one, packed_size}
use Rattle.read_packed.specs.Arrays.{number_in}
use Rattle.read_packed.specs.Unpacked.{of_pair}
use Rattle.read_list.specs.declared.ListRule.{ListRule}
use Rattle.read_list.specs.declared.ListRule.TheVariants.{OffPair, OffRow}
use Rattle.read_calls.specs.declared.StoredBase.{StoredBase}
use Rattle.read_calls.specs.declared.StoredBase.TheVariants.{Row, Bits}

-- 01, Categories and kinds: "none in the pair in 1, none equal to the anchor's category of that sample in 2 and 3"
abbrev pub rule_of : StoredBase → ListRule
rule_of Row = OffRow
rule_of (Bits at lower higher) = OffPair lower higher

-- the category that a sample has without the list
abbrev pub category_before : StoredBase → List ℕ → List ℕ → ℕ → ℕ
category_before Row l row sample = get_or row sample 0
category_before (Bits at lower higher) l row sample = of_pair lower higher (number_in one l at sample)

-- those of `count` samples from `sample` on
unfoldable pub categories_before : StoredBase → List ℕ → List ℕ → ℕ → ℕ → List ℕ
categories_before base l row sample zero = []
categories_before base l row sample (suc count) = category_before base l row sample ∷ categories_before base l row (sample + 1) count

abbrev pub base_row : StoredBase → ℕ → List ℕ → List ℕ → List ℕ
base_row base n l row = categories_before base l row 0 n

-- what is looked at is there: for one sample, and for the first n
abbrev pub BaseAt : StoredBase → List ℕ → List ℕ → ℕ → Type 0
BaseAt Row l row sample = sample < length row
BaseAt (Bits at lower higher) l row sample = at + sample / 8 < length l

abbrev pub BaseThere : StoredBase → ℕ → List ℕ → List ℕ → Type 0
BaseThere Row n l row = n ≤ length row
BaseThere (Bits at lower higher) n l row = at + packed_size one n ≤ length l
