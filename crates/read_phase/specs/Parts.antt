-- A phase track by its parts: what each presence bit and each phase bit tells, by index, as the code takes them.
-- Assumes nothing.
use Rattle.std.specs.Prelude.{◌≡◌, ℕ, zero, suc, ◌+◌, ◌≤◌, Bool, true, List, [], ◌∷◌, ◌++◌, length, take, drop, eqb}
use Rattle.format.specs.Base.{pick}
use Rattle.format.specs.Packed.{one, packed_size}
use Rattle.format.specs.Phase.{heterozygous_count, ones, phases_told, spread}
use Rattle.read_packed.specs.Arrays.{number_in}
use Rattle.read_phase.specs.declared.PhaseParts.{PhaseParts}

-- presence bit k of a track whose first bit stands at `at`: set where none are stored
abbrev pub presence_at : Bool → List ℕ → ℕ → ℕ → ℕ
presence_at stored l at k = pick stored (number_in one l at (k + 1)) 1

-- 02, Ask 1: "0 unphased, 1 unswapped, 2 swapped"
abbrev pub phase_of : ℕ → ℕ → ℕ
phase_of on bit = pick (eqb on 0) 0 (pick (eqb bit 0) 1 2)

-- what f gives for m numbers from k on
unfoldable pub drawn : (ℕ → ℕ) → ℕ → ℕ → List ℕ
drawn f k zero = []
drawn f k (suc m) = f k ∷ drawn f (k + 1) m

-- the phases of the m calls from call h on, whose phase bits begin with bit p
unfoldable pub told_from : (ℕ → ℕ) → (ℕ → ℕ) → ℕ → ℕ → ℕ → List ℕ
told_from present bit h p m = phases_told (drawn present h m) (drawn bit p (ones (drawn present h m)))

abbrev pub present_in : List ℕ → PhaseParts → ℕ → ℕ
present_in l parts = presence_at parts.stored l parts.at

abbrev pub bit_in : List ℕ → PhaseParts → ℕ → ℕ
bit_in l parts = number_in one l parts.bits

-- the parts of a track over h calls are there
pub record PartsThere (h : ℕ) (l : List ℕ) (parts : PhaseParts) : Type 0 where
  pub first_inside : parts.stored ≡ true → parts.at + packed_size one (suc h) ≤ length l
  pub bits_inside : parts.bits + packed_size one parts.count ≤ length l
  pub count_is : parts.count ≡ ones (drawn (present_in l parts) 0 h)

-- the phases that they tell, one after another at an output's front
abbrev pub calls_put : ℕ → List ℕ → PhaseParts → List ℕ → List ℕ
calls_put h l parts output = told_from (present_in l parts) (bit_in l parts) 0 0 h ++ drop h output

-- an output whose front has the phases of a row's calls one after another, once sample i and those after it, up to n, have theirs
unfoldable pub spread_from : ℕ → ℕ → List ℕ → List ℕ → List ℕ
spread_from i n row output = take i output ++ drop i (spread (take n row) output ++ drop n output)

-- the phases that they tell, in the first n bytes of an output, by the row
abbrev pub parts_put : ℕ → List ℕ → PhaseParts → List ℕ → List ℕ → List ℕ
parts_put n l parts row output =
    spread (take n row) (told_from (present_in l parts) (bit_in l parts) 0 0 (heterozygous_count (take n row))) ++ drop n output
