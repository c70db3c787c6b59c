-- A walk through the entries of a list that is only counted, over what it is against, which stays.
-- Assumes nothing.
use Rattle.std.specs.Prelude.{◌≡◌, ℕ, ◌+◌, ◌≤◌, ◌<◌, List, get_or}
use Rattle.format.specs.Limits.{most_samples}
use Rattle.format.specs.Phase.{heterozygous_count}
use Rattle.read_list.specs.Room.{Room}
use Rattle.read_list.specs.Walked.{Putting}
use Rattle.read_list.specs.declared.State.{State}
use Rattle.read_calls.specs.Bases.{rule_of, category_before, base_row, BaseThere}
use Rattle.read_calls.specs.declared.StoredBase.{StoredBase}
use Rattle.read_calls.specs.declared.Tally.{Tally}

-- it is on its way, with `more` of `count` entries to come: `work` is what the base would now be, had the entries been put into it, and `had - lost` of
-- these are heterozygous
pub record Counting (l : List ℕ) (n vals : ℕ) (base : StoredBase) (count : ℕ) (first : State) (row : List ℕ) (t : Tally) : Type 0 where
  pub work : List ℕ
  pub putting : Putting l n vals (rule_of base) count first (base_row base n l row) work t.st t.more
  pub later : (j : ℕ) → ((t.st.passed ≡ 0 → ⊥) → t.st.last < j) → j < n → get_or work j 0 ≡ category_before base l row j
  pub tally : heterozygous_count work + t.lost ≡ t.had
  pub few : t.lost ≤ t.st.passed
  pub samples : n ≤ most_samples
  pub there : BaseThere base n l row

-- what the code reads from a place on is there, and what it adds up stays small
pub record Standing (l : List ℕ) (n vals : ℕ) (base : StoredBase) (row : List ℕ) (t : Tally) : Type 0 where
  pub room : Room l n vals t.more t.st
  pub few_had : t.had ≤ n + t.st.passed
  pub few_lost : t.lost ≤ t.st.passed
  pub samples : n ≤ most_samples
  pub there : BaseThere base n l row

-- from one place of a walk to another: any walk that comes by the first comes by the second
pub record Stepping (l : List ℕ) (n vals : ℕ) (base : StoredBase) (row : List ℕ) (from to : Tally) : Type 0 where
  pub goes : (count : ℕ) (first : State) → Counting l n vals base count first row from → Counting l n vals base count first row to
  pub standing : Standing l n vals base row to
  pub fewer : to.more ≤ from.more
