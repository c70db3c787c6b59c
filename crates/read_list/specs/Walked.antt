-- A walk through the entries is on its way: from where it is, with `more` of `count` entries to come, the outcome is that of the whole walk, which
-- began at `first`.
-- Assumes nothing.
use Rattle.std.specs.Prelude.{◌≡◌, ℕ, ◌+◌, ◌≤◌, List, length}
use Rattle.read_list.specs.Entries.{Against, Lists, put_entries, check_entries}
use Rattle.read_list.specs.Room.{Room}
use Rattle.read_list.specs.declared.ListRule.{ListRule}
use Rattle.read_list.specs.declared.State.{State}

-- with what is put into the row: `row₀` at first, `row` now
pub record Putting (l : List ℕ) (n vals : ℕ) (held : ListRule) (count : ℕ) (first : State) (row₀ row : List ℕ) (st : State) (more : ℕ) : Type 0 where
  pub same : put_entries more l n vals held st row ≡ put_entries count l n vals held first row₀
  pub room : Room l n vals more st
  pub long : length row ≡ length row₀
  pub holds : n ≤ length row
  pub fewer : more ≤ count
  pub all : st.passed + more ≡ first.passed + count

-- only checked, over a row that stays
pub record Checking (l : List ℕ) (n vals : ℕ) (held : ListRule) (count : ℕ) (first : State) (row : List ℕ) (st : State) (more : ℕ) : Type 0 where
  pub same : check_entries more l n vals held st row ≡ check_entries count l n vals held first row
  pub room : Room l n vals more st
  pub against : Against held n row
  pub fewer : more ≤ count
  pub all : st.passed + more ≡ first.passed + count

-- ---- a list that was accepted before

-- under some rule the walk from `first` is not refused
pub record Accepted (l : List ℕ) (n vals count : ℕ) (first : State) (row : List ℕ) : Type 0 where
  pub held : ListRule
  pub lists : Lists (put_entries count l n vals held first row)

-- under any such rule it is on its way
pub record PutKnown (l : List ℕ) (n vals count : ℕ) (first : State) (row₀ row : List ℕ) (st : State) (more : ℕ) : Type 0 where
  pub goes : (held : ListRule) → Lists (put_entries count l n vals held first row₀) → Putting l n vals held count first row₀ row st more
