-- What the flat loops find: values that a list may hold whatever a sample has, and a run, short steps that stand one after another.
-- Assumes nothing.
use Rattle.std.specs.Prelude.{◌≡◌, true, ℕ, suc, ◌+◌, ◌-◌, ◌*◌, ◌/◌, ◌%◌, ◌^◌, ◌≤◌, ◌<◌, List, length, get_or}
use Rattle.base_cursor.specs.Steps.{cursor_at}
use Rattle.read_list.specs.Entries.{value_at, allows}
use Rattle.read_list.specs.declared.ListRule.{ListRule}
use Rattle.read_list.specs.declared.ListRule.TheVariants.{OffPair}
use Rattle.read_list.specs.declared.State.{State}
use Rattle.read_list.specs.declared.StepRun.{StepRun}

-- ---- values

-- of the four values in a byte each may be listed off the pair, whatever its sample has
pub record FourApart (lower higher byte : ℕ) : Type 0 where
  pub each : (j : ℕ) → j < 4 → (old : ℕ) → allows (OffPair lower higher) old (byte / 4 ^ j % 4) ≡ true

-- in each of so many bytes
pub record BytesApart (l : List ℕ) (vals full lower higher : ℕ) : Type 0 where
  pub each : (k : ℕ) → k < full → FourApart lower higher (get_or l (vals + k) 0)

-- each of the first m values may be listed, whatever its sample has
pub record AllOff (l : List ℕ) (vals m : ℕ) (held : ListRule) : Type 0 where
  pub each : (k : ℕ) → k < m → (old : ℕ) → allows held old (value_at l vals k) ≡ true

-- ---- a run

-- 01, Difference lists: "A varint is base 128, low part first, .. in its shortest form." A step that is not 0, of a byte or of two, and where the next stands
pub data Step (l : List ℕ) (here : ℕ) : ℕ → ℕ → Type 0 where
  one : here < length l → 0 < get_or l here 0 → get_or l here 0 < 128 → Step l here (get_or l here 0) (here + 1)
  two : here + 1 < length l → 128 ≤ get_or l here 0 → 0 < get_or l (here + 1) 0 → get_or l (here + 1) 0 < 128
      → Step l here (128 * get_or l (here + 1) 0 + (get_or l here 0 - 128)) (here + 2)

-- so many such steps stand one after another from `at` to `end`, and come to `sum`
pub data Steps (l : List ℕ) (at : ℕ) : ℕ → ℕ → ℕ → Type 0 where
  none : Steps l at 0 at 0
  further : {k here sum step next : ℕ} → Steps l at k here sum → Step l here step next → Steps l at (suc k) next (sum + step)

-- a byte may follow another in a run: none is 0, and of two the first or the second ends a step
pub record InPlace (before byte : ℕ) : Type 0 where
  pub some : 0 < byte
  pub ends : 128 ≤ before → byte < 128

-- what a byte adds in the second place of a step, in steps of 128
pub record HighPart (before byte part : ℕ) : Type 0 where
  pub none : before < 128 → part ≡ 0
  pub all : 128 ≤ before → part ≡ byte % 128

-- what the code reads of a group's steps is there
pub record RunReady (l : List ℕ) (n : ℕ) (st : State) (more : ℕ) : Type 0 where
  pub inside : st.at.at ≤ length l
  pub below : st.last < n
  pub group : st.room ≤ 63
  pub size : (st.room ≡ 0 → ⊥) → st.room < more → st.size.at + 1 ≤ length l

-- a run from a place on, within its group and the `more` entries to come, to a sample below n
pub record RunFrom (l : List ℕ) (n : ℕ) (st : State) (more : ℕ) (run : StepRun) : Type 0 where
  pub steps : Steps l st.at.at run.count (st.at.at + run.size) run.sum
  pub inside : st.at.at + run.size ≤ length l
  pub group : run.count ≤ st.room
  pub fewer : run.count ≤ more
  pub below : st.last + run.sum < n

-- the place after `count` entries of a group, the last of them `last`, where the next step stands at `at`
abbrev pub past : State → ℕ → ℕ → ℕ → State
past st count last at =
    record { room = st.room - count; from = st.from; last = last; head = st.head; size = st.size; passed = st.passed + count; at = cursor_at at }

-- the place after a run
abbrev pub after : State → StepRun → State
after st run = past st run.count (st.last + run.sum) (st.at.at + run.size)
