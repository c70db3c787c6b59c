-- What the code reads is there: for the next sample, and for `more` entries from a place on.
-- Assumes nothing.
use Rattle.std.specs.Prelude.{◌≡◌, ℕ, ◌+◌, ◌-◌, ◌*◌, ◌/◌, ◌≤◌, ◌<◌, List, length}
use Rattle.format.specs.Limits.{most_samples}
use Rattle.format.specs.Difflist.{number_width}
use Rattle.read_list.specs.declared.State.{State}

-- the head and the size byte are there where a group begins
pub record EntryReady (l : List ℕ) (n : ℕ) (st : State) : Type 0 where
  pub few : st.passed < most_samples
  pub below : st.last < n
  pub steps : st.at.at ≤ length l
  pub from : st.from.at ≤ length l
  pub head : st.room ≡ 0 → st.head.at + number_width n ≤ length l
  pub size : st.room ≡ 0 → (st.passed ≡ 0 → ⊥) → st.size.at < length l

-- the values start at `vals`; the first group has no size byte before it
pub record Room (l : List ℕ) (n vals more : ℕ) (st : State) : Type 0 where
  pub few : st.passed + more ≤ most_samples
  pub group : st.room ≤ 63
  pub begun : st.passed ≡ 0 → st.room ≡ 0
  pub below : st.last < n
  pub steps : st.at.at ≤ length l
  pub from : st.from.at ≤ st.at.at
  pub values : vals + (st.passed + more + 3) / 4 ≤ length l
  pub heads : st.head.at + number_width n * ((more + (63 - st.room)) / 64) ≤ length l
  pub sizes : st.size.at + (more + (63 - st.room)) / 64 ≤ vals + (1 - st.passed)
