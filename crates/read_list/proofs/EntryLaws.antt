-- What each way out of `may_hold`, `check_value`, `check_entry` and `put_entry` says, from the tests that led there.
-- Assumes nothing.
use Rattle.std.specs.Prelude.{Result, Ok, Err}
use mathlib.Core.Path.{◌≡◌}
use Prim.Native.Nat.{ℕ, suc, ◌+◌, ◌/◌, ◌≤◌, ◌<◌}
use native.Mathlib.Omega.{arith}
use mathlib.Core.List.{List}
use mathlib.Core.Bool.{Bool, true, false, not}
use lib.ListN.{get_or, length, set}
use lib.Dec.{eqb}
use mir.Syntax.{w64}
use mir.Val.{Fits}
use borrow.Author.Tests.{eq-eqb, ne_eqb}
use Rattle.format.specs.declared.Refusal.{Refusal}
use Rattle.format.specs.Base.{refusal}
use Rattle.format.specs.Limits.{most_samples}
use Rattle.read_list.specs.Entries.{value_at, allows, Against, next_sample, bump, turn, put_value, put_entry, check_value, check_entry}
use Rattle.read_list.specs.Room.{EntryReady}
use Rattle.read_list.specs.declared.ListRule.{ListRule}
use Rattle.read_list.specs.declared.ListRule.TheVariants.{OffPair, OffRow}
use Rattle.read_list.specs.declared.State.{State}
use Rattle.read_list.proofs.SampleLaws.{sample_below}

module _ (held : ListRule) (old value : ℕ) where
  pub off_lower : (lower higher : ℕ) → held ≡ OffPair lower higher → value ≡ lower → false ≡ allows held old value
  off_lower lower higher e q = simp (e, eq-eqb value lower q)

  pub off_higher : (lower higher : ℕ) → held ≡ OffPair lower higher → (value ≡ lower → ⊥) → not (eqb value higher) ≡ allows held old value
  off_higher lower higher e q = simp (e, ne_eqb value lower q)

  pub off_row : held ≡ OffRow → not (eqb value old) ≡ allows held old value
  off_row e = simp e

-- the row is long enough: where it is asked, and of any sample below n
pub row_asked : (held : ListRule) (sample : ℕ) (row : List ℕ) → held ≡ OffRow → Against held (suc sample) row → sample < length row
row_asked held sample row e h = rw e at h

pub ruleset held_laws = (off_lower, off_higher, off_row, row_asked)

pub against_sample : (held : ListRule) (n sample : ℕ) (row : List ℕ) → Against held n row → sample < n → Against held (suc sample) row
against_sample (OffPair lower higher) n sample row h b = tt
against_sample OffRow n sample row h b = omega arith

pub against_row : (held : ListRule) (n sample : ℕ) (row : List ℕ) → n ≤ length row → sample < n → Against held (suc sample) row
against_row (OffPair lower higher) n sample row h b = tt
against_row OffRow n sample row h b = omega arith

-- ---- a value: `value` was read, and `b` says whether the list may hold it

module _ (l : List ℕ) (vals : ℕ) (held : ListRule) (st : State) (row : List ℕ) (value : ℕ) (v : value ≡ value_at l vals st.passed)
    (b : Bool) (e : b ≡ allows held (get_or row st.last 0) value) where
  allowed : (t : Bool) → b ≡ t → allows held (get_or row st.last 0) (value_at l vals st.passed) ≡ t
  allowed t q = rw v at (rw e at q)

  pub check_on : b ≡ true → Ok (bump st) ≡ check_value l vals held (Ok st) row
  unfolding check_value
  check_on t = simp (allowed true t)

  pub put_on : b ≡ true → turn (Ok (bump st)) (set row st.last value) ≡ put_value l vals held (Ok st) row
  unfolding put_value
  put_on t = rw v (simp (allowed true t))

  module _ (why : Refusal) (q : why ≡ refusal 17 (vals + st.passed / 4)) where
    pub check_refused : b ≡ false → Err why ≡ check_value l vals held (Ok st) row
    unfolding check_value
    check_refused t = rw q (simp (allowed false t))

    pub put_refused : b ≡ false → turn (Err why) row ≡ put_value l vals held (Ok st) row
    unfolding put_value
    put_refused t = rw q (simp (allowed false t))

pub ruleset value_laws = (check_on, check_refused)

-- ---- an entry: `r` is what its sample was read as

module _ (l : List ℕ) (n : ℕ) (st : State) (r : Result State Refusal) (e : r ≡ next_sample l n st) where
  module _ (vals : ℕ) (held : ListRule) (row : List ℕ) where
    pub check_entry_refused : (why : Refusal) → r ≡ Err why → Err why ≡ check_entry l n vals held st row
    unfolding check_value
    check_entry_refused why q = rw (← e, q)

    pub put_entry_refused : (why : Refusal) → r ≡ Err why → turn (Err why) row ≡ put_entry l n vals held st row
    unfolding put_value
    put_entry_refused why q = rw (← e, q)

  module _ (t : State) (q : r ≡ Ok t) where
    module _ (vals : ℕ) (held : ListRule) (row : List ℕ) where
      pub check_entry_on : (o : Result State Refusal) → o ≡ check_value l vals held (Ok t) row → o ≡ check_entry l n vals held st row
      check_entry_on o h = rw (← e, q) h

      module _ (value : ℕ) (v : value ≡ value_at l vals t.passed) (b : Bool) (f : b ≡ allows held (get_or row t.last 0) value) where
        pub put_entry_on : b ≡ true → turn (Ok (bump t)) (set row t.last value) ≡ put_entry l n vals held st row
        put_entry_on h = rw (← e, q) (put_on l vals held t row value v b f h)

        pub put_entry_stop : b ≡ false → (why : Refusal) → why ≡ refusal 17 (vals + t.passed / 4) → turn (Err why) row ≡ put_entry l n vals held st row
        put_entry_stop h why g = rw (← e, q) (put_refused l vals held t row value v b f why g h)

    pub sample_against : (held : ListRule) (row : List ℕ) → Against held n row → Against held (suc t.last) row
    sample_against held row h = against_sample held n t.last row h (sample_below l n st r t e q).last

    pub sample_in_row : (row : List ℕ) → n ≤ length row → t.last < length row
    sample_in_row row h = omega (arith, (sample_below l n st r t e q).last)

    pub row_against : (held : ListRule) (row : List ℕ) → n ≤ length row → Against held (suc t.last) row
    row_against held row h = against_row held n t.last row h (sample_below l n st r t e q).last

    pub value_inside : (vals m : ℕ) → vals + st.passed / 4 < m → vals + t.passed / 4 < m
    value_inside vals m h = rw (sample_below l n st r t e q).passed h

    pub few_passed : EntryReady l n st → t.passed < most_samples
    few_passed g = rw (sample_below l n st r t e q).passed g.few

    pub passed_fits : EntryReady l n st → Fits w64 (t.passed + 1)
    passed_fits g = omega (arith, few_passed g)

pub ruleset check_entry_laws = (check_entry_refused, check_entry_on, sample_against, value_inside, few_passed)

pub ruleset put_entry_laws = (put_entry_refused, put_entry_on, put_entry_stop, sample_in_row, row_against, value_inside, passed_fits)
