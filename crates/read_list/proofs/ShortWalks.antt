-- A turn of the loops of `put_short_steps` and `check_short_steps`: `done` entries are passed, and the next step stands at `here`.
-- Assumes nothing.
use Rattle.std.specs.Prelude.{Option, Some}
use mathlib.Core.Path.{◌≡◌}
use Prim.Native.Nat.{ℕ, suc, ◌+◌, ◌-◌, ◌/◌, ◌^◌, ◌≤◌, ◌<◌}
use native.Mathlib.Omega.{arith}
use mathlib.Core.Bool.{Bool, false, not}
use mathlib.Core.List.{List}
use lib.ListN.{get_or, length, set}
use Rattle.format.specs.Limits.{most_samples}
use Rattle.base_cursor.specs.Steps.{short_at}
use Rattle.base_cursor.specs.declared.Cursor.{Cursor}
use Rattle.read_list.specs.Entries.{value_at, allows, Against}
use Rattle.read_list.specs.Room.{Room}
use Rattle.read_list.specs.Walked.{Putting, Checking}
use Rattle.read_list.specs.Runs.{past}
use Rattle.read_list.specs.declared.ListRule.{ListRule}
use Rattle.read_list.specs.declared.State.{State}
use Rattle.read_list.proofs.NumberLaws.{Known}
use Rattle.read_list.proofs.LoopLaws.{put_start, put_value_there, put_sample, put_against, put_short}
use Rattle.read_list.proofs.CheckLaws.{check_start, check_value_there, check_against, check_short}

-- ---- put into the row

pub record ShortWalk (l : List ℕ) (n vals : ℕ) (held : ListRule) (count : ℕ) (first : State) (least : ℕ) (row₀ row : List ℕ) (here : Cursor) (last done : ℕ)
    : Type 0 where
  pub putting : Putting l n vals held count first row₀ row (past first done last here.at) (count - done)
  pub inside : done ≤ least
  pub group : least ≤ first.room
  pub fewer : least ≤ count
  pub few : first.passed + count ≤ most_samples

pub walk_start : {l : List ℕ} {n vals : ℕ} {held : ListRule} {count : ℕ} {first : State} {least : ℕ} {row : List ℕ} → Room l n vals count first
    → n ≤ length row → least ≤ first.room → least ≤ count → ShortWalk l n vals held count first least row row first.at first.last 0
walk_start {l} {n} {vals} {held} {count} {first} {least} {row} r h g f =
    let a : first.room - 0 ≡ first.room = omega arith in
    let b : first.passed + 0 ≡ first.passed = omega arith in
    let c : count - 0 ≡ count = omega arith in
    record { putting = rw (a, b, c) (put_start r h); inside = omega arith; group = g; fewer = f; few = r.few }

module _ {l : List ℕ} {n vals : ℕ} {held : ListRule} {count : ℕ} {first : State} {least : ℕ} {row₀ row : List ℕ} {here : Cursor} {last done : ℕ}
    (w : ShortWalk l n vals held count first least row₀ row here last done) where
  pub walk_end : {st : State} {more : ℕ} → st ≡ past first done last here.at → more ≡ count - done → Putting l n vals held count first row₀ row st more
  walk_end e f = rw (e, f) w.putting

  pub walk_long : length row ≡ length row₀
  walk_long = w.putting.long

  module _ (p : done < least) where
    more : 0 < count - done
    more = omega (arith, w.fewer)

    pub walk_value : vals + (first.passed + done) / 4 < length l
    walk_value = put_value_there w.putting more

    module _ {step : ℕ} (h : step < n - last) where
      pub walk_sample : last + step < length row
      walk_sample = put_sample w.putting more h

      pub walk_against : Against held (suc (last + step)) row
      walk_against = put_against w.putting more h

      pub walk_turn : Known l → {got : Option (ℕ × Cursor)} → got ≡ short_at l here.at → {next : Cursor} → got ≡ Some (step, next) → (step ≡ 0 → ⊥)
          → {value : ℕ} → value ≡ value_at l vals (first.passed + done) → {b : Bool} → b ≡ allows held (get_or row (last + step) 0) value → not b ≡ false
          → ShortWalk l n vals held count first least row₀ (set row (last + step) value) next (last + step) (done + 1)
      walk_turn known e q k v f t =
          let a : first.room - (done + 1) ≡ first.room - done - 1 = omega arith in
          let b : first.passed + (done + 1) ≡ first.passed + done + 1 = omega arith in
          let c : count - (done + 1) ≡ count - done - 1 = omega arith in
          let z : first.room - done ≡ 0 → ⊥ = λ y. omega (arith, w.group) in
          record {
            putting = rw (a, b, c) (put_short w.putting more h known z e q k v f t);
            inside = omega arith;
            group = w.group;
            fewer = w.fewer;
            few = w.few;
          }

pub ruleset walk_laws = (walk_start, walk_end, walk_long, walk_value, walk_sample, walk_against)

-- ---- only checked: `passed` entries of the list, up to `end`

pub record CheckWalk (l : List ℕ) (n vals : ℕ) (held : ListRule) (count : ℕ) (first : State) (end : ℕ) (row : List ℕ) (here : Cursor) (last passed : ℕ)
    : Type 0 where
  pub done : ℕ
  pub is : passed ≡ first.passed + done
  pub checking : Checking l n vals held count first row (past first done last here.at) (count - done)
  pub inside : passed ≤ end
  pub group : end ≤ first.passed + first.room
  pub fewer : end ≤ first.passed + count
  pub few : first.passed + count ≤ most_samples

pub check_walk_start : {l : List ℕ} {n vals : ℕ} {held : ListRule} {count : ℕ} {first : State} {least : ℕ} {row : List ℕ} → Room l n vals count first
    → Against held n row → least ≤ first.room → least ≤ count
    → CheckWalk l n vals held count first (first.passed + least) row first.at first.last first.passed
check_walk_start {l} {n} {vals} {held} {count} {first} {least} {row} r h g f =
    let a : first.room - 0 ≡ first.room = omega arith in
    let b : first.passed + 0 ≡ first.passed = omega arith in
    let c : count - 0 ≡ count = omega arith in
    record {
      done = 0;
      is = omega arith;
      checking = rw (a, b, c) (check_start r h);
      inside = omega arith;
      group = omega arith;
      fewer = omega arith;
      few = r.few;
    }

module _ {l : List ℕ} {n vals : ℕ} {held : ListRule} {count : ℕ} {first : State} {end : ℕ} {row : List ℕ} {here : Cursor} {last passed : ℕ}
    (w : CheckWalk l n vals held count first end row here last passed) where
  pub check_walk_end : {st : State} {more : ℕ} → st ≡ past first (passed - first.passed) last here.at → more ≡ count - (passed - first.passed)
      → Checking l n vals held count first row st more
  check_walk_end e f = let d : passed - first.passed ≡ w.done = omega (arith, w.is) in rw (e, f, d) w.checking

  pub check_walk_room : passed - first.passed ≤ first.room
  check_walk_room = omega (arith, w.inside, w.group)

  pub check_walk_fewer : passed - first.passed ≤ count
  check_walk_fewer = omega (arith, w.inside, w.fewer)

  pub check_walk_back : first.passed ≤ passed
  check_walk_back = omega (arith, w.is)

  pub check_walk_fits : first.passed + (passed - first.passed) < 2 ^ 64
  check_walk_fits = omega (arith, w.inside, w.fewer, w.few)

  module _ (p : passed < end) where
    some_left : 0 < count - w.done
    some_left = omega (arith, w.fewer, w.is)

    in_group : first.room - w.done ≡ 0 → ⊥
    in_group z = omega (arith, w.group, w.is)

    pub check_walk_value : vals + passed / 4 < length l
    check_walk_value = rw w.is (check_value_there w.checking some_left)

    module _ {step : ℕ} (h : step < n - last) where
      pub check_walk_against : Against held (suc (last + step)) row
      check_walk_against = check_against w.checking some_left h

      pub check_walk_turn : Known l → {got : Option (ℕ × Cursor)} → got ≡ short_at l here.at → {next : Cursor} → got ≡ Some (step, next) → (step ≡ 0 → ⊥)
          → {value : ℕ} → value ≡ value_at l vals passed → {b : Bool} → b ≡ allows held (get_or row (last + step) 0) value → not b ≡ false
          → CheckWalk l n vals held count first end row next (last + step) (passed + 1)
      check_walk_turn known e q k {value} v f t =
          let a : first.room - (w.done + 1) ≡ first.room - w.done - 1 = omega arith in
          let b : first.passed + (w.done + 1) ≡ first.passed + w.done + 1 = omega arith in
          let c : count - (w.done + 1) ≡ count - w.done - 1 = omega arith in
          let v' : value ≡ value_at l vals (first.passed + w.done) = rw w.is at v in
          record {
            done = w.done + 1;
            is = omega (arith, w.is);
            checking = rw (a, b, c) (check_short w.checking some_left h known in_group e q k v' f t);
            inside = omega arith;
            group = w.group;
            fewer = w.fewer;
            few = w.few;
          }

pub ruleset check_walk_laws = (
  check_walk_start,
  check_walk_end,
  check_walk_room,
  check_walk_fewer,
  check_walk_back,
  check_walk_fits,
  check_walk_value,
  check_walk_against,
)
