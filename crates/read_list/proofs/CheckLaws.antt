-- A turn of the loop of `check_entries`, and a short step.
-- Assumes nothing.
use Rattle.std.specs.Prelude.{Option, Some, Result, Ok, Err}
use mathlib.Core.Path.{◌≡◌, refl, ◌∙◌}
use Prim.Native.Nat.{ℕ, suc, ◌+◌, ◌-◌, ◌/◌, ◌≤◌, ◌<◌}
use native.Mathlib.Omega.{arith}
use mathlib.Core.Bool.{Bool, true, false, not}
use mathlib.Core.List.{List}
use lib.ListN.{get_or, length}
use borrow.Author.Tests.{not-false}
use Rattle.format.specs.declared.Refusal.{Refusal}
use Rattle.base_cursor.specs.Steps.{short_at}
use Rattle.base_cursor.specs.declared.Cursor.{Cursor}
use Rattle.read_list.specs.Entries.{value_at, allows, Against, moved, bump, check_entry, check_entries}
use Rattle.read_list.specs.Room.{EntryReady, Room}
use Rattle.read_list.specs.Walked.{Checking}
use Rattle.read_list.specs.Runs.{AllOff}
use Rattle.read_list.specs.declared.ListRule.{ListRule}
use Rattle.read_list.specs.declared.State.{State}
use Rattle.read_list.proofs.NumberLaws.{Known}
use Rattle.read_list.proofs.EntryLaws.{against_sample, check_on, check_entry_on}
use Rattle.read_list.proofs.RoomLaws.{Passed, check_one, ready}
use Rattle.read_list.proofs.LoopLaws.{short_sample}

module _ {l : List ℕ} {n vals : ℕ} {held : ListRule} {count : ℕ} {row : List ℕ} where
  pub check_start : {st : State} → Room l n vals count st → Against held n row → Checking l n vals held count st row st count
  check_start r h = record { same = refl; room = r; against = h; fewer = omega arith; all = refl }

  module _ {first st : State} {more : ℕ} (w : Checking l n vals held count first row st more) where
    abbrev whole : Result Cursor Refusal
    whole = check_entries count l n vals held first row

    pub check_end : more ≤ 0 → Ok st.at ≡ whole
    unfolding check_entries
    check_end p = let e : 0 ≡ more = omega arith in rw (← e) at w.same

    module _ (p : 0 < more) where
      pub check_ready : EntryReady l n st
      check_ready = ready l n vals more st p w.room

      pub check_value_there : vals + st.passed / 4 < length l
      check_value_there = omega (arith, w.room.values)

      last_more : suc (more - 1) ≡ more
      last_more = omega arith

      opened : check_entries (suc (more - 1)) l n vals held st row ≡ whole
      opened = rw last_more w.same

      module _ {r : Result State Refusal} (e : r ≡ check_entry l n vals held st row) where
        pub check_stop : {why : Refusal} → r ≡ Err why → Err why ≡ whole
        unfolding check_entries
        check_stop q = rw (← e, q) at opened

        module _ (known : Known l) {t : State} (q : r ≡ Ok t) where
          one_more : Passed l n vals (more - 1) st (rw last_more w.room) t
          one_more = check_one l n vals (more - 1) st (rw last_more w.room) (λ i. (known i).fits) held row t (rw q at e)

          pub check_on_room : Room l n vals (more - 1) t
          check_on_room = one_more.room

          -- the values of the entries to come are among those looked at
          pub check_off : {off : Bool} → (off ≡ true → AllOff l vals (first.passed + count) held) → off ≡ true → AllOff l vals (t.passed + (more - 1)) held
          check_off f o = let a : t.passed + (more - 1) ≡ first.passed + count = omega (arith, w.all, one_more.one) in rw a (f o)

          on : Checking l n vals held count first row t (more - 1)
          unfolding check_entries
          on = record {
            same = rw (← e, q) at opened;
            room = check_on_room;
            against = w.against;
            fewer = omega (arith, w.fewer);
            all = omega (arith, w.all, one_more.one);
          }

          -- the walk of the short steps goes on from here
          pub check_on_with : {t' : State} {more' : ℕ} → Checking l n vals held (more - 1) t row t' more' → Checking l n vals held count first row t' more'
          check_on_with g = record {
            same = g.same ∙ on.same;
            room = g.room;
            against = w.against;
            fewer = omega (arith, g.fewer, w.fewer);
            all = g.all ∙ on.all;
          }

      -- a short step
      module _ {step : ℕ} (h : step < n - st.last) where
        pub check_against : Against held (suc (st.last + step)) row
        check_against = against_sample held n (st.last + step) row w.against (omega arith)

        pub check_short : Known l → (st.room ≡ 0 → ⊥) → {got : Option (ℕ × Cursor)} → got ≡ short_at l st.at.at → {next : Cursor} → got ≡ Some (step, next)
            → (step ≡ 0 → ⊥) → {value : ℕ} → value ≡ value_at l vals st.passed
            → {b : Bool} → b ≡ allows held (get_or row (st.last + step) 0) value → not b ≡ false
            → Checking l n vals held count first row (bump (moved step next st)) (more - 1)
        check_short known z {got} e {next} q k {value} v {b} f t =
            on (check_entry_on l n st _ (short_sample l n st w.room.below z got e step next q k h) (moved step next st) refl vals held row _
            (check_on l vals held (moved step next st) row value v b f (not-false b t))) known refl

pub ruleset check_laws = (check_start, check_end, check_ready, check_value_there, check_stop, check_on_room, check_off, check_on_with)
