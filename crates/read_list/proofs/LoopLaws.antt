-- A turn of the loop of `put_entries`, and a short step.
-- Assumes nothing.
use Rattle.std.specs.Prelude.{Option, Some, Result, Ok, Err}
use mathlib.Core.Path.{◌≡◌, refl, sym, ◌∙◌, subst}
use Prim.Native.Nat.{ℕ, suc, ◌+◌, ◌-◌, ◌/◌, ◌≤◌, ◌<◌}
use native.Mathlib.Omega.{arith}
use mathlib.Core.Bool.{Bool, true, false, not}
use mathlib.Core.List.{List}
use lib.ListN.{get_or, length, set, length-set}
use borrow.Author.Tests.{not-false}
use Rattle.format.specs.declared.Refusal.{Refusal}
use Rattle.base_cursor.specs.Steps.{varint_at, short_at}
use Rattle.base_cursor.specs.declared.Cursor.{Cursor}
use Rattle.base_cursor.proofs.ShortLaws.{short_reads}
use Rattle.read_list.specs.Entries.{value_at, allows, Against, moved, next_sample, bump, turn, put_entry, put_entries, ListLeft, list_left, Lists}
use Rattle.read_list.specs.Room.{EntryReady, Room}
use Rattle.read_list.specs.Walked.{Putting}
use Rattle.read_list.specs.declared.ListRule.{ListRule}
use Rattle.read_list.specs.declared.State.{State}
use Rattle.read_list.proofs.NumberLaws.{Known}
use Rattle.read_list.proofs.SampleLaws.{step_on, is_step}
use Rattle.read_list.proofs.EntryLaws.{against_row, put_entry_on}
use Rattle.read_list.proofs.RoomLaws.{Passed, put_one, ready}

-- a short step is the next sample
pub short_sample : (l : List ℕ) (n : ℕ) (st : State) → st.last < n → (st.room ≡ 0 → ⊥) → (got : Option (ℕ × Cursor)) → got ≡ short_at l st.at.at
    → (step : ℕ) (next : Cursor) → got ≡ Some (step, next) → (step ≡ 0 → ⊥) → step < n - st.last → Ok (moved step next st) ≡ next_sample l n st
short_sample l n st b z got e step next q k h =
    step_on l n st (varint_at l st.at.at) refl step next (sym (short_reads l st.at.at got e step next q)) b k h ∙ sym (is_step l n st z)

pub less : {more : ℕ} → 0 < more → more - 1 < more
less p = omega arith

-- ---- `Putting` is the invariant

module _ {l : List ℕ} {n vals : ℕ} {held : ListRule} {count : ℕ} where
  pub put_start : {st : State} {row : List ℕ} → Room l n vals count st → n ≤ length row → Putting l n vals held count st row row st count
  put_start r h = record { same = refl; room = r; long = refl; holds = h; fewer = omega arith; all = refl }

  module _ {first : State} {row₀ row : List ℕ} {st : State} {more : ℕ} (w : Putting l n vals held count first row₀ row st more) where
    abbrev whole : ListLeft
    whole = put_entries count l n vals held first row₀

    pub put_end : more ≤ 0 → list_left (Ok st.at) row ≡ whole
    unfolding put_entries
    put_end p = let e : 0 ≡ more = omega arith in rw (← e) at w.same

    module _ (p : 0 < more) where
      pub put_ready : EntryReady l n st
      put_ready = ready l n vals more st p w.room

      pub put_value_there : vals + st.passed / 4 < length l
      put_value_there = omega (arith, w.room.values)

      last_more : suc (more - 1) ≡ more
      last_more = omega arith

      opened : put_entries (suc (more - 1)) l n vals held st row ≡ whole
      opened = rw last_more w.same

      module _ {r : Result State Refusal} {last : List ℕ} (e : turn r last ≡ put_entry l n vals held st row) where
        pub put_stop : {why : Refusal} → r ≡ Err why → list_left (Err why) last ≡ whole
        unfolding put_entries
        put_stop q = rw (← e, q) at opened

        module _ (known : Known l) {t : State} (q : r ≡ Ok t) where
          one_more : Passed l n vals (more - 1) st (rw last_more w.room) t
          one_more = put_one l n vals (more - 1) st (rw last_more w.room) (λ i. (known i).fits) held row t last (rw q at e)

          pub put_on_room : Room l n vals (more - 1) t
          put_on_room = one_more.room

          same_on : put_entries (more - 1) l n vals held t last ≡ whole
          unfolding put_entries
          same_on = rw (← e, q) at opened

          -- an accepted list is accepted from here
          pub put_lists : (k : Bool) → (k ≡ true → Lists whole) → k ≡ true → Lists (put_entries (more - 1) l n vals held t last)
          put_lists k h u = subst Lists (sym same_on) (h u)

          on : length last ≡ length row → Putting l n vals held count first row₀ last t (more - 1)
          on a = record {
            same = same_on;
            room = put_on_room;
            long = a ∙ w.long;
            holds = omega (arith, w.holds);
            fewer = omega (arith, w.fewer);
            all = omega (arith, w.all, one_more.one);
          }

          -- the walk of the short steps goes on from here
          pub put_on_with : {last' : List ℕ} {t' : State} {more' : ℕ} → Putting l n vals held (more - 1) t last last' t' more'
              → length last ≡ length row → Putting l n vals held count first row₀ last' t' more'
          put_on_with g a = record {
            same = g.same ∙ (on a).same;
            room = g.room;
            long = g.long ∙ (on a).long;
            holds = g.holds;
            fewer = omega (arith, g.fewer, w.fewer);
            all = g.all ∙ (on a).all;
          }

      -- a short step
      module _ {step : ℕ} (h : step < n - st.last) where
        pub put_sample : st.last + step < length row
        put_sample = omega (arith, w.holds)

        pub put_against : Against held (suc (st.last + step)) row
        put_against = against_row held n (st.last + step) row w.holds (omega arith)

        pub put_short : Known l → (st.room ≡ 0 → ⊥) → {got : Option (ℕ × Cursor)} → got ≡ short_at l st.at.at → {next : Cursor} → got ≡ Some (step, next)
            → (step ≡ 0 → ⊥) → {value : ℕ} → value ≡ value_at l vals st.passed
            → {b : Bool} → b ≡ allows held (get_or row (st.last + step) 0) value → not b ≡ false
            → Putting l n vals held count first row₀ (set row (st.last + step) value) (bump (moved step next st)) (more - 1)
        put_short known z {got} e {next} q k {value} v {b} f t =
            on (put_entry_on l n st _ (short_sample l n st w.room.below z got e step next q k h) (moved step next st) refl
            vals held row value v b f (not-false b t)) known refl (length-set row (st.last + step) value)

pub ruleset put_laws = (put_start, put_end, put_ready, put_value_there, put_stop, put_on_room, put_on_with)
