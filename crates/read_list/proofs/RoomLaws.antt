-- The room that is left after an entry.
-- Assumes nothing.
use Rattle.std.specs.Prelude.{Result, Ok, Err}
use Rattle.format.specs.declared.Refusal.{Refusal}
use mathlib.Core.Path.{◌≡◌, refl, sym, subst}
use Prim.Native.Nat.{ℕ, suc, ◌+◌, ◌-◌, ◌*◌, ◌/◌, ◌<◌}
use native.Mathlib.Omega.{arith}
use native.Mathlib.Nat.{mul-suc}
use mathlib.Core.List.{List}
use lib.ListN.{get_or}
use lib.Dec.{eqb}
use borrow.Author.Tests.{eqb-true, eqb-false}
use Rattle.format.proofs.Rules.{by_test}
use Rattle.format.specs.Difflist.{number_width}
use Rattle.base_cursor.specs.Steps.{cursor_at, varint_at}
use Rattle.base_cursor.specs.declared.Cursor.{Cursor}
use Rattle.base_cursor.proofs.VarintLaws.{Read, was_read}
use Rattle.read_list.specs.Entries.{value_at, allows, headed, moved, take_head, take_step, group_bytes, next_head, next_sample}
use Rattle.read_list.specs.Entries.{bump, Turn, turn, put_value, put_entry, check_value, check_entry}
use Rattle.read_list.specs.Room.{Room, EntryReady}
use Rattle.read_list.specs.declared.ListRule.{ListRule}
use Rattle.read_list.specs.declared.State.{State}
use Rattle.read_list.proofs.SampleLaws.{Goes, by_goes, by_reach}

-- a head more
one_head : (w g h : ℕ) → g ≡ suc h → w * g ≡ w * h + w
one_head w g h e = rw e (mul-suc w h)

pub ready : (l : List ℕ) (n vals more : ℕ) (st : State) → 0 < more → Room l n vals more st → EntryReady l n st
ready l n vals more st p r =
    record {
      few = omega (arith, r.few);
      below = r.below;
      steps = r.steps;
      from = omega (arith, r.from, r.steps);
      head = λ z.
          let e : (more + (63 - st.room)) / 64 ≡ suc ((more - 1) / 64) = omega arith in
          omega (arith, r.heads, one_head (number_width n) _ _ e);
      size = λ z k. omega (arith, r.sizes, r.values);
    }

-- the room after the sample that comes next
module _ (l : List ℕ) (n vals more : ℕ) (st : State) (r : Room l n vals (suc more) st) where
  -- after the entry: it is one more that is passed
  pub record Passed (t : State) : Type 0 where
    pub room : Room l n vals more t
    pub one : t.passed ≡ st.passed + 1

  abbrev Next : State → Type 0
  Next t = Passed (bump t)

  room_head : (least : ℕ) (size : Cursor) → st.room ≡ 0 → size.at + (1 - st.passed) ≡ st.size.at + 1 → Goes Next (take_head l n least size st)
  unfolding take_head
  room_head least size z s =
      by_reach Next n least st.head.at (headed _ _ size st) (λ a b.
      let e : (suc more + (63 - st.room)) / 64 ≡ suc (more / 64) = omega arith in
      let f : (more + (63 - 63)) / 64 ≡ more / 64 = omega arith in
      record {
        room = record {
          few = omega (arith, r.few);
          group = omega arith;
          begun = λ o. absurd (omega arith);
          below = b;
          steps = r.steps;
          from = omega arith;
          values = omega (arith, r.values);
          heads = rw f (omega (arith, r.heads, one_head (number_width n) _ _ e));
          sizes = rw f (omega (arith, r.sizes));
        };
        one = refl;
      })

  room_step : ((i : ℕ) → get_or l i 0 < 256) → (m : Result (ℕ × Cursor) Refusal) → varint_at l st.at.at ≡ m → (st.room ≡ 0 → ⊥) → (st.passed ≡ 0 → ⊥)
      → Goes Next (take_step m n st)
  unfolding take_step
  room_step y (Err why) e z k = tt
  room_step y (Ok (d, c)) e z k =
      by_reach Next n (suc st.last) st.at.at (moved d c st) (λ a b.
      let f : (suc more + (63 - st.room)) / 64 ≡ (more + (63 - (st.room - 1))) / 64 = omega (arith, r.group) in
      let u : 1 - st.passed ≡ 0 = omega arith in
      let v : 1 - (st.passed + 1) ≡ 0 = omega arith in
      let q : Read l st.at.at d c = was_read l st.at.at d c y r.steps (sym e) in
      record {
        room = record {
          few = omega (arith, r.few);
          group = omega (arith, r.group);
          begun = λ o. absurd (omega arith);
          below = b;
          steps = q.inside;
          from = omega (arith, r.from, q.on);
          values = omega (arith, r.values);
          heads = rw f at r.heads;
          sizes = rw v (rw (f, u) at r.sizes);
        };
        one = refl;
      })

  room_sample : ((i : ℕ) → get_or l i 0 < 256) → Goes Next (next_sample l n st)
  unfolding next_sample next_head
  room_sample y =
      by_test (Goes Next) (eqb st.room 0)
      (λ t.
      let z : st.room ≡ 0 = eqb-true st.room 0 t in
      by_test (Goes Next) (eqb st.passed 0)
      (λ t'. let k : st.passed ≡ 0 = eqb-true st.passed 0 t' in room_head 0 st.size z (omega arith))
      (λ t'.
      let k : st.passed ≡ 0 → ⊥ = eqb-false st.passed 0 t' in
      by_goes Next (eqb st.at.at (st.from.at + group_bytes l st)) _ _
      (λ t''. room_head (suc st.last) (cursor_at (st.size.at + 1)) z (omega arith))))
      (λ t.
      let z : st.room ≡ 0 → ⊥ = eqb-false st.room 0 t in
      room_step y (varint_at l st.at.at) refl z (λ k. z (r.begun k)))

  -- and after the entry, checked or put
  room_check : (held : ListRule) (row : List ℕ) (s : Result State Refusal) → Goes Next s → Goes Passed (check_value l vals held s row)
  unfolding check_value
  room_check held row (Err why) g = tt
  room_check held row (Ok t) g = by_test (Goes Passed) (allows held (get_or row t.last 0) (value_at l vals t.passed)) (λ a. g) (λ a. tt)

  pub check_one : ((i : ℕ) → get_or l i 0 < 256) → (held : ListRule) (row : List ℕ) (t : State) → Ok t ≡ check_entry l n vals held st row → Passed t
  check_one y held row t e = subst (Goes Passed) (sym e) (room_check held row (next_sample l n st) (room_sample y))

  pub checked_room : ((i : ℕ) → get_or l i 0 < 256) → (held : ListRule) (row : List ℕ) (t : State) → Ok t ≡ check_entry l n vals held st row
      → Room l n vals more t
  checked_room y held row t e = (check_one y held row t e).room

  abbrev Turned : Turn → Type 0
  Turned (turn x last) = Goes Passed x

  room_put : (held : ListRule) (row : List ℕ) (s : Result State Refusal) → Goes Next s → Turned (put_value l vals held s row)
  unfolding put_value
  room_put held row (Err why) g = tt
  room_put held row (Ok t) g = by_test Turned (allows held (get_or row t.last 0) (value_at l vals t.passed)) (λ a. g) (λ a. tt)

  pub put_one : ((i : ℕ) → get_or l i 0 < 256) → (held : ListRule) (row : List ℕ) (t : State) (last : List ℕ)
      → turn (Ok t) last ≡ put_entry l n vals held st row → Passed t
  put_one y held row t last e = subst Turned (sym e) (room_put held row (next_sample l n st) (room_sample y))
