-- A turn of the loop of `put_known_steps`: the list was accepted before, so what `put_short_steps` tests of a step and its value holds.
-- Assumes nothing.
use Rattle.std.specs.Prelude.{Option, Some, Ok, Err}
use mathlib.Core.Path.{◌≡◌, refl, sym, ◌∙◌, subst}
use Prim.Native.Nat.{ℕ, suc, ◌+◌, ◌-◌, ◌/◌, ◌≤◌, ◌<◌}
use native.Mathlib.Omega.{arith}
use mathlib.Core.Bool.{Bool, true, false}
use mathlib.Core.List.{List}
use lib.ListN.{get_or, length, set, length-set}
use lib.Dec.{leb, ltb}
use mir.Syntax.{w64}
use mir.Val.{Fits}
use borrow.Author.Tests.{leb-true, ltb-true}
use Rattle.format.specs.declared.Refusal.{Refusal}
use Rattle.format.specs.Base.{pick}
use Rattle.base_cursor.specs.Steps.{varint_at, short_at}
use Rattle.base_cursor.specs.declared.Cursor.{Cursor}
use Rattle.base_cursor.proofs.ShortLaws.{short_reads}
use Rattle.read_list.specs.Entries.{value_at, allows, moved, take_step, bump, turn, put_value, ListLeft, Lists, go_on, put_entries}
use Rattle.read_list.specs.Room.{Room}
use Rattle.read_list.specs.Walked.{Putting, Accepted, PutKnown}
use Rattle.read_list.specs.Runs.{past}
use Rattle.read_list.specs.declared.ListRule.{ListRule}
use Rattle.read_list.specs.declared.State.{State}
use Rattle.read_list.proofs.NumberLaws.{Known}
use Rattle.read_list.proofs.SampleLaws.{is_step}
use Rattle.read_list.proofs.ShortWalks.{ShortWalk, walk_start, walk_end, walk_sample, walk_turn}

-- ---- a step of a list that is not refused

module _ (l : List ℕ) (n vals : ℕ) (held : ListRule) (row : List ℕ) (rest : State → List ℕ → ListLeft) where
  -- its value
  allowed : (st : State) (new : List ℕ) (why : Refusal) (b : Bool) → Lists (go_on (pick b (turn (Ok (bump st)) new) (turn (Err why) row)) rest)
      → b ≡ true
  allowed st new why true h = refl
  allowed st new why false h = absurd h

  -- its sample and its value
  reached : (st : State) (why why₁ : Refusal) (b c : Bool)
      → Lists (go_on (put_value l vals held (pick b (pick c (Ok st) (Err why)) (Err why₁)) row) rest)
      → (b ≡ true) × (c ≡ true) × (allows held (get_or row st.last 0) (value_at l vals st.passed) ≡ true)
  unfolding put_value
  reached st why why₁ true true h = (refl, refl, allowed st _ _ (allows held (get_or row st.last 0) (value_at l vals st.passed)) h)
  reached st why why₁ true false h = absurd h
  reached st why why₁ false c h = absurd h

pub record StepKnown (l : List ℕ) (n vals : ℕ) (held : ListRule) (row : List ℕ) (st : State) (step : ℕ) : Type 0 where
  pub some : step ≡ 0 → ⊥
  pub near : step < n - st.last
  pub allows_it : allows held (get_or row (st.last + step) 0) (value_at l vals st.passed) ≡ true

step_known : (l : List ℕ) (n vals : ℕ) (held : ListRule) (row : List ℕ) (st : State) (more : ℕ) → Lists (put_entries (suc more) l n vals held st row)
    → (st.room ≡ 0 → ⊥) → (step : ℕ) (next : Cursor) → varint_at l st.at.at ≡ Ok (step, next) → StepKnown l n vals held row st step
unfolding put_entries take_step
step_known l n vals held row st more h z step next v =
    let there = reached l n vals held row _ (moved step next st) _ _ (leb (suc st.last) (st.last + step)) (ltb (st.last + step) n)
    (rw (is_step l n st z, v) at h) in
    record {
      some = λ e. omega (arith, leb-true (suc st.last) (st.last + step) there.0);
      near = omega (arith, ltb-true (st.last + step) n there.1);
      allows_it = there.2;
    }

-- ---- in a turn, under one rule

module _ {l : List ℕ} {n vals : ℕ} {held : ListRule} {count : ℕ} {first : State} {least : ℕ} {row₀ row : List ℕ} {here : Cursor} {last done : ℕ}
    (w : ShortWalk l n vals held count first least row₀ row here last done) (a : Lists (put_entries count l n vals held first row₀)) (p : done < least)
    {got : Option (ℕ × Cursor)} (e : got ≡ short_at l here.at) {step : ℕ} {next : Cursor} (q : got ≡ Some (step, next)) where
  known_now : StepKnown l n vals held row (past first done last here.at) step
  known_now =
      let more : suc (count - done - 1) ≡ count - done = omega (arith, w.fewer) in
      step_known l n vals held row (past first done last here.at) (count - done - 1)
      (rw more (subst Lists (sym w.putting.same) a))
      (λ y. omega (arith, w.group)) step next (sym (short_reads l here.at got e step next q))

  known_turn : Known l → {value : ℕ} → value ≡ value_at l vals (first.passed + done)
      → ShortWalk l n vals held count first least row₀ (set row (last + step) value) next (last + step) (done + 1)
  known_turn known {value} v =
      walk_turn w p known_now.near known e q known_now.some v {b = true} (rw v (sym known_now.allows_it)) refl

-- ---- under any rule by which the list is accepted: one there is

pub record Walks (l : List ℕ) (n vals count : ℕ) (first : State) (least : ℕ) (row₀ row : List ℕ) (here : Cursor) (last done : ℕ) : Type 0 where
  pub goes : (held : ListRule) → Lists (put_entries count l n vals held first row₀) → ShortWalk l n vals held count first least row₀ row here last done
  pub long : length row ≡ length row₀
  pub inside : done ≤ least
  pub group : least ≤ first.room
  pub fewer : least ≤ count
  pub values : vals + (first.passed + count + 3) / 4 ≤ length l

pub walks_start : {l : List ℕ} {n vals count : ℕ} {first : State} {least : ℕ} {row : List ℕ} → Room l n vals count first → n ≤ length row
    → least ≤ first.room → least ≤ count → Walks l n vals count first least row row first.at first.last 0
walks_start r h g f = record {
  goes = λ held a. walk_start r h g f;
  long = refl;
  inside = omega arith;
  group = g;
  fewer = f;
  values = r.values;
}

module _ {l : List ℕ} {n vals count : ℕ} {first : State} {least : ℕ} {row₀ row : List ℕ} {here : Cursor} {last done : ℕ}
    (w : Walks l n vals count first least row₀ row here last done) where
  pub walks_end : {st : State} {more : ℕ} → st ≡ past first done last here.at → more ≡ count - done → PutKnown l n vals count first row₀ row st more
  walks_end e f = record { goes = λ held a. walk_end (w.goes held a) e f }

  module _ (p : done < least) where
    pub walks_value : vals + (first.passed + done) / 4 < length l
    walks_value = omega (arith, w.values, w.fewer)

    module _ (b : Accepted l n vals count first row₀) {got : Option (ℕ × Cursor)} (e : got ≡ short_at l here.at) {step : ℕ} {next : Cursor}
        (q : got ≡ Some (step, next)) where
      near : step < n - last
      near = (known_now (w.goes b.held b.lists) b.lists p e q).near

      pub walks_fits : Fits w64 n → Fits w64 (last + step)
      walks_fits f = omega (arith, near, f.fits)

      pub walks_sample : last + step < length row
      walks_sample = walk_sample (w.goes b.held b.lists) p near

      pub walks_turn : Known l → {value : ℕ} → value ≡ value_at l vals (first.passed + done)
          → Walks l n vals count first least row₀ (set row (last + step) value) next (last + step) (done + 1)
      walks_turn known {value} v = record {
        goes = λ held a. known_turn (w.goes held a) a p e q known v;
        long = length-set row (last + step) value ∙ w.long;
        inside = omega arith;
        group = w.group;
        fewer = w.fewer;
        values = w.values;
      }

-- ---- where `known` tells it: under the rule at hand

module _ (l : List ℕ) (n vals : ℕ) (held : ListRule) (count : ℕ) (first : State) (row₀ : List ℕ) (k : Bool)
    (h : k ≡ true → Lists (put_entries count l n vals held first row₀)) (t : k ≡ true) where
  pub known_some : Accepted l n vals count first row₀
  known_some = record { held = held; lists = h t }

  pub known_goes : {row : List ℕ} {st : State} {more : ℕ} → PutKnown l n vals count first row₀ row st more
      → Putting l n vals held count first row₀ row st more
  known_goes g = g.goes held (h t)

pub ruleset walks_laws = (walks_start, walks_end, walks_value, walks_fits, walks_sample)
