-- The walk over a run that is checked, at once.
-- Assumes nothing.
use Rattle.std.specs.Prelude.{Some}
use mathlib.Core.Path.{◌≡◌, refl, sym, ◌∙◌}
use Prim.Native.Nat.{ℕ, zero, suc, ◌+◌, ◌-◌, ◌/◌, ◌≤◌, ◌<◌}
use native.Mathlib.Omega.{arith}
use mathlib.Core.Bool.{Bool, true}
use mathlib.Core.List.{List}
use lib.ListN.{get_or}
use Rattle.base_cursor.specs.Steps.{cursor_at, short_at}
use Rattle.base_cursor.proofs.ShortLaws.{short_one, short_two}
use Rattle.read_list.specs.Entries.{value_at, allows, Against}
use Rattle.read_list.specs.Room.{Room}
use Rattle.read_list.specs.Walked.{Checking}
use Rattle.read_list.specs.Runs.{AllOff, Step, one, two, Steps, none, further, RunFrom, past, after}
use Rattle.read_list.specs.declared.StepRun.{StepRun}
use Rattle.read_list.specs.declared.ListRule.{ListRule}
use Rattle.read_list.specs.declared.State.{State}
use Rattle.read_list.proofs.NumberLaws.{Known}
use Rattle.read_list.proofs.CheckLaws.{check_start, check_short}

-- a step of a run is read as it is, and is not 0
pub reads : {l : List ℕ} {here step next : ℕ} → Step l here step next → Some (step, cursor_at next) ≡ short_at l here
reads {l} {here} (one h p q) = short_one l here h q
reads {l} {here} (two h p q b) = short_two l here (omega arith) p h b (λ z. omega arith)

pub some : {l : List ℕ} {here step next : ℕ} → Step l here step next → step ≡ 0 → ⊥
some (one h p q) z = omega arith
some (two h p q b) z = omega arith

-- ---- a run is checked

module _ {l : List ℕ} {n vals : ℕ} {held : ListRule} {row : List ℕ} (known : Known l) {first : State} {count : ℕ} (room : Room l n vals count first)
    (against : Against held n row) (off : AllOff l vals (first.passed + count) held) where
  passes : {k here sum : ℕ} → Steps l first.at.at k here sum → k ≤ first.room → k ≤ count → first.last + sum < n
      → Checking l n vals held count first row (past first k (first.last + sum) here) (count - k)
  passes none a b h =
      let e : first.room - 0 ≡ first.room = omega arith in
      let f : first.last + 0 ≡ first.last = omega arith in
      let g : first.passed + 0 ≡ first.passed = omega arith in
      let i : count - 0 ≡ count = omega arith in
      rw (e, f, g, i) (check_start room against)
  passes (further {k} {here} {sum} {step} {next} s is) a b h =
      let w : Checking l n vals held count first row (past first k (first.last + sum) here) (count - k) = passes s (omega arith) (omega arith) (omega arith) in
      let e : first.room - suc k ≡ first.room - k - 1 = omega arith in
      let f : first.last + (sum + step) ≡ first.last + sum + step = omega arith in
      let g : first.passed + suc k ≡ first.passed + k + 1 = omega arith in
      let i : count - suc k ≡ count - k - 1 = omega arith in
      let may : allows held (get_or row (first.last + sum + step) 0) (value_at l vals (first.passed + k)) ≡ true
      = off.each (first.passed + k) (omega arith) _ in
      rw (e, f, g, i) (check_short w (omega arith) (omega arith) known (λ z. omega arith) (reads is) refl (some is) refl (sym may) refl)

  pub run_checked : {run : StepRun} → RunFrom l n first count run → Checking l n vals held count first row (after first run) (count - run.count)
  run_checked r = passes r.steps r.group r.fewer r.below

-- the room that is left after it
pub run_room : {l : List ℕ} {n vals count : ℕ} {first st : State} {run : StepRun} → Room l n vals count first → RunFrom l n first count run
    → st ≡ after first run → Room l n vals (count - run.count) st
run_room {l} {n} {vals} {count} {first} {st} {run} r g e =
    let k : ℕ = run.count in
    let f : (count - k + (63 - (first.room - k))) / 64 ≡ (count + (63 - first.room)) / 64 = omega (arith, g.group, g.fewer, r.group) in
    let b : first.passed ≡ 0 → first.room ≡ 0 = r.begun in
    rw e (record {
      few = omega (arith, r.few, g.fewer);
      group = omega (arith, r.group);
      begun = λ z. let y : first.room ≡ 0 = b (omega arith) in omega arith;
      below = g.below;
      steps = g.inside;
      from = omega (arith, r.from);
      values = omega (arith, r.values, g.fewer);
      heads = rw f r.heads;
      sizes = rw f (sizes_left vals first.passed k first.room r.sizes b g.group);
    })
  where
    -- no run starts before the first entry
    sizes_left : {x : ℕ} (y p k room : ℕ) → x ≤ y + (1 - p) → (p ≡ 0 → room ≡ 0) → k ≤ room → x ≤ y + (1 - (p + k))
    sizes_left y zero k room h b a = let z : room ≡ 0 = b refl in omega arith
    sizes_left y (suc p) k room h b a = omega arith

pub check_run : {l : List ℕ} {n vals : ℕ} {held : ListRule} {count : ℕ} {first st : State} {row : List ℕ} {st' : State} {more' : ℕ} → Known l
    → Room l n vals count first → Against held n row → {off : Bool} → (off ≡ true → AllOff l vals (first.passed + count) held) → off ≡ true
    → {run : StepRun} → RunFrom l n first count run → st ≡ after first run → Checking l n vals held (count - run.count) st row st' more'
    → Checking l n vals held count first row st' more'
check_run known room against {off} f t {run} g e w =
    let c = run_checked known room against (f t) g in
    let d : Checking _ _ _ _ _ _ _ _ _ = rw e at w in
    record {
      same = d.same ∙ c.same;
      room = w.room;
      against = against;
      fewer = omega (arith, w.fewer);
      all = d.all ∙ c.all;
    }

pub ruleset group_laws = (run_room, check_run)
