-- A turn of the loop of `count_short_steps`, and what it does for the walk that it is part of.
-- Assumes nothing.
use Rattle.std.specs.Prelude.{Option, Some, Result, Ok}
use Rattle.format.specs.declared.Refusal.{Refusal}
use mathlib.Core.Path.{◌≡◌, refl}
use Prim.Native.Nat.{ℕ, suc, ◌+◌, ◌-◌, ◌/◌, ◌<◌}
use native.Mathlib.Omega.{arith}
use mathlib.Core.Bool.{Bool, false, not}
use mathlib.Core.List.{List}
use lib.ListN.{get_or, length}
use mir.Syntax.{w64}
use mir.Val.{Fits}
use borrow.Author.Tests.{not-false}
use Rattle.format.proofs.PhaseLaws.{heterozygous_count_most}
use Rattle.base_calls.specs.CallCount.{call_count}
use Rattle.base_calls.proofs.CallCountLaws.{call_few}
use Rattle.base_cursor.specs.Steps.{short_at}
use Rattle.base_cursor.specs.declared.Cursor.{Cursor}
use Rattle.read_list.specs.Entries.{value_at, allows, Against, moved, bump, check_entry}
use Rattle.read_list.specs.declared.ListRule.{ListRule}
use Rattle.read_list.specs.declared.State.{State}
use Rattle.read_list.proofs.NumberLaws.{Known}
use Rattle.read_list.proofs.EntryLaws.{against_sample, check_on, check_entry_on}
use Rattle.read_list.proofs.RoomLaws.{checked_room}
use Rattle.read_list.proofs.LoopLaws.{short_sample}
use Rattle.read_calls.specs.Bases.{rule_of, category_before, BaseAt}
use Rattle.read_calls.specs.Tallied.{Counting, Standing, Stepping}
use Rattle.read_calls.specs.declared.StoredBase.{StoredBase}
use Rattle.read_calls.specs.declared.Tally.{Tally}
use Rattle.read_calls.proofs.BaseLaws.{base_at, base_against, before_length}
use Rattle.read_calls.proofs.CountedEntryLaws.{Passes, entry_passes, tally, count_on}

module _ {l : List ℕ} {n vals : ℕ} {base : StoredBase} {row : List ℕ} where
  -- a walk stands where it is
  pub count_standing : {count : ℕ} {first : State} {t : Tally} → Counting l n vals base count first row t → Standing l n vals base row t
  count_standing w = record {
    room = w.putting.room;
    few_had = omega (arith, w.tally, w.few, heterozygous_count_most w.work, w.putting.long, before_length base l row 0 n);
    few_lost = w.few;
    samples = w.samples;
    there = w.there;
  }

  pub step_start : {from : Tally} → Standing l n vals base row from → Stepping l n vals base row from from
  step_start s = record { goes = λ count first w. w; standing = s; fewer = omega arith }

  module _ {from : Tally} {st : State} {more had lost : ℕ} (w : Stepping l n vals base row from (tally st more had lost)) (p : 0 < more) where
    pub step_value_there : vals + st.passed / 4 < length l
    step_value_there = omega (arith, w.standing.room.values)

    pub step_passed : Fits w64 (st.passed + 1)
    step_passed = omega (arith, w.standing.room.few)

    pub step_had : (value : ℕ) {a : ℕ} → a ≡ call_count value → Fits w64 (had + a)
    step_had value e = omega (arith, w.standing.few_had, w.standing.samples, w.standing.room.few, call_few value)

    pub step_lost : (old : ℕ) {b : ℕ} → b ≡ call_count old → Fits w64 (lost + b)
    step_lost old e = omega (arith, w.standing.few_lost, w.standing.room.few, call_few old)

    last_more : suc (more - 1) ≡ more
    last_more = omega arith

    step_on : Known l → {r : Result State Refusal} → r ≡ check_entry l n vals (rule_of base) st row → {t : State} → r ≡ Ok t
        → {value a : ℕ} → value ≡ value_at l vals st.passed → a ≡ call_count value
        → {old b : ℕ} → old ≡ category_before base l row t.last → b ≡ call_count old
        → Stepping l n vals base row from (tally t (more - 1) (had + a) (lost + b))
    step_on known e {t} q {value} v f {old} o g =
        let s : Passes l n vals (rule_of base) row st t = entry_passes l n vals (rule_of base) row st e q in
        record {
          goes = λ count first c. count_on (w.goes count first c) p refl e q known v f o g;
          standing = record {
            room = checked_room l n vals (more - 1) st (rw last_more w.standing.room) (λ i. (known i).fits) (rule_of base) row t (rw q at e);
            few_had = omega (arith, w.standing.few_had, call_few value, s.passed);
            few_lost = omega (arith, w.standing.few_lost, call_few old, s.passed);
            samples = w.standing.samples;
            there = w.standing.there;
          };
          fewer = omega (arith, w.fewer);
        }

    module _ {step : ℕ} (h : step < n - st.last) where
      pub step_base : BaseAt base l row (st.last + step)
      step_base = base_at base n l row (st.last + step) w.standing.there (omega arith)

      pub step_against : {held : ListRule} → held ≡ rule_of base → Against held (suc (st.last + step)) row
      step_against e = rw e (against_sample (rule_of base) n (st.last + step) row (base_against base n l row w.standing.there) (omega arith))

      pub step_sum : Fits w64 (st.last + step)
      step_sum = omega (arith, w.standing.samples)

      pub step_short : Known l → (st.room ≡ 0 → ⊥) → {got : Option (ℕ × Cursor)} → got ≡ short_at l st.at.at → {next : Cursor} → got ≡ Some (step, next)
          → (step ≡ 0 → ⊥) → {value : ℕ} → value ≡ value_at l vals st.passed
          → {held : ListRule} → held ≡ rule_of base → {b : Bool} → b ≡ allows held (get_or row (st.last + step) 0) value → not b ≡ false
          → {a : ℕ} → a ≡ call_count value → {old c : ℕ} → old ≡ category_before base l row (st.last + step) → c ≡ call_count old
          → Stepping l n vals base row from (tally (bump (moved step next st)) (more - 1) (had + a) (lost + c))
      step_short known z {got} e {next} q k {value} v {held} r {b} may t f o g =
          step_on known
          (check_entry_on l n st _ (short_sample l n st w.standing.room.below z got e step next q k h) (moved step next st) refl vals (rule_of base) row _
          (check_on l vals (rule_of base) (moved step next st) row value v b (rw r at may) (not-false b t))) refl v f o g

pub ruleset step_laws = (step_start, step_value_there, step_base, step_against, step_sum, step_had, step_lost)
