-- A turn of the loop of `count_entries`: what an entry does to the count of heterozygous samples.
-- Assumes nothing.
use Rattle.std.specs.Prelude.{Result, Ok, Err}
use Rattle.base_cursor.specs.declared.Cursor.{Cursor}
use mathlib.Core.Path.{◌≡◌, refl, sym, ap, ◌∙◌, subst}
use Prim.Native.Nat.{ℕ, zero, suc, ◌+◌, ◌-◌, ◌/◌, ◌≤◌, ◌<◌}
use native.Mathlib.Omega.{arith}
use mathlib.Core.Bool.{Bool, true, false}
use mathlib.Core.List.{List, [], ◌∷◌}
use lib.ListN.{get_or, length, set, length-set}
use lib.Seq.{get_or-set_other}
use mir.Syntax.{w64}
use mir.Val.{Fits}
use Rattle.format.specs.declared.Refusal.{Refusal}
use Rattle.format.specs.Base.{pick, refusal}
use Rattle.format.specs.Limits.{most_samples}
use Rattle.format.specs.Phase.{heterozygous_count}
use Rattle.format.proofs.Rules.{by_test}
use Rattle.format.proofs.PhaseLaws.{heterozygous_count_most}
use Rattle.base_calls.specs.CallCount.{call_count}
use Rattle.base_calls.proofs.CallCountLaws.{call_few, count_cons}
use Rattle.read_list.specs.Entries.{value_at, allows, Against, next_sample, bump, turn, put_value, put_entry, put_entries, check_value, check_entry}
use Rattle.read_list.specs.Room.{EntryReady, Room}
use Rattle.read_list.specs.declared.ListRule.{ListRule}
use Rattle.read_list.specs.declared.State.{State}
use Rattle.read_list.proofs.NumberLaws.{Known}
use Rattle.read_list.proofs.SampleLaws.{Goes, Below, sample_below}
use Rattle.read_list.proofs.LoopLaws.{put_start, put_end, put_ready, put_value_there, put_stop, put_on_room, put_on_with}
use Rattle.read_calls.specs.Bases.{rule_of, category_before, base_row, BaseAt, BaseThere}
use Rattle.read_calls.specs.Tallied.{Counting}
use Rattle.read_calls.specs.Counted.{counted_left}
use Rattle.read_calls.specs.declared.StoredBase.{StoredBase}
use Rattle.read_calls.specs.declared.Tally.{Tally}
use Rattle.read_calls.proofs.BaseLaws.{base_at, base_against, same_rule, before_length, base_at_0}

-- ---- H of a row after a call is set: it leaves the count, and its new category comes in

pub count_set : (row : List ℕ) (sample value : ℕ) → sample < length row
    → heterozygous_count (set row sample value) + call_count (get_or row sample 0) ≡ heterozygous_count row + call_count value
count_set [] sample value h = absurd (omega arith)
count_set (category ∷ row) zero value h = omega (arith, count_cons category row, count_cons value row)
count_set (category ∷ row) (suc sample) value h =
    omega (arith, count_cons category row, count_cons category (set row sample value), count_set row sample value (omega arith))

-- ---- an entry that is checked against the row would be put so into `work`

-- what `work` would then hold
abbrev placed : Result State Refusal → List ℕ → ℕ → List ℕ
placed (Err why) work value = work
placed (Ok t) work value = set work t.last value

module _ (l : List ℕ) (vals : ℕ) (held : ListRule) (row work : List ℕ) where
  abbrev asked : List ℕ → State → Bool
  asked categories t = allows held (get_or categories t.last 0) (value_at l vals t.passed)

  value_put : (x : Result State Refusal) (value : ℕ) → ((t : State) → x ≡ Ok t → (value ≡ value_at l vals t.passed) × (asked work t ≡ asked row t))
      → let r = check_value l vals held x row in turn r (placed r work value) ≡ put_value l vals held x work
  unfolding check_value put_value
  value_put (Err why) value same = refl
  value_put (Ok t) value same = rw ((same t refl).0, (same t refl).1) (by_value (asked row t))
    where
      by_value : (b : Bool) → let r = pick b (Ok (bump t)) (Err (refusal 17 (vals + t.passed / 4))) in
          turn r (placed r work (value_at l vals t.passed))
          ≡ pick b (turn (Ok (bump t)) (set work t.last (value_at l vals t.passed)))
          (turn (Err (refusal 17 (vals + t.passed / 4))) work)
      by_value true = refl
      by_value false = refl

-- ---- the place after an entry

module _ (l : List ℕ) (n vals : ℕ) (held : ListRule) (row : List ℕ) (st : State) where
  pub record Passes (t : State) : Type 0 where
    pub last : t.last < n
    pub passed : t.passed ≡ st.passed + 1
    pub above : (st.passed ≡ 0 → ⊥) → st.last < t.last

  value_passes : (x : Result State Refusal) → x ≡ next_sample l n st → Goes Passes (check_value l vals held x row)
  unfolding check_value
  value_passes (Err why) e = tt
  value_passes (Ok t) e =
      let b : Below l n st t = sample_below l n st (Ok t) t e refl in
      by_test (Goes Passes) (allows held (get_or row t.last 0) (value_at l vals t.passed))
      (λ a. record { last = b.last; passed = omega (arith, b.passed); above = b.above }) (λ a. tt)

  pub entry_passes : {r : Result State Refusal} → r ≡ check_entry l n vals held st row → {t : State} → r ≡ Ok t → Passes t
  entry_passes e q = subst (Goes Passes) (sym e ∙ q) (value_passes (next_sample l n st) refl)

-- ---- `Counting` is the invariant

abbrev pub tally : State → ℕ → ℕ → ℕ → Tally
tally st more had lost = record { st = st; more = more; had = had; lost = lost }

module _ {l : List ℕ} {n vals : ℕ} {base : StoredBase} {row : List ℕ} where
  pub count_start : {t : Tally} → Room l n vals t.more t.st → n ≤ most_samples → BaseThere base n l row
      → t.had ≡ heterozygous_count (base_row base n l row) → t.lost ≡ 0 → Counting l n vals base t.more t.st row t
  count_start r k g e z = record {
    work = base_row base n l row;
    putting = put_start r (omega (arith, before_length base l row 0 n));
    later = λ j above i. base_at_0 base l row n j i;
    tally = omega (arith, e, z);
    few = omega (arith, z);
    samples = k;
    there = g;
  }

  module _ {count : ℕ} {first : State} {t : Tally} (w : Counting l n vals base count first row t) where
    abbrev whole : Result (Cursor × ℕ) Refusal
    whole = counted_left (put_entries count l n vals (rule_of base) first (base_row base n l row))

    pub count_kept : t.lost ≤ t.had
    count_kept = omega (arith, w.tally)

    pub count_end : t.more ≤ 0 → Ok (t.st.at, t.had - t.lost) ≡ whole
    unfolding counted_left
    count_end p =
        let e : t.had - t.lost ≡ heterozygous_count w.work = omega (arith, w.tally) in
        rw e (ap counted_left (put_end w.putting p))

    module _ (p : 0 < t.more) where
      pub count_ready : EntryReady l n t.st
      count_ready = put_ready w.putting p

      pub count_value_there : vals + t.st.passed / 4 < length l
      count_value_there = put_value_there w.putting p

      pub count_against : {held : ListRule} → held ≡ rule_of base → Against held n row
      count_against k = rw k (base_against base n l row w.there)

      pub had_fits : (value : ℕ) {a : ℕ} → a ≡ call_count value → Fits w64 (t.had + a)
      had_fits value e =
          omega (
            arith,
            w.tally,
            w.few,
            w.putting.room.few,
            w.samples,
            call_few value,
            heterozygous_count_most w.work,
            w.putting.long,
            before_length base l row 0 n,
          )

      pub lost_fits : (old : ℕ) {b : ℕ} → b ≡ call_count old → Fits w64 (t.lost + b)
      lost_fits old e = omega (arith, w.few, w.putting.room.few, call_few old)

      module _ {held : ListRule} (k : held ≡ rule_of base) {r : Result State Refusal} (got : r ≡ check_entry l n vals held t.st row) where
        e : r ≡ check_entry l n vals (rule_of base) t.st row
        e = rw k at got

        put_so : turn r (placed r w.work (value_at l vals t.st.passed)) ≡ put_entry l n vals (rule_of base) t.st w.work
        put_so =
            rw e
            (value_put l vals (rule_of base) row w.work (next_sample l n t.st) (value_at l vals t.st.passed)
            (λ x q.
            let b : Below l n t.st x = sample_below l n t.st _ x refl q in
            let v : ℕ = value_at l vals x.passed in
            let old : get_or w.work x.last 0 ≡ category_before base l row x.last = w.later x.last b.above b.last in
            (ap (value_at l vals) (sym b.passed), ap (λ (z : ℕ). allows (rule_of base) z v) old ∙ sym (same_rule base l row x.last v))))

        pub count_stop : {why : Refusal} → r ≡ Err why → Err why ≡ whole
        unfolding counted_left
        count_stop q = ap counted_left (put_stop w.putting p put_so q)

        module _ {x : State} (q : r ≡ Ok x) where
          passes : Passes l n vals (rule_of base) row t.st x
          passes = entry_passes l n vals (rule_of base) row t.st e q

          pub count_base : BaseAt base l row x.last
          count_base = base_at base n l row x.last w.there passes.last

          pub count_on : Known l → {value a : ℕ} → value ≡ value_at l vals t.st.passed → a ≡ call_count value
              → {old b : ℕ} → old ≡ category_before base l row x.last → b ≡ call_count old
              → Counting l n vals base count first row (tally x (t.more - 1) (t.had + a) (t.lost + b))
          count_on known {value} {a} v f {old} {b} o g =
              let new : List ℕ = set w.work x.last value in
              let put : turn (Ok x) new ≡ put_entry l n vals (rule_of base) t.st w.work = rw v (rw q at put_so) in
              let long : length new ≡ length w.work = length-set w.work x.last value in
              let room : Room l n vals (t.more - 1) x = put_on_room w.putting p put known refl in
              let was : get_or w.work x.last 0 ≡ old = w.later x.last passes.above passes.last ∙ sym o in
              record {
                work = new;
                putting = put_on_with w.putting p put known refl (put_start room (omega (arith, w.putting.holds))) long;
                later = λ j above i.
                    let higher : x.last < j = above (λ z. omega (arith, passes.passed)) in
                    get_or-set_other w.work x.last j value 0 (λ e. omega arith) ∙ w.later j (λ k. omega (arith, passes.above k)) i;
                tally = omega (arith, w.tally, ap call_count was, count_set w.work x.last value (omega (arith, passes.last, w.putting.holds)));
                few = omega (arith, w.few, passes.passed, call_few old);
                samples = w.samples;
                there = w.there;
              }

pub ruleset count_entries_laws =
    (count_start, count_kept, count_end, count_ready, count_value_there, count_against, had_fits, lost_fits, count_stop, count_base, count_on)
