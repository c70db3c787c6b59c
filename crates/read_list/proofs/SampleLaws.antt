-- What each way out of `take_head`, `take_step` and `next_head` says, from the tests that led there.
-- Assumes nothing.
use Rattle.std.specs.Prelude.{Result, Ok, Err}
use mathlib.Core.Path.{◌≡◌, refl, sym, ◌∙◌, subst}
use Prim.Native.Nat.{ℕ, suc, ◌+◌, ◌-◌, ◌≤◌, ◌<◌}
use native.Mathlib.Omega.{arith}
use native.Mathlib.Numerals.{add-one}
use mathlib.Core.List.{List}
use mathlib.Core.Bool.{Bool, true, false}
use lib.ListN.{length}
use lib.Dec.{leb, ltb, eqb}
use mir.Syntax.{w64}
use mir.Val.{Fits}
use borrow.Author.Tests.{leb-true, ltb-true, eqb-true, le-leb, lt-leb, lt-ltb, le-ltb, eq-eqb, ne_eqb}
use Rattle.format.specs.declared.Refusal.{Refusal}
use Rattle.format.specs.Base.{pick, refusal}
use Rattle.format.proofs.Rules.{by_test}
use Rattle.format.specs.Difflist.{number_width}
use Rattle.head_index.proofs.ByIndex.{low_byte}
use Rattle.base_cursor.specs.Steps.{cursor_at, number_step, varint_at}
use Rattle.base_cursor.specs.declared.Cursor.{Cursor}
use Rattle.base_cursor.specs.declared.NumberStep.{NumberStep}
use Rattle.read_list.specs.Entries.{headed, moved, reach, take_head, take_step, group_bytes, next_head, next_sample}
use Rattle.read_list.specs.Room.{EntryReady}
use Rattle.read_list.specs.declared.State.{State}
use Rattle.read_list.proofs.NumberLaws.{Known, InMemory, wide, narrow}

-- ---- a sample's two tests

module _ (n least q : ℕ) (st : State) where
  reach_low : st.last < least → Err (refusal 23 q) ≡ reach n least q st
  reach_low h = simp (lt-leb least st.last h)

  reach_high : least ≤ st.last → n ≤ st.last → Err (refusal 24 q) ≡ reach n least q st
  reach_high h g = simp (le-leb least st.last h, le-ltb st.last n g)

  reach_on : least ≤ st.last → st.last < n → Ok st ≡ reach n least q st
  reach_on h g = simp (le-leb least st.last h, lt-ltb st.last n g)

-- ---- a head: w is its width, and `read` the number that was read

module _ (l : List ℕ) (n least : ℕ) (size : Cursor) (st : State) (w : ℕ) (read : NumberStep) (f : w ≡ number_width n)
    (e : read ≡ number_step w l st.head.at) where
  abbrev there : State
  there = record { room = 63; from = st.at; last = read.value; head = read.next; size = size; passed = st.passed; at = st.at }

  head_is : reach n least st.head.at there ≡ take_head l n least size st
  unfolding take_head
  head_is = rw (e, f)

  module _ (why : Refusal) where
    pub head_low : why ≡ refusal 23 st.head.at → read.value < least → Err why ≡ take_head l n least size st
    head_low q h = rw q (reach_low n least st.head.at there h ∙ head_is)

    pub head_high : why ≡ refusal 24 st.head.at → least ≤ read.value → n ≤ read.value → Err why ≡ take_head l n least size st
    head_high q h g = rw q (reach_high n least st.head.at there h g ∙ head_is)

  pub head_on : least ≤ read.value → read.value < n → Ok there ≡ take_head l n least size st
  head_on h g = reach_on n least st.head.at there h g ∙ head_is

pub ruleset head_laws = (head_low, head_high, head_on, wide, narrow)

-- ---- a step: `r` is what its varint was read as

module _ (l : List ℕ) (n : ℕ) (st : State) (r : Result (ℕ × Cursor) Refusal) (e : r ≡ varint_at l st.at.at) where
  pub step_bad : (why : Refusal) → r ≡ Err why → Err why ≡ take_step (varint_at l st.at.at) n st
  unfolding take_step
  step_bad why q = rw (← e, q)

  module _ (d : ℕ) (c : Cursor) (q : r ≡ Ok (d, c)) (b : st.last < n) where
    step_is : reach n (suc st.last) st.at.at (moved d c st) ≡ take_step (varint_at l st.at.at) n st
    unfolding take_step
    step_is = rw (← e, q)

    module _ (why : Refusal) where
      pub step_zero : why ≡ refusal 23 st.at.at → d ≡ 0 → Err why ≡ take_step (varint_at l st.at.at) n st
      step_zero f z = rw f (reach_low n (suc st.last) st.at.at (moved d c st) (omega arith) ∙ step_is)

      pub step_far : why ≡ refusal 24 st.at.at → (d ≡ 0 → ⊥) → n - st.last ≤ d → Err why ≡ take_step (varint_at l st.at.at) n st
      step_far f z h = rw f (reach_high n (suc st.last) st.at.at (moved d c st) (omega arith) (omega arith) ∙ step_is)

    pub step_on : (d ≡ 0 → ⊥) → d < n - st.last → Ok (moved d c st) ≡ take_step (varint_at l st.at.at) n st
    step_on z h = reach_on n (suc st.last) st.at.at (moved d c st) (omega arith) (omega arith) ∙ step_is

pub ruleset step_laws = (step_bad, step_zero, step_far, step_on)

-- ---- the head of the next group: `read` is what the size byte was read as

size_small : (l : List ℕ) (p : ℕ) (read : NumberStep) → read ≡ number_step 1 l p → Known l → read.value < 256
size_small l p read e known = rw (e, ← low_byte p l refl) (known p).fits

module _ (l : List ℕ) (n : ℕ) (st : State) where
  -- `least` and `size` are what the ways there left
  module _ (least : ℕ) (size : Cursor) (r : Result State Refusal) (o : r ≡ take_head l n least size st) where
    pub is_first : st.passed ≡ 0 → least ≡ 0 → size ≡ st.size → r ≡ next_head l n st
    unfolding next_head
    is_first k a b = rw (o, a, b) (simp (eq-eqb st.passed 0 k))

  module _ (k : st.passed ≡ 0 → ⊥) (read : NumberStep) (e : read ≡ number_step 1 l st.size.at) where
    value_is : read.value + 63 ≡ group_bytes l st
    value_is = rw e

    pub is_wrong : (st.at.at ≡ st.from.at + (read.value + 63) → ⊥) → (why : Refusal) → why ≡ refusal 25 st.size.at → Err why ≡ next_head l n st
    unfolding next_head
    is_wrong s why f = rw f (simp (ne_eqb st.passed 0 k, ne_eqb st.at.at (st.from.at + group_bytes l st) (rw value_is at s)))

    pub is_next : st.at.at ≡ st.from.at + (read.value + 63) → (least : ℕ) (size : Cursor) (r : Result State Refusal) → r ≡ take_head l n least size st
        → least ≡ st.last + 1 → size ≡ read.next → r ≡ next_head l n st
    unfolding next_head
    is_next s least size r o a b =
        let h : st.at.at ≡ st.from.at + group_bytes l st = rw value_is at s in
        rw (o, a, b, e, add-one st.last) (simp (ne_eqb st.passed 0 k, eq-eqb st.at.at (st.from.at + group_bytes l st) h))

  module _ (r : EntryReady l n st) (z : st.room ≡ 0) where
    pub head_there : st.head.at + number_width n ≤ length l
    head_there = r.head z

    pub size_there : (st.passed ≡ 0 → ⊥) → st.size.at + 1 ≤ length l
    size_there k = omega (arith, r.size z k)

    module _ (read : NumberStep) (k : ℕ) (e : read ≡ number_step 1 l st.size.at) (known : Known l) (t : ltb k 256 ≡ true) where
      pub group_fits : Fits w64 (read.value + k)
      group_fits = omega (arith, size_small l st.size.at read e known, ltb-true k 256 t)

      pub end_fits : InMemory l → Fits w64 (st.from.at + (read.value + k))
      end_fits m = omega (arith, r.from, size_small l st.size.at read e known, ltb-true k 256 t)

pub ruleset next_laws = (is_first, is_wrong, is_next, head_there, size_there, group_fits, end_fits)

-- ---- the choice between a head and a step

module _ (l : List ℕ) (n : ℕ) (st : State) where
  pub is_head : st.room ≡ 0 → next_sample l n st ≡ next_head l n st
  unfolding next_sample
  is_head z = simp (eq-eqb st.room 0 z)

  pub is_step : (st.room ≡ 0 → ⊥) → next_sample l n st ≡ take_step (varint_at l st.at.at) n st
  unfolding next_sample
  is_step z = simp (ne_eqb st.room 0 z)

  -- `got` is what either gave
  module _ (got r : Result State Refusal) (q : got ≡ r) where
    pub got_head : st.room ≡ 0 → r ≡ next_head l n st → got ≡ next_sample l n st
    got_head z e = q ∙ e ∙ sym (is_head z)

    pub got_step : (st.room ≡ 0 → ⊥) → r ≡ take_step (varint_at l st.at.at) n st → got ≡ next_sample l n st
    got_step z e = q ∙ e ∙ sym (is_step z)

pub ruleset sample_laws = (got_head, got_step)

-- ---- what is known of a step that was not refused

abbrev pub Goes : (State → Type 0) → Result State Refusal → Type 0
Goes P (Ok t) = P t
Goes P (Err why) = Unit {0}

pub by_goes : (P : State → Type 0) (b : Bool) (x : Result State Refusal) (why : Refusal) → (b ≡ true → Goes P x) → Goes P (pick b x (Err why))
by_goes P true x why f = f refl
by_goes P false x why f = tt

-- what holds of a state whose sample is below n
pub by_reach : (P : State → Type 0) (n least q : ℕ) (st : State) → (least ≤ st.last → st.last < n → P st) → Goes P (reach n least q st)
by_reach P n least q st f =
    by_goes P (leb least st.last) _ _ (λ t. by_goes P (ltb st.last n) _ _ (λ u. f (leb-true _ _ t) (ltb-true _ _ u)))

-- the next sample is below n, and above the one before it if there is one
module _ (l : List ℕ) (n : ℕ) (st : State) where
  pub record Below (t : State) : Type 0 where
    pub last : t.last < n
    pub passed : t.passed ≡ st.passed
    pub above : (st.passed ≡ 0 → ⊥) → st.last < t.last

  below_step : (m : Result (ℕ × Cursor) Refusal) → Goes Below (take_step m n st)
  unfolding take_step
  below_step (Err why) = tt
  below_step (Ok (d, c)) =
      by_reach Below n (suc st.last) st.at.at (moved d c st) (λ a b. record { last = b; passed = refl; above = λ k. a })

  below_take : (least : ℕ) (size : Cursor) → ((st.passed ≡ 0 → ⊥) → st.last < least) → Goes Below (take_head l n least size st)
  unfolding take_head
  below_take least size h =
      by_reach Below n least st.head.at (headed _ _ size st) (λ a b. record { last = b; passed = refl; above = λ k. omega (arith, h k) })

  below_head : Goes Below (next_head l n st)
  unfolding next_head
  below_head =
      by_test (Goes Below) (eqb st.passed 0) (λ t. below_take 0 st.size (λ k. absurd (k (eqb-true st.passed 0 t))))
      (λ t. by_goes Below (eqb st.at.at (st.from.at + group_bytes l st)) _ _
      (λ u. below_take (suc st.last) (cursor_at (st.size.at + 1)) (λ k. omega arith)))

  below_sample : Goes Below (next_sample l n st)
  unfolding next_sample
  below_sample = by_test (Goes Below) (eqb st.room 0) (λ t. below_head) (λ t. below_step (varint_at l st.at.at))

  pub sample_below : (r : Result State Refusal) (t : State) → r ≡ next_sample l n st → r ≡ Ok t → Below t
  sample_below r t e q = subst (Goes Below) (sym e ∙ q) below_sample
