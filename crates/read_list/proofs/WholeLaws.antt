-- What each way out of `read_count`, `lay_parts`, `put_parts` and `check_list` says, from the tests that led there.
-- Assumes nothing.
use Rattle.std.specs.Prelude.{Result, Ok, Err}
use mathlib.Core.Path.{◌≡◌, refl, sym, ◌∙◌, subst}
use Prim.Native.Nat.{ℕ, ◌+◌, ◌-◌, ◌*◌, ◌/◌, ◌^◌, ◌≤◌, ◌<◌}
use native.Mathlib.Omega.{arith}
use native.Mathlib.Nat.{mul-le-mul_right}
use mathlib.Core.List.{List}
use mathlib.Core.Bool.{Bool, true, false}
use lib.ListN.{length}
use lib.Dec.{leb, eqb}
use mir.Syntax.{w64}
use mir.Val.{Fits as FitsIn}
use borrow.Author.Tests.{leb-true, le-leb, lt-leb, eq-eqb, ne_eqb}
use Rattle.format.specs.declared.Refusal.{Refusal}
use Rattle.format.specs.Base.{pick, refusal}
use Rattle.format.specs.Limits.{most_samples}
use Rattle.format.specs.Packed.{two, packed_size}
use Rattle.read_packed.specs.Arrays.{unused}
use Rattle.format.specs.Difflist.{number_width, groups}
use Rattle.base_cursor.specs.Steps.{cursor_at, varint_at}
use Rattle.base_cursor.proofs.VarintLaws.{was_read}
use Rattle.base_cursor.specs.declared.Cursor.{Cursor}
use Rattle.read_list.specs.Entries.{ListLeft, list_left, Lists, put_entries, check_entries}
use Rattle.read_list.specs.Parts.{count_of, sizes_at, values_at, steps_at, lay_out, counted_out, put_parts, check_parts}
use Rattle.read_list.specs.Room.{Room}
use Rattle.read_list.specs.declared.ListRule.{ListRule}
use Rattle.read_list.specs.declared.State.{State}
use Rattle.read_list.proofs.NumberLaws.{Known, InMemory, narrow}

module _ (l : List ℕ) (n at : ℕ) (r : Result (ℕ × Cursor) Refusal) (e : r ≡ varint_at l at) where
  pub count_bad : (why : Refusal) → r ≡ Err why → Err why ≡ count_of (varint_at l at) n at
  unfolding count_of
  count_bad why q = rw (← e, q)

  pub count_over : (m : ℕ) (c : Cursor) → r ≡ Ok (m, c) → n < m → (why : Refusal) → why ≡ refusal 16 at
      → Err why ≡ count_of (varint_at l at) n at
  unfolding count_of
  count_over m c q h why f = rw (f, ← e, q) (simp (lt-leb m n h))

  pub count_good : (m : ℕ) (c : Cursor) → r ≡ Ok (m, c) → m ≤ n → Ok (m, c) ≡ count_of (varint_at l at) n at
  unfolding count_of
  count_good m c q h = rw (← e, q) (simp (le-leb m n h))

pub ruleset count_laws = (count_bad, count_over, count_good)

-- ---- the parts: w is what `number_width` gave, g what `groups` did, and three cursors were made

heads_few : (n m w g : ℕ) → w ≡ number_width n → g ≡ groups m → w * g ≤ 2 * g
heads_few n m w g e d = mul-le-mul_right g (narrow w n e)

pub heads_fit : (n m w g : ℕ) → w ≡ number_width n → g ≡ groups m → m ≤ most_samples → FitsIn w64 (w * g)
heads_fit n m w g e d few = omega (arith, heads_few n m w g e d)

module _ (l : List ℕ) (n m w g : ℕ) (c size : Cursor) (e : w ≡ number_width n) (d : g ≡ groups m) (e1 : size ≡ cursor_at (c.at + w * g)) where
  size_is : size ≡ cursor_at (sizes_at n m c.at)
  size_is = rw (e, d) at e1

  module _ (values : Cursor) (e2 : values ≡ cursor_at (size.at + (g - 1))) where
    values_is : values ≡ cursor_at (values_at n m c.at)
    values_is = rw (size_is, d) at e2

    module _ (steps : Cursor) (e3 : steps ≡ cursor_at (values.at + (m + 3) / 4)) where
      steps_is : steps ≡ cursor_at (steps_at n m c.at)
      steps_is = rw values_is at e3

      steps_there : (k : ℕ) → steps.at ≤ k → steps_at n m c.at ≤ k
      steps_there k h = rw steps_is at h

      pub lay_short : length l < steps.at → (why : Refusal) → why ≡ refusal 12 (length l) → Err why ≡ lay_out l n m c.at
      unfolding lay_out
      lay_short h why f = rw f (simp (lt-leb (steps_at n m c.at) (length l) (rw steps_is at h)))

      -- x is what `unused_bits` gave
      module _ (h : steps.at ≤ length l) (x : ℕ) (q : x ≡ unused two l values.at m) where
        fits : leb (steps_at n m c.at) (length l) ≡ true
        fits = le-leb (steps_at n m c.at) (length l) (steps_there (length l) h)

        unused_is : x ≡ unused two l (values_at n m c.at) m
        unused_is = rw values_is at q

        pub lay_spare : (x ≡ 0 → ⊥) → (why : Refusal) → why ≡ refusal 18 (steps.at - 1) → Err why ≡ lay_out l n m c.at
        unfolding lay_out
        lay_spare z why f = rw (f, steps_is) (simp (fits, ← unused_is, ne_eqb x 0 z))

        pub lay_fits : x ≡ 0
            → Ok (values.at, record { room = 0; from = steps; last = 0; head = c; size = size; passed = 0; at = steps }) ≡ lay_out l n m c.at
        unfolding lay_out
        lay_fits z = rw (steps_is, values_is, size_is) (simp (fits, ← unused_is, eq-eqb x 0 z))

      pub unused_there : steps.at ≤ length l → values.at + packed_size two m ≤ length l
      unused_there h = rw e3 at h

      pub steps_some : 0 < m → 1 ≤ steps.at
      steps_some h = rw e3 (omega arith)

    pub steps_fit : m ≤ most_samples → c.at ≤ length l → InMemory l → values.at + (m + 3) / 4 < 2 ^ 64
    steps_fit few i room = rw (e2, e1) (omega (arith, heads_few n m w g e d))

  pub values_fit : m ≤ most_samples → c.at ≤ length l → InMemory l → size.at + (g - 1) < 2 ^ 64
  values_fit few i room = rw e1 (omega (arith, heads_few n m w g e d))

pub sizes_fit : (l : List ℕ) (n m w g at : ℕ) → w ≡ number_width n → g ≡ groups m → m ≤ most_samples → at ≤ length l → InMemory l → at + w * g < 2 ^ 64
sizes_fit l n m w g at e d few i room = omega (arith, heads_few n m w g e d)

pub ruleset lay_laws = (heads_fit, sizes_fit, values_fit, steps_fit, unused_there, steps_some, lay_short, lay_spare, lay_fits)

-- ---- the whole: r is what `read_count` gave, d what `lay_parts` did

-- the ways through the definition, whatever `stop` and `entries` are
module _ {X : Type 0} (stop : Result Cursor Refusal → X) (entries : ℕ → ℕ → State → X) (l : List ℕ) (n : ℕ) (r : Result (ℕ × Cursor) Refusal) where
  abbrev out : X
  out = counted_out stop entries l n r

  out_not : (why : Refusal) → r ≡ Err why → stop (Err why) ≡ out
  out_not why q = rw q

  module _ (m : ℕ) (c : Cursor) (q : r ≡ Ok (m, c)) where
    out_none : m ≡ 0 → stop (Ok c) ≡ out
    out_none z = rw q (simp (eq-eqb m 0 z))

    module _ (z : m ≡ 0 → ⊥) (d : Result (ℕ × State) Refusal) (f : d ≡ lay_out l n m c.at) where
      out_unfit : (why : Refusal) → d ≡ Err why → stop (Err why) ≡ out
      out_unfit why p = rw q (simp (ne_eqb m 0 z, ← f, p))

      out_fits : (vals : ℕ) (st : State) → d ≡ Ok (vals, st) → entries m vals st ≡ out
      out_fits vals st p = rw q (simp (ne_eqb m 0 z, ← f, p))

module _ (l : List ℕ) (at n : ℕ) (held : ListRule) (row : List ℕ) (r : Result (ℕ × Cursor) Refusal) (e : r ≡ count_of (varint_at l at) n at) where
  abbrev stop : Result Cursor Refusal → ListLeft
  stop o = list_left o row

  abbrev entries : ℕ → ℕ → State → ListLeft
  entries m vals st = put_entries m l n vals held st row

  put_is : counted_out stop entries l n r ≡ put_parts held n l at row
  unfolding put_parts
  put_is = rw e

  pub put_not : (why : Refusal) → r ≡ Err why → list_left (Err why) row ≡ put_parts held n l at row
  put_not why q = out_not stop entries l n r why q ∙ put_is

  module _ (m : ℕ) (c : Cursor) (q : r ≡ Ok (m, c)) where
    pub put_none : m ≡ 0 → list_left (Ok c) row ≡ put_parts held n l at row
    put_none z = out_none stop entries l n r m c q z ∙ put_is

    module _ (z : m ≡ 0 → ⊥) (d : Result (ℕ × State) Refusal) (f : d ≡ lay_out l n m c.at) where
      pub put_unfit : (why : Refusal) → d ≡ Err why → list_left (Err why) row ≡ put_parts held n l at row
      put_unfit why p = out_unfit stop entries l n r m c q z d f why p ∙ put_is

      -- an accepted list is accepted from its first entry
      pub parts_known : (vals : ℕ) (st : State) → d ≡ Ok (vals, st) → (k : Bool) → (k ≡ true → Lists (put_parts held n l at row)) → k ≡ true
          → Lists (put_entries m l n vals held st row)
      parts_known vals st p k h t = subst Lists (sym (out_fits stop entries l n r m c q z d f vals st p ∙ put_is)) (h t)

      pub put_fits : (vals : ℕ) (st : State) → d ≡ Ok (vals, st) → (o : ListLeft) → o ≡ put_entries m l n vals held st row
          → o ≡ put_parts held n l at row
      put_fits vals st p o h = h ∙ out_fits stop entries l n r m c q z d f vals st p ∙ put_is

module _ (l : List ℕ) (at n : ℕ) (held : ListRule) (row : List ℕ) (r : Result (ℕ × Cursor) Refusal) (e : r ≡ count_of (varint_at l at) n at) where
  abbrev looks : ℕ → ℕ → State → Result Cursor Refusal
  looks m vals st = check_entries m l n vals held st row

  check_is : counted_out (λ o. o) looks l n r ≡ check_parts held n l at row
  unfolding check_parts
  check_is = rw e

  pub check_not : (why : Refusal) → r ≡ Err why → Err why ≡ check_parts held n l at row
  check_not why q = out_not (λ o. o) looks l n r why q ∙ check_is

  module _ (m : ℕ) (c : Cursor) (q : r ≡ Ok (m, c)) where
    pub check_none : m ≡ 0 → Ok c ≡ check_parts held n l at row
    check_none z = out_none (λ o. o) looks l n r m c q z ∙ check_is

    module _ (z : m ≡ 0 → ⊥) (d : Result (ℕ × State) Refusal) (f : d ≡ lay_out l n m c.at) where
      pub check_unfit : (why : Refusal) → d ≡ Err why → Err why ≡ check_parts held n l at row
      check_unfit why p = out_unfit (λ o. o) looks l n r m c q z d f why p ∙ check_is

      pub check_fits : (vals : ℕ) (st : State) → d ≡ Ok (vals, st) → (o : Result Cursor Refusal) → o ≡ check_entries m l n vals held st row
          → o ≡ check_parts held n l at row
      check_fits vals st p o h = h ∙ out_fits (λ o. o) looks l n r m c q z d f vals st p ∙ check_is

-- ---- what an answer that is no refusal satisfies

abbrev Counts : (ℕ → Cursor → Type 0) → Result (ℕ × Cursor) Refusal → Type 0
Counts P (Ok (m, c)) = P m c
Counts P (Err why) = Unit {0}

abbrev Lays : (ℕ → State → Type 0) → Result (ℕ × State) Refusal → Type 0
Lays P (Ok (vals, st)) = P vals st
Lays P (Err why) = Unit {0}

lays : (P : ℕ → State → Type 0) (b : Bool) (x : Result (ℕ × State) Refusal) (why : Refusal) → (b ≡ true → Lays P x) → Lays P (pick b x (Err why))
lays P true x why f = f refl
lays P false x why f = tt

abbrev Fine : List ℕ → ℕ → ℕ → Cursor → Type 0
Fine l n m c = (m ≤ n) × (c.at ≤ length l)

fine : (l : List ℕ) (n at : ℕ) → Known l → at ≤ length l → (r : Result (ℕ × Cursor) Refusal) → varint_at l at ≡ r → Counts (Fine l n) (count_of r n at)
unfolding count_of
fine l n at known h (Err why) e = tt
fine l n at known h (Ok (m, c)) e = decided (leb m n) refl
  where
    decided : (t : Bool) → leb m n ≡ t → Counts (Fine l n) (pick t (Ok (m, c)) (Err (refusal 16 at)))
    decided true t = (leb-true m n t, (was_read l at m c (λ i. (known i).fits) h (sym e)).inside)
    decided false t = tt

laid : (l : List ℕ) (n m at : ℕ) → 0 < m → m ≤ n → m ≤ most_samples → at ≤ length l → Lays (λ (vals : ℕ) (st : State). Room l n vals m st) (lay_out l n m at)
unfolding lay_out
laid l n m at p h k a =
    lays _ (leb (steps_at n m at) (length l)) _ _ (λ s.
    lays _ (eqb (unused two l (values_at n m at) m) 0) _ _ (λ u.
    let i : steps_at n m at ≤ length l = leb-true _ _ s in
    let e : (m + (63 - 0)) / 64 ≡ groups m = omega arith in
    record {
      few = omega arith;
      group = omega arith;
      begun = λ o. refl;
      below = omega arith;
      steps = i;
      from = omega arith;
      values = omega arith;
      heads = rw e (omega arith);
      sizes = omega arith;
    }))

module _ (l : List ℕ) (at n : ℕ) (r : Result (ℕ × Cursor) Refusal) (e : r ≡ count_of (varint_at l at) n at) (m : ℕ) (c : Cursor) (q : r ≡ Ok (m, c))
    (known : Known l) (h : at ≤ length l) where
  pub counted : (m ≤ n) × (c.at ≤ length l)
  counted = subst (Counts (Fine l n)) (sym e ∙ q) (fine l n at known h (varint_at l at) refl)

  pub count_inside : c.at ≤ length l
  count_inside = counted.1

  pub count_few : (most : ℕ) → n ≤ most → m ≤ most
  count_few most k = omega (arith, counted.0)

  pub laid_room : n ≤ most_samples → (m ≡ 0 → ⊥) → (d : Result (ℕ × State) Refusal) → d ≡ lay_out l n m c.at → (vals : ℕ) (st : State) → d ≡ Ok (vals, st)
      → Room l n vals m st
  laid_room k z d f vals st p =
      subst (Lays (λ (v : ℕ) (t : State). Room l n v m t)) (sym f ∙ p) (laid l n m c.at (omega arith) counted.0 (count_few most_samples k) count_inside)

pub count_some : (m : ℕ) → (m ≡ 0 → ⊥) → 0 < m
count_some m z = omega arith

pub ruleset put_parts_laws = (put_not, put_none, put_unfit, put_fits, count_inside, count_few, count_some, laid_room)

pub ruleset check_parts_laws = (check_not, check_none, check_unfit, check_fits, count_inside, count_few, count_some, laid_room)
