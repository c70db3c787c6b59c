-- The checks before the record is measured, one after another.
-- Assumes nothing.
use Rattle.std.specs.Prelude.{Option, Some, None, Result, Ok, Err, ⊤}
use mathlib.Core.Path.{◌≡◌, refl, sym, ap, ◌∙◌}
use Prim.Native.Nat.{ℕ, suc, ◌+◌, ◌≤◌, ◌<◌}
use native.Mathlib.Omega.{arith}
use native.Mathlib.Nat.{zero-add, add-zero}
use native.Mathlib.Numerals.{add-one}
use mathlib.Core.Bool.{Bool, true, false}
use mathlib.Core.List.{List, [], ◌∷◌}
use lib.ListN.{length, get_or, drop, drop_of_length-le}
use lib.Seq.{drop-cons}
use lib.Dec.{eqb, ltb, leb}
use borrow.Author.Tests.{lt-ltb, le-ltb, le-leb, lt-leb, eq-eqb, ne_eqb}
use Rattle.format.specs.declared.Kind.{Kind}
use Rattle.format.specs.declared.Refusal.{Refusal}
use Rattle.format.specs.Base.{pick, Out, ok, refused, refusal, refuse, bind, need}
use Rattle.format.specs.Limits.{most_samples}
use Rattle.format.specs.Track.{leans_kind}
use Rattle.format.specs.Layout.{from_1_to}
use Rattle.format.specs.Writer.{need_categories}
use Rattle.call_write.specs.Asked.{asked_kind}
use Rattle.call_write.specs.Checked.{first_above, allowed, check_categories, kind_checks, record_checks, as_checked}
use Rattle.call_write.specs.declared.Asked.{Asked}
use Rattle.call_write.proofs.ReplyLaws.{categories_then}
use Rattle.call_write.proofs.LargestLaws.{none_above}

-- ---- the first category above 3

-- before category i
pub record Going (categories : List ℕ) (i : ℕ) : Type 0 where
  pub upto : i ≤ length categories
  pub same : i + first_above (drop i categories) ≡ first_above categories

pub above_start : (categories : List ℕ) → Going categories 0
above_start categories = record { upto = omega arith; same = zero-add (first_above categories) }

module _ {categories : List ℕ} {i : ℕ} (v : Going categories i) where
  turn : i < length categories → i + pick (ltb (get_or categories i 0) 4) (suc (first_above (drop (suc i) categories))) 0 ≡ first_above categories
  unfolding first_above
  turn h = rw (drop-cons categories i 0 h) at v.same

  pub above_found : i < length categories → 3 < get_or categories i 0 → i ≡ first_above categories
  above_found h k =
      let f : i + 0 ≡ first_above categories = simp (le-ltb (get_or categories i 0) 4 k) at (turn h) in
      omega arith

  pub above_next : i < length categories → get_or categories i 0 ≤ 3 → Going categories (i + 1)
  above_next h k =
      let small : get_or categories i 0 < 4 = omega arith in
      let f : i + suc (first_above (drop (suc i) categories)) ≡ first_above categories = simp (lt-ltb (get_or categories i 0) 4 small) at (turn h) in
      record { upto = omega arith; same = rw (add-one i) (omega arith) }

  pub above_end : length categories ≤ i → length categories ≡ first_above categories
  unfolding first_above
  above_end h =
      let e : drop i categories ≡ [] = drop_of_length-le categories h in
      let f : i + 0 ≡ first_above categories = rw e at v.same in
      omega arith

pub ruleset above_laws = (none_above, above_start, above_found, above_next, above_end)

-- ---- 20

above_stops : {A : Type 0} (i : ℕ) (categories : List ℕ) (next : Out A) → first_above categories < length categories
    → need_categories i categories next ≡ refuse 20 (i + first_above categories)
unfolding need_categories first_above
above_stops i [] next h = absurd (omega arith)
above_stops i (c ∷ categories) next h = go (ltb c 4) h (above_stops (suc i) categories next)
  where
    go : (t : Bool) → pick t (suc (first_above categories)) 0 < suc (length categories)
        → (first_above categories < length categories → need_categories (suc i) categories next ≡ refuse 20 (suc i + first_above categories))
        → need t 20 i (need_categories (suc i) categories next) ≡ refuse 20 (i + pick t (suc (first_above categories)) 0)
    go true h later = let e : suc i + first_above categories ≡ i + suc (first_above categories) = omega arith in later (omega arith) ∙ ap (refuse 20) e
    go false h later = ap (refuse 20) (sym (add-zero i))

above_passes : {A : Type 0} (i : ℕ) (categories : List ℕ) (next : Out A) → length categories ≤ first_above categories
    → need_categories i categories next ≡ next
unfolding need_categories first_above
above_passes i [] next h = refl
above_passes i (c ∷ categories) next h = go (ltb c 4) h (above_passes (suc i) categories next)
  where
    go : (t : Bool) → suc (length categories) ≤ pick t (suc (first_above categories)) 0
        → (length categories ≤ first_above categories → need_categories (suc i) categories next ≡ next)
        → need t 20 i (need_categories (suc i) categories next) ≡ next
    go true h later = later (omega arith)
    go false h later = absurd (omega arith)

module _ {A : Type 0} (a : A) (categories anchor : List ℕ) (i : ℕ) (f : i ≡ first_above categories) where
  pub refused_category : i < length categories → {why : Refusal} → why ≡ refusal 20 i → Err why ≡ as_checked (check_categories a categories anchor)
  refused_category h w =
      let n : check_categories a categories anchor ≡ refuse 20 (0 + first_above categories)
      = above_stops 0 categories (need_categories 0 anchor (ok a [])) (omega arith) in
      simp (w, n) (ap (λ (p : ℕ). Err (refusal 20 p)) (f ∙ sym (zero-add (first_above categories))))

  module _ (h : length categories ≤ i) (j : ℕ) (g : j ≡ first_above anchor) where
    passed : check_categories a categories anchor ≡ need_categories 0 anchor (ok a [])
    passed = above_passes 0 categories (need_categories 0 anchor (ok a [])) (omega arith)

    pub refused_lent : j < length anchor → {why : Refusal} → why ≡ refusal 20 j → Err why ≡ as_checked (check_categories a categories anchor)
    refused_lent k w =
        let n : check_categories a categories anchor ≡ refuse 20 (0 + first_above anchor) = passed ∙ above_stops 0 anchor (ok a []) (omega arith) in
        simp (w, n) (ap (λ (p : ℕ). Err (refusal 20 p)) (g ∙ sym (zero-add (first_above anchor))))

    pub all_categories : length anchor ≤ j → Ok a ≡ as_checked (check_categories a categories anchor)
    all_categories k =
        let n : check_categories a categories anchor ≡ ok a [] = passed ∙ above_passes 0 anchor (ok a []) (omega arith) in
        simp n

pub ruleset category_laws = (refused_category, refused_lent, all_categories)

-- ---- one check after another

module _ (categories : List ℕ) (k : Kind) (code : ℕ) (anchor : List ℕ) where
  pub refused_none : length categories ≡ 0 → {why : Refusal} → why ≡ refusal 4 0 → Err why ≡ as_checked (kind_checks categories k code anchor)
  unfolding kind_checks
  refused_none z w = let h : leb 1 (length categories) ≡ false = lt-leb 1 (length categories) (omega arith) in simp (w, h)

  pub refused_many : most_samples < length categories → {why : Refusal} → why ≡ refusal 4 0
      → Err why ≡ as_checked (kind_checks categories k code anchor)
  unfolding kind_checks
  refused_many m w =
      let h : leb 1 (length categories) ≡ true = le-leb 1 (length categories) (omega arith) in
      let i : leb (length categories) most_samples ≡ false = lt-leb (length categories) most_samples m in
      simp (w, h, i)

  module _ (some : length categories ≡ 0 → ⊥) (few : length categories ≤ most_samples) where
    sized : from_1_to most_samples (length categories) ≡ true
    sized =
        let h : leb 1 (length categories) ≡ true = le-leb 1 (length categories) (omega arith) in
        let i : leb (length categories) most_samples ≡ true = le-leb (length categories) most_samples few in
        simp (h, i)

    module _ (o : Option Asked) (e : o ≡ asked_kind k code) where
      pub refused_kind : o ≡ None → {why : Refusal} → why ≡ refusal 19 0 → Err why ≡ as_checked (kind_checks categories k code anchor)
      unfolding kind_checks
      refused_kind q w = let n : allowed (asked_kind k code) ≡ refuse 19 0 = rw (← e, q) in simp (w, sized, n)

      module _ (a : Asked) (q : o ≡ Some a) (size : ℕ) (s : size ≡ pick (leans_kind k) (length categories) 0) where
        yes : allowed (asked_kind k code) ≡ ok a []
        yes = rw (← e, q)

        pub refused_anchor : (length anchor ≡ size → ⊥) → {why : Refusal} → why ≡ refusal 10 0
            → Err why ≡ as_checked (kind_checks categories k code anchor)
        unfolding kind_checks
        refused_anchor d w =
            let n : eqb (length anchor) (pick (leans_kind k) (length categories) 0) ≡ false = rw (← s) (ne_eqb (length anchor) size d) in
            simp (w, sized, yes, n)

        module _ (l : length anchor ≡ size) where
          there : eqb (length anchor) (pick (leans_kind k) (length categories) 0) ≡ true
          there = rw (← s) (eq-eqb (length anchor) size l)

          pub kind_passed : Ok a ≡ as_checked (kind_checks categories k code anchor)
          unfolding kind_checks
          kind_passed = simp (sized, yes, there)

pub ruleset kind_laws = (refused_none, refused_many, refused_kind, refused_anchor, kind_passed)

-- ---- what the checks answered

pub stopped : {A : Type 0} (out : Out A) (why : Refusal) → as_checked out ≡ Err why → out ≡ refused why
stopped (ok b left) why e = let z : ◌≡◌ {A = ℕ} 0 1 = cc in absurd (omega arith)
stopped (refused other) why e = cc

pub passed_as : {A : Type 0} (out : Out A) (a : A) → as_checked out ≡ Ok a → (left : List ℕ) × (out ≡ ok a left)
passed_as (ok b left) a e = (left, cc)
passed_as (refused why) a e = let z : ◌≡◌ {A = ℕ} 0 1 = cc in absurd (omega arith)

-- a check of the categories alone, and what is asked for after it
module _ (a : Asked) (categories anchor : List ℕ) (s : Result ⊤ Refusal) (n : s ≡ as_checked (check_categories tt categories anchor)) where
  alone : check_categories a categories anchor ≡ bind (check_categories {A = ⊤} tt categories anchor) (λ u left. ok a [])
  alone = categories_then {A = ⊤} tt categories anchor (λ u left. ok a [])

  pub categories_stopped : (why : Refusal) → s ≡ Err why → check_categories a categories anchor ≡ refused why
  categories_stopped why o = alone ∙ simp (stopped (check_categories tt categories anchor) why (sym n ∙ o))

  pub categories_passed : (u : ⊤) → s ≡ Ok u → check_categories a categories anchor ≡ ok a []
  categories_passed u o = alone ∙ simp (passed_as (check_categories tt categories anchor) u (sym n ∙ o)).1

module _ (categories : List ℕ) (k : Kind) (code : ℕ) (anchor : List ℕ)
    (r : Result Asked Refusal) (e : r ≡ as_checked (kind_checks categories k code anchor)) where
  pub record_refused : (why : Refusal) → r ≡ Err why → Err why ≡ as_checked (record_checks categories k code anchor)
  unfolding record_checks
  record_refused why q = simp (stopped (kind_checks categories k code anchor) why (sym e ∙ q))

  module _ (a : Asked) (q : r ≡ Ok a) (s : Result ⊤ Refusal) (n : s ≡ as_checked (check_categories tt categories anchor)) where
    pub record_category : (why : Refusal) → s ≡ Err why → Err why ≡ as_checked (record_checks categories k code anchor)
    unfolding record_checks
    record_category why o =
        simp ((passed_as (kind_checks categories k code anchor) a (sym e ∙ q)).1, categories_stopped a categories anchor s n why o)

    pub record_checked : (u : ⊤) → s ≡ Ok u → Ok a ≡ as_checked (record_checks categories k code anchor)
    unfolding record_checks
    record_checked u o =
        simp ((passed_as (kind_checks categories k code anchor) a (sym e ∙ q)).1, categories_passed a categories anchor s n u o)

pub ruleset check_laws = (record_refused, record_category, record_checked)
