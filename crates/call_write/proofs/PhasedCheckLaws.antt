-- The checks of a phased record: those of its main track, with the phases' length before 20, and 22 after it.
-- Assumes nothing.
use Rattle.std.specs.Prelude.{Result, Ok, Err, ⊤}
use mathlib.Core.Path.{◌≡◌, refl, sym, ap, ◌∙◌}
use Prim.Native.Nat.{ℕ, suc, ◌+◌, ◌≤◌, ◌<◌}
use native.Mathlib.Omega.{arith}
use native.Mathlib.Nat.{zero-add, add-zero}
use mathlib.Core.Bool.{Bool, true, false}
use mathlib.Core.List.{List, [], ◌∷◌}
use lib.ListN.{length}
use borrow.Author.Tests.{eq-eqb, ne_eqb}
use Rattle.format.specs.declared.Kind.{Kind}
use Rattle.format.specs.declared.Refusal.{Refusal}
use Rattle.format.specs.Base.{pick, Out, ok, refusal, refuse, bind, need}
use Rattle.format.specs.Phase.{first_of, rest_of}
use Rattle.format.specs.Writer.{phase_allowed, need_phases}
use Rattle.write_phase.specs.Calls.{first_not_allowed}
use Rattle.call_write.specs.Checked.{check_categories, check_phases, kind_checks, phased_checks, as_checked}
use Rattle.call_write.specs.declared.Asked.{Asked}
use Rattle.format.proofs.Rules.{need_then}
use Rattle.call_write.proofs.CheckLaws.{stopped, passed_as, categories_stopped, categories_passed}

-- ---- 22

phases_stop : {A : Type 0} (i : ℕ) (categories phases : List ℕ) (next : Out A) → first_not_allowed categories phases < length categories
    → need_phases i categories phases next ≡ refuse 22 (i + first_not_allowed categories phases)
unfolding need_phases first_not_allowed
phases_stop i [] phases next h = absurd (omega arith)
phases_stop i (c ∷ categories) phases next h = go (phase_allowed c (first_of phases)) h (phases_stop (suc i) categories (rest_of phases) next)
  where
    go : (t : Bool) → pick t (suc (first_not_allowed categories (rest_of phases))) 0 < suc (length categories)
        → (first_not_allowed categories (rest_of phases) < length categories
        → need_phases (suc i) categories (rest_of phases) next ≡ refuse 22 (suc i + first_not_allowed categories (rest_of phases)))
        → need t 22 i (need_phases (suc i) categories (rest_of phases) next)
        ≡ refuse 22 (i + pick t (suc (first_not_allowed categories (rest_of phases))) 0)
    go true h later =
        let e : suc i + first_not_allowed categories (rest_of phases) ≡ i + suc (first_not_allowed categories (rest_of phases)) = omega arith in
        later (omega arith) ∙ ap (refuse 22) e
    go false h later = ap (refuse 22) (sym (add-zero i))

phases_pass : {A : Type 0} (i : ℕ) (categories phases : List ℕ) (next : Out A) → length categories ≤ first_not_allowed categories phases
    → need_phases i categories phases next ≡ next
unfolding need_phases first_not_allowed
phases_pass i [] phases next h = refl
phases_pass i (c ∷ categories) phases next h = go (phase_allowed c (first_of phases)) h (phases_pass (suc i) categories (rest_of phases) next)
  where
    go : (t : Bool) → suc (length categories) ≤ pick t (suc (first_not_allowed categories (rest_of phases))) 0
        → (length categories ≤ first_not_allowed categories (rest_of phases) → need_phases (suc i) categories (rest_of phases) next ≡ next)
        → need t 22 i (need_phases (suc i) categories (rest_of phases) next) ≡ next
    go true h later = later (omega arith)
    go false h later = absurd (omega arith)

pub phases_bind : {A B : Type 0} (i : ℕ) (categories phases : List ℕ) (m : Out A) (f : A → List ℕ → Out B)
    → bind (need_phases i categories phases m) f ≡ need_phases i categories phases (bind m f)
unfolding need_phases
phases_bind i [] phases m f = refl
phases_bind i (c ∷ categories) phases m f =
    need_then (phase_allowed c (first_of phases)) 22 i _ f
    ∙ ap (need (phase_allowed c (first_of phases)) 22 i) (phases_bind (suc i) categories (rest_of phases) m f)

module _ {A : Type 0} (a : A) (categories phases : List ℕ) (i : ℕ) (f : i ≡ first_not_allowed categories phases) where
  pub refused_phase : i < length categories → {why : Refusal} → why ≡ refusal 22 i → Err why ≡ as_checked (check_phases a categories phases)
  refused_phase h w =
      let n : check_phases a categories phases ≡ refuse 22 (0 + first_not_allowed categories phases)
      = phases_stop 0 categories phases (ok a []) (omega arith) in
      simp (w, n) (ap (λ (p : ℕ). Err (refusal 22 p)) (f ∙ sym (zero-add (first_not_allowed categories phases))))

  pub all_allowed : length categories ≤ i → Ok a ≡ as_checked (check_phases a categories phases)
  all_allowed h = let n : check_phases a categories phases ≡ ok a [] = phases_pass 0 categories phases (ok a []) (omega arith) in simp n

pub ruleset phase_laws = (refused_phase, all_allowed)

-- ---- one check after another

module _ (categories phases : List ℕ) (k : Kind) (code : ℕ) (anchor : List ℕ)
    (r : Result Asked Refusal) (e : r ≡ as_checked (kind_checks categories k code anchor)) where
  pub phased_refused : (why : Refusal) → r ≡ Err why → Err why ≡ as_checked (phased_checks categories phases k code anchor)
  unfolding phased_checks
  phased_refused why q = simp (stopped (kind_checks categories k code anchor) why (sym e ∙ q))

  module _ (a : Asked) (q : r ≡ Ok a) where
    kind_is : (left : List ℕ) × (kind_checks categories k code anchor ≡ ok a left)
    kind_is = passed_as (kind_checks categories k code anchor) a (sym e ∙ q)

    pub phases_length : (length phases ≡ length categories → ⊥) → {why : Refusal} → why ≡ refusal 10 0
        → Err why ≡ as_checked (phased_checks categories phases k code anchor)
    unfolding phased_checks
    phases_length d w = simp (w, kind_is.1, ne_eqb (length phases) (length categories) d)

    module _ (l : length phases ≡ length categories) (s : Result ⊤ Refusal) (n : s ≡ as_checked (check_categories tt categories anchor)) where
      pub phased_category : (why : Refusal) → s ≡ Err why → Err why ≡ as_checked (phased_checks categories phases k code anchor)
      unfolding phased_checks
      phased_category why o = simp (kind_is.1, eq-eqb (length phases) (length categories) l, categories_stopped a categories anchor s n why o)

      module _ (u : ⊤) (o : s ≡ Ok u) (t : Result ⊤ Refusal) (m : t ≡ as_checked (check_phases tt categories phases)) where
        before : phased_checks categories phases k code anchor ≡ bind (check_phases {A = ⊤} tt categories phases) (λ v left. ok a [])
        unfolding phased_checks
        before =
            simp (kind_is.1, eq-eqb (length phases) (length categories) l, categories_passed a categories anchor s n u o)
            (sym (phases_bind {A = ⊤} 0 categories phases (ok tt []) (λ v left. ok a [])))

        pub phased_phase : (why : Refusal) → t ≡ Err why → Err why ≡ as_checked (phased_checks categories phases k code anchor)
        phased_phase why p = simp (before, stopped (check_phases tt categories phases) why (sym m ∙ p))

        pub phased_checked : (v : ⊤) → t ≡ Ok v → Ok a ≡ as_checked (phased_checks categories phases k code anchor)
        phased_checked v p = simp (before, (passed_as (check_phases tt categories phases) v (sym m ∙ p)).1)

pub ruleset phased_laws = (phased_refused, phases_length, phased_category, phased_phase, phased_checked)
