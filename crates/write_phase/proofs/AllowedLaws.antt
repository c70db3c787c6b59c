-- Which phases are allowed: the flat loop, and the first that is not.
-- Assumes nothing.
use mathlib.Core.Path.{◌≡◌, refl, sym, ap, ◌∙◌}
use Prim.Native.Nat.{ℕ, suc, ◌+◌, ◌≤◌, ◌<◌}
use native.Mathlib.Omega.{arith}
use native.Mathlib.Nat.{zero-add}
use native.Mathlib.Numerals.{add-one}
use mathlib.Core.Bool.{true}
use mathlib.Core.List.{List, [], ◌∷◌}
use lib.ListN.{length, get_or, drop, drop_of_length-le}
use lib.Seq.{drop-cons}
use lib.Dec.{eqb}
use borrow.Author.Tests.{eq-eqb, ne_eqb}
use Rattle.format.specs.Base.{pick}
use Rattle.format.specs.Writer.{phase_allowed}
use Rattle.write_phase.specs.Calls.{first_not_allowed}

-- ---- all of them, by the largest excess

-- a phase among the first n is allowed if the largest excess is 0
abbrev pub Bounds : List ℕ → List ℕ → ℕ → ℕ → Type 0
Bounds categories phases n most = most ≡ 0 → (i : ℕ) → i < n → phase_allowed (get_or categories i 0) (get_or phases i 0) ≡ true

-- before sample i
pub record Gathering (categories phases : List ℕ) (most i : ℕ) : Type 0 where
  pub each : length phases ≡ length categories
  pub upto : i ≤ length categories
  pub bounds : Bounds categories phases i most

pub none_found : (categories phases : List ℕ) (most : ℕ) → length phases ≡ length categories → most ≡ 0
    → Bounds categories phases (length categories) most → length categories ≡ first_not_allowed categories phases
unfolding first_not_allowed
none_found [] phases most e z f = refl
none_found (c ∷ categories) [] most e z f = absurd (omega arith)
none_found (c ∷ categories) (p ∷ phases) most e z f =
    simp (f z 0 (omega arith)) (ap suc (none_found categories phases most (omega arith) z (λ o i h. f z (suc i) (omega arith))))

-- ---- the first that is not allowed

-- before sample i
pub record Going (categories phases : List ℕ) (i : ℕ) : Type 0 where
  pub each : length phases ≡ length categories
  pub upto : i ≤ length categories
  pub same : i + first_not_allowed (drop i categories) (drop i phases) ≡ first_not_allowed categories phases

pub allowed_start : (categories phases : List ℕ) → length phases ≡ length categories → Going categories phases 0
allowed_start categories phases e = record { each = e; upto = omega arith; same = zero-add (first_not_allowed categories phases) }

module _ {categories phases : List ℕ} {i : ℕ} (v : Going categories phases i) where
  turn : i < length categories
      → i + pick (phase_allowed (get_or categories i 0) (get_or phases i 0)) (suc (first_not_allowed (drop (suc i) categories) (drop (suc i) phases))) 0
      ≡ first_not_allowed categories phases
  unfolding first_not_allowed
  turn h = rw (drop-cons categories i 0 h, drop-cons phases i 0 (omega (arith, v.each))) at v.same

  module _ (x : ℕ) (e : eqb x 0 ≡ phase_allowed (get_or categories i 0) (get_or phases i 0)) (h : i < length categories) where
    pub allowed_found : 0 < x → i ≡ first_not_allowed categories phases
    allowed_found k =
        let f : i + 0 ≡ first_not_allowed categories phases = simp (sym e ∙ ne_eqb x 0 (λ z. omega arith)) at (turn h) in
        omega arith

    pub allowed_next : x ≤ 0 → Going categories phases (i + 1)
    allowed_next k =
        let f : i + suc (first_not_allowed (drop (suc i) categories) (drop (suc i) phases)) ≡ first_not_allowed categories phases
        = simp (sym e ∙ eq-eqb x 0 (omega arith)) at (turn h) in
        record { each = v.each; upto = omega arith; same = rw (add-one i) (omega arith) }

  pub allowed_end : length categories ≤ i → length categories ≡ first_not_allowed categories phases
  unfolding first_not_allowed
  allowed_end h =
      let e : drop i categories ≡ [] = drop_of_length-le categories h in
      let f : i + 0 ≡ first_not_allowed categories phases = rw e at v.same in
      omega arith

pub ruleset allowed_laws = (none_found, allowed_start, allowed_end)
