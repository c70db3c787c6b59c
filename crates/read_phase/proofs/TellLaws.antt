-- What heterozygous calls are told by presence bits and phase bits, call by call.
-- Assumes nothing.
use mathlib.Core.Path.{◌≡◌, refl, ap, ◌∙◌}
use Prim.Native.Nat.{ℕ, zero, suc, ◌+◌, ◌<◌, ◌≤◌}
use native.Mathlib.Omega.{arith}
use native.Mathlib.Nat.{add-zero, zero-add}
use mathlib.Core.List.{◌∷◌}
use lib.ListN.{length, replicate}
use lib.Dec.{eqb}
use borrow.Author.Tests.{eq-eqb, ne_eqb}
use Rattle.format.specs.Base.{pick}
use Rattle.format.specs.Phase.{ones, phases_told}
use Rattle.read_phase.specs.Parts.{phase_of, drawn, told_from}

module _ (present : ℕ → ℕ) where
  -- how many phase bits are left, before a call and after it
  pub bits_next : (k m : ℕ) → ones (drawn present k (suc m)) ≡ present k + ones (drawn present (k + 1) m)
  unfolding drawn ones
  bits_next k m = refl

  pub bits_few : (k m : ℕ) → ((k : ℕ) → present k < 2) → ones (drawn present k m) ≤ m
  unfolding drawn ones
  bits_few k zero small = omega arith
  bits_few k (suc m) small = omega (arith, small k, bits_few (k + 1) m small)

module _ (present bit : ℕ → ℕ) where
  -- what a call is told, and what is left to tell
  pub told_next : (k p m : ℕ) → present k < 2 → bit p < 2
      → told_from present bit k p (suc m) ≡ phase_of (present k) (bit p) ∷ told_from present bit (k + 1) (p + present k) m
  unfolding told_from drawn ones phases_told
  told_next k p m small two = either (present k) refl small
    where
      told_as : (b : ℕ) → b < 2 → suc b ≡ pick (eqb b 0) 1 2
      told_as zero j = refl
      told_as (suc zero) j = refl
      told_as (suc (suc b)) j = absurd (omega arith)

      either : (x : ℕ) → present k ≡ x → x < 2 → told_from present bit k p (suc m)
          ≡ phase_of (present k) (bit p) ∷ told_from present bit (k + 1) (p + present k) m
      either zero e j = rw (e, zero-add (ones (drawn present (k + 1) m)), add-zero p) refl
      either (suc zero) e j =
          let s : 1 + ones (drawn present (k + 1) m) ≡ suc (ones (drawn present (k + 1) m)) = omega arith in
          rw (e, s, ← told_as (bit p) two) refl
      either (suc (suc x)) e j = absurd (omega arith)

  module _ (small : (k : ℕ) → present k < 2) (two : (k : ℕ) → bit k < 2) where
    -- once no phase bit is left, all other calls are unphased
    pub none_told : (k p m : ℕ) → ones (drawn present k m) ≡ 0 → told_from present bit k p m ≡ replicate m 0
    unfolding told_from drawn phases_told
    none_told k p zero e = refl
    none_told k p (suc m) e =
        let o : present k ≡ 0 = omega (arith, bits_next present k m) in
        let j : ones (drawn present (k + 1) m) ≡ 0 = omega (arith, bits_next present k m) in
        told_next k p m (small k) (two p) ∙ rw o (ap (◌∷◌ 0) (none_told (k + 1) (p + 0) m j))

    -- each call is told a phase
    pub told_length : (k p m : ℕ) → length (told_from present bit k p m) ≡ m
    unfolding told_from drawn phases_told
    told_length k p zero = refl
    told_length k p (suc m) = ap length (told_next k p m (small k) (two p)) ∙ ap suc (told_length (k + 1) (p + present k) m)

-- the ways out of `phase_of`
module _ (on bit : ℕ) where
  pub phase_none : on ≡ 0 → 0 ≡ phase_of on bit
  phase_none e = simp (eq-eqb on 0 e)

  module _ (o : on ≡ 0 → ⊥) where
    pub phase_unswapped : bit ≡ 0 → 1 ≡ phase_of on bit
    phase_unswapped e = simp (ne_eqb on 0 o, eq-eqb bit 0 e)

    pub phase_swapped : (bit ≡ 0 → ⊥) → 2 ≡ phase_of on bit
    phase_swapped e = simp (ne_eqb on 0 o, ne_eqb bit 0 e)

pub ruleset phase_laws = (phase_none, phase_unswapped, phase_swapped)
