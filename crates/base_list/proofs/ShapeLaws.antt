-- The width of a sample number: one byte or two.
-- Assumes nothing.
use mathlib.Core.Path.{◌≡◌}
use Prim.Native.Nat.{ℕ, ◌≤◌, ◌<◌}
use native.Mathlib.Omega.{arith}
use borrow.Author.Tests.{le-leb, lt-leb}
use Rattle.format.proofs.Rules.{split}
use Rattle.format.specs.Difflist.{number_width}

pub width_one : (n : ℕ) → n ≤ 256 → 1 ≡ number_width n
width_one n h = simp (le-leb n 256 h)

pub width_two : (n : ℕ) → 256 < n → 2 ≡ number_width n
width_two n h = simp (lt-leb n 256 h)

pub width_some : (n : ℕ) → 1 ≤ number_width n
width_some n = split n 256 (λ h. omega (arith, width_one n h)) (λ h. omega (arith, width_two n h))

pub width_few : (n : ℕ) → number_width n ≤ 2
width_few n = split n 256 (λ h. omega (arith, width_one n h)) (λ h. omega (arith, width_two n h))

pub ruleset width_laws = (width_one, width_two)
