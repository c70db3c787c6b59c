-- The bits of a call, and of a row's calls: what is counted, and what is packed one after another, is the format's track.
-- Assumes nothing.
use mathlib.Core.Path.{◌≡◌, sym, ◌∙◌}
use Prim.Native.Nat.{ℕ, ◌+◌, ◌≤◌, ◌<◌}
use native.Mathlib.Omega.{arith}
use native.Mathlib.Numerals.{add-one}
use mathlib.Core.Bool.{Bool, true, false}
use mathlib.Core.List.{List, [], ◌++◌}
use lib.ListN.{length, get_or, drop, length-append, drop_of_length-le}
use lib.Seq.{drop-cons}
use borrow.Author.Tests.{ne_eqb}
use mir.Val.{bool_byte}
use Rattle.write_phase.specs.Calls.{has_bit, call_bit, call_bits, calls_bits}
use Rattle.write_phase.specs.declared.TrackPart.{TrackPart}
use Rattle.write_phase.specs.declared.TrackPart.TheVariants as part

-- ---- one call

module _ (p : TrackPart) (category phase : ℕ) where
  bit_counted : (has : Bool) → has ≡ has_bit p category phase → bool_byte has ≡ length (call_bits p category phase)
  bit_counted true e = simp (sym e)
  bit_counted false e = simp (sym e)

bit_few : (b : Bool) → bool_byte b ≤ 1
bit_few true = omega arith
bit_few false = omega arith

-- the presence bit of a phased call
pub phased : (p : TrackPart) (phase : ℕ) → p ≡ part.PresenceBits → (phase ≡ 0 → ⊥) → 1 ≡ call_bit p phase
phased p phase q d = rw q (simp (ne_eqb phase 0 d))

-- ---- the calls from sample i on

module _ (p : TrackPart) (categories phases : List ℕ) where
  abbrev pub left_at : ℕ → List ℕ
  left_at i = calls_bits p (drop i categories) (drop i phases)

  pub calls_turn : (i : ℕ) → length phases ≡ length categories → i < length categories
      → left_at i ≡ call_bits p (get_or categories i 0) (get_or phases i 0) ++ left_at (i + 1)
  unfolding calls_bits
  calls_turn i e h = rw (add-one i, drop-cons categories i 0 h, drop-cons phases i 0 (omega arith))

  pub calls_done : (i : ℕ) → length categories ≤ i → left_at i ≡ []
  unfolding calls_bits
  calls_done i h = rw (drop_of_length-le categories h)

-- ---- counted

-- before sample i
pub record Counting (p : TrackPart) (categories phases : List ℕ) (count i : ℕ) : Type 0 where
  pub each : length phases ≡ length categories
  pub upto : i ≤ length categories
  pub few : count ≤ i
  pub same : count + length (left_at p categories phases i) ≡ length (calls_bits p categories phases)

pub count_start : (p : TrackPart) (categories phases : List ℕ) → length phases ≡ length categories → Counting p categories phases 0 0
count_start p categories phases e = record { each = e; upto = omega arith; few = omega arith; same = omega arith }

module _ {p : TrackPart} {categories phases : List ℕ} {count i : ℕ} (v : Counting p categories phases count i) where
  pub count_next : (has : Bool) (bits : ℕ) → has ≡ has_bit p (get_or categories i 0) (get_or phases i 0) → bits ≡ bool_byte has → i < length categories
      → Counting p categories phases (count + bits) (i + 1)
  count_next has bits e b h =
      let n : bits ≡ length (call_bits p (get_or categories i 0) (get_or phases i 0)) = b ∙ bit_counted p _ _ has e in
      let few : bits ≤ 1 = rw b (bit_few has) in
      let out : List ℕ = call_bits p (get_or categories i 0) (get_or phases i 0) in
      let rest : List ℕ = left_at p categories phases (i + 1) in
      record {
        each = v.each;
        upto = omega arith;
        few = omega (arith, v.few);
        same = omega (arith, rw (calls_turn p categories phases i v.each h, length-append out rest) at v.same);
      }

  pub count_end : length categories ≤ i → count ≡ length (calls_bits p categories phases)
  count_end h = omega (arith, rw (calls_done p categories phases i h) at v.same)

pub ruleset count_laws = (count_start, count_next, count_end)
