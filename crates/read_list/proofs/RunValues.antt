-- The flat look at a list's values: one byte, one turn of the loops, and what it says of the rule.
-- Assumes nothing.
use mathlib.Core.Path.{◌≡◌, refl, sym, ◌∙◌}
use Prim.Native.Nat.{ℕ, ◌+◌, ◌-◌, ◌*◌, ◌/◌, ◌%◌, ◌^◌, ◌≤◌, ◌<◌}
use native.Mathlib.Omega.{arith}
use mathlib.Core.Bool.{Bool, true, false, not, ◌||◌}
use mathlib.Core.List.{List}
use lib.ListN.{get_or}
use lib.Seq.{get_or-drop}
use lib.Dec.{T, eqb}
use lib.Bits.{bit_and, bit_or, bit_xor}
use mir.Syntax.{w8}
use mir.Val.{Fits}
use borrow.Author.Tests.{eqb-true, eqb-false, eq-eqb, ne_eqb, not-false}
use borrow.Author.Count.{below_more}
use Rattle.format.proofs.AllBelow.{below_all, all_below}
use Rattle.format.proofs.Rules.{unsaid}
use Rattle.head_index.specs.NumbersAt.{digit_at}
use Rattle.read_packed.specs.Arrays.{number_in}
use Rattle.read_list.specs.Entries.{value_at, allows}
use Rattle.read_list.specs.Runs.{FourApart, BytesApart, AllOff}
use Rattle.read_list.specs.declared.ListRule.{ListRule}
use Rattle.read_list.specs.declared.ListRule.TheVariants.{OffPair}

-- ---- one byte: one test of all bytes and pairs, which antt computes

-- what `among_four` gives of a byte
abbrev marked : ℕ → ℕ → ℕ → ℕ
marked lower higher b =
    bit_and (255 - bit_and (bit_or (bit_xor b (85 * lower)) (bit_xor b (85 * lower) / 2)) (bit_or (bit_xor b (85 * higher)) (bit_xor b (85 * higher) / 2))) 0x55

test_byte : ℕ → ℕ → ℕ → Bool
test_byte lower higher b =
    not (eqb (marked lower higher b) 0) || all_below 4 (λ j. allows (OffPair lower higher) 0 (b / 4 ^ j % 4))

test_pair : ℕ → ℕ → Bool
test_pair lower higher = all_below 256 (test_byte lower higher)

unmarked : (b : Bool) → b ≡ true → (a : Bool) → T (not b || a) → T a
unmarked true e a t = t
unmarked false e a t = unsaid e

byte_rule : (lower higher b j : ℕ) → lower < 4 → higher < 4 → b < 256 → j < 4 → marked lower higher b ≡ 0
    → T (allows (OffPair lower higher) 0 (b / 4 ^ j % 4))
unfolding test_byte test_pair
byte_rule lower higher b j p q r s z =
    let pairs : T (all_below 4 (test_pair lower)) = below_all 4 (λ (i : ℕ). all_below 4 (test_pair i)) tt lower p in
    let tested : T (test_byte lower higher b) = below_all 256 (test_byte lower higher) (below_all 4 (test_pair lower) pairs higher q) b r in
    below_all 4 (λ (i : ℕ). allows (OffPair lower higher) 0 (b / 4 ^ i % 4)) (unmarked _ (eq-eqb _ _ z) _ tested) j s

neither : (a b : Bool) → T (not (a || b)) → (a ≡ false) × (b ≡ false)
neither true b t = absurd t
neither false true t = absurd t
neither false false t = (refl, refl)

-- a number below 4 that is not the remainder of another is not that one
pub four_apart : (lower higher byte : ℕ) → Fits w8 byte → marked (lower % 4) (higher % 4) byte ≡ 0 → FourApart lower higher byte
four_apart lower higher byte l z = record { each = each }
  where
    each : (j : ℕ) → j < 4 → (old : ℕ) → allows (OffPair lower higher) old (byte / 4 ^ j % 4) ≡ true
    each j h old =
        let value : ℕ = byte / 4 ^ j % 4 in
        let t = byte_rule (lower % 4) (higher % 4) byte j (omega arith) (omega arith) l.fits h z in
        let n = neither (eqb value (lower % 4)) (eqb value (higher % 4)) t in
        let a : value ≡ lower % 4 → ⊥ = eqb-false _ _ n.0 in
        let b : value ≡ higher % 4 → ⊥ = eqb-false _ _ n.1 in
        let small : value < 4 = omega arith in
        let low : value ≡ lower → ⊥ = λ e. a (omega (arith, small)) in
        let high : value ≡ higher → ⊥ = λ e. b (omega (arith, small)) in
        simp (ne_eqb value lower low, ne_eqb value higher high)

-- ---- the loop over bytes

-- of the bytes passed, if the largest is 0
pub record FlatBytes (l : List ℕ) (vals full lower higher most i : ℕ) : Type 0 where
  pub inside : i ≤ full
  pub fine : most ≡ 0 → (p : ℕ) → p < i → FourApart lower higher (get_or l (vals + p) 0)

pub bytes_start : (l : List ℕ) (vals full lower higher : ℕ) → FlatBytes l vals full lower higher 0 0
bytes_start l vals full lower higher = record { inside = omega arith; fine = λ z p h. absurd (omega arith) }

module _ {l : List ℕ} {vals full lower higher most i : ℕ} (g : FlatBytes l vals full lower higher most i) where
  pub bytes_turn : i < full → {x next : ℕ} → (x ≡ 0 → FourApart lower higher (get_or l (vals + i) 0)) → most ≤ next → x ≤ next
      → FlatBytes l vals full lower higher next (i + 1)
  bytes_turn h f a b = record {
    inside = omega arith;
    fine = λ z. below_more (λ (p : ℕ). FourApart lower higher (get_or l (vals + p) 0)) i (g.fine (omega arith)) (f (omega arith));
  }

  pub bytes_end : full ≤ i → eqb most 0 ≡ true → BytesApart l vals full lower higher
  bytes_end h z = record { each = λ p k. g.fine (eqb-true most 0 z) p (omega arith) }

-- ---- the values that fill no byte

-- of the values passed
pub record Values (l : List ℕ) (vals m : ℕ) (held : ListRule) (k : ℕ) : Type 0 where
  pub inside : k ≤ m
  pub each : (j : ℕ) → j < k → (old : ℕ) → allows held old (value_at l vals j) ≡ true

pub values_start : (l : List ℕ) (vals m lower higher : ℕ) {b : Bool} → (b ≡ true → BytesApart l vals (m / 4) lower higher) → not b ≡ false
    → Values l vals m (OffPair lower higher) (4 * (m / 4))
unfolding number_in digit_at
values_start l vals m lower higher {b} f t = record {
  inside = omega arith;
  each = λ j h old. rw get_or-drop (((f (not-false b t)).each (j / 4) (omega arith)).each (j % 4) (omega arith) old);
}

module _ {l : List ℕ} {vals m lower higher k : ℕ} (g : Values l vals m (OffPair lower higher) k) where
  pub values_turn : k < m → {value : ℕ} {b : Bool} → value ≡ value_at l vals k → b ≡ allows (OffPair lower higher) 0 value → not b ≡ false
      → Values l vals m (OffPair lower higher) (k + 1)
  values_turn h {value} {b} v e t = record {
    inside = omega arith;
    each = below_more (λ (j : ℕ). (old : ℕ) → allows (OffPair lower higher) old (value_at l vals j) ≡ true) k g.each
        (λ old. rw v at (sym e ∙ not-false b t));
  }

  pub values_end : m ≤ k → AllOff l vals m (OffPair lower higher)
  values_end h = record { each = λ j i. g.each j (omega arith) }

pub ruleset flat_values = (four_apart, bytes_start, bytes_turn, bytes_end, values_start, values_turn, values_end, unsaid)

-- ---- what it says of the rule

pub pair_off : (l : List ℕ) (vals m : ℕ) (held : ListRule) {lower higher : ℕ} {b : Bool} → held ≡ OffPair lower higher
    → (b ≡ true → AllOff l vals m (OffPair lower higher)) → b ≡ true → AllOff l vals m held
pair_off l vals m held e f t = rw e (f t)

pub ruleset off_laws = (pair_off, unsaid)
