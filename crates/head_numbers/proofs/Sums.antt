-- The lower bytes of a number, and one turn of the loops that sum numbers.
-- Assumes nothing.
use mathlib.Core.Path.{◌≡◌, refl}
use Prim.Native.Nat.{ℕ, zero, suc, ◌+◌, ◌-◌, ◌*◌, ◌^◌, ◌%◌, ◌≤◌, ◌<◌}
use native.Mathlib.Nat.{pow-le-pow_right, mul-suc, mul-zero, suc-mul, pow-zero, pow-suc, mod-eq_of_lt, add-mul-mod_self_left}
use native.Mathlib.Numerals.{add-one}
use mathlib.Core.List.{List}
use lib.ListN.{drop, get_or}
use lib.Seq.{drop-drop, get_or-drop}
use lib.Dec.{lit<}
use lib.Arith.{digits_lt}
use mir.Syntax.{w8}
use mir.Val.{Fits}
use native.Mathlib.Omega.{arith}
use Rattle.format.specs.Layout.{sum}
use Rattle.head_index.specs.NumbersAt.{number_at, numbers_at}
use Rattle.head_index.proofs.ByIndex.{splits}

-- ---- a number by its bytes

below : (w at : ℕ) (bs : List ℕ) → ((i : ℕ) → Fits w8 (get_or bs i 0)) → number_at w (drop at bs) < 256 ^ w
unfolding number_at
below zero at bs y = rw pow-zero (lit< tt)
below (suc w) at bs y = rw (pow-suc, drop-drop, get_or-drop) (digits_lt (below w (at + 1) bs y) (y (at + 0)).fits)

-- the lower bytes of a number of more
pub low_bytes : (w k at : ℕ) (bs : List ℕ) {x : ℕ} → ((i : ℕ) → Fits w8 (get_or bs i 0)) → x ≡ number_at (w + k) (drop at bs)
    → x % 256 ^ w ≡ number_at w (drop at bs)
low_bytes w k at bs y e = rw (e, splits w k (drop at bs), add-mul-mod_self_left) (mod-eq_of_lt (below w at bs y))

-- ---- a sum

-- i of n numbers of so many bytes, each at most `most`, have been summed
pub record Summing (bs : List ℕ) (at n width most i total : ℕ) : Type 0 where
  pub inside : i ≤ n
  pub small : total ≤ i * most
  pub same : total + sum (numbers_at width (n - i) (drop (at + width * i) bs)) ≡ sum (numbers_at width n (drop at bs))

-- none of them yet
pub starts : (bs : List ℕ) (at n width most : ℕ) → Summing bs at n width most 0 0
starts bs at n width most =
    let e : n - 0 ≡ n = omega arith in
    let a : at + width * 0 ≡ at = omega (arith, mul-zero width) in
    record { inside = omega arith; small = omega arith; same = rw (e, a) (omega arith) }

-- the first of what is left
first : (width n : ℕ) (bs : List ℕ) → zero < n → sum (numbers_at width n bs) ≡ number_at width bs + sum (numbers_at width (n - 1) (drop width bs))
unfolding numbers_at sum
first width zero bs h = absurd (omega arith)
first width (suc n) bs h = let e : suc n - 1 ≡ n = omega arith in rw e refl

-- a number of at most two bytes, and one of at most four
pub below_short : (w : ℕ) {x : ℕ} → x < 256 ^ w → w ≤ 2 → x ≤ 65535
below_short w h l = omega (arith, pow-le-pow_right {n = 256} (lit< tt) {i = w} {j = 2} l)

pub below_long : (w : ℕ) {x : ℕ} → x < 256 ^ w → w ≤ 4 → x ≤ 4294967295
below_long w h l = omega (arith, pow-le-pow_right {n = 256} (lit< tt) {i = w} {j = 4} l)

module _ {bs : List ℕ} {at n width most i total : ℕ} (g : Summing bs at n width most i total) where
  -- one more
  pub goes_on : (p : ℕ) {x : ℕ} → i < n → x ≡ number_at width (drop p bs) → p ≡ at + width * i → x ≤ most → Summing bs at n width most (i + 1) (total + x)
  goes_on p {x} h e d l =
      let m : n - (i + 1) ≡ n - i - 1 = omega arith in
      let q : at + width * (i + 1) ≡ at + width * i + width = rw add-one (omega (arith, mul-suc width i)) in
      let r : sum (numbers_at width (n - i) (drop (at + width * i) bs)) ≡ x + sum (numbers_at width (n - i - 1) (drop (at + width * i + width) bs))
      = rw (e, d, ← drop-drop width (at + width * i) bs) (first width (n - i) (drop (at + width * i) bs) (omega arith)) in
      record { inside = omega arith; small = rw add-one (omega (arith, g.small, suc-mul i most)); same = rw (m, q) (omega (arith, g.same)) }

  -- the same as a wider number
  pub goes_on_wide : (p : ℕ) {b x : ℕ} → i < n → b ≡ x → x ≡ number_at width (drop p bs) → p ≡ at + width * i → x ≤ most
      → Summing bs at n width most (i + 1) (total + b)
  goes_on_wide p h z e d l = rw z (goes_on p h e d l)

  -- all of them
  pub finished : n ≤ i → total ≡ sum (numbers_at width n (drop at bs))
  unfolding numbers_at sum
  finished h = let e : n - i ≡ 0 = omega arith in omega (arith, rw e at g.same)

pub ruleset sum_laws = (starts, below_short, below_long, goes_on, goes_on_wide, finished)
