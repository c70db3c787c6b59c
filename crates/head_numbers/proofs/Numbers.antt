-- One turn of the loops of `number_at` and `number_of`.
-- Assumes nothing.
use mathlib.Core.Path.{◌≡◌, refl}
use Prim.Native.Nat.{ℕ, zero, suc, ◌+◌, ◌*◌, ◌^◌, ◌%◌, ◌≤◌, ◌<◌}
use native.Mathlib.Nat.{mul-le-mul_left, pow-suc, pow-zero, pow-le-pow_right, mod-eq_of_lt}
use native.Mathlib.Numerals.{add-one}
use mathlib.Core.List.{List}
use lib.ListN.{drop, get_or}
use lib.Dec.{lit<}
use Rattle.std.proofs.lemmas.Nat.{pow-add}
use mir.Syntax.{w8, w32, w64}
use mir.Val.{Fits}
use native.Mathlib.Omega.{arith}
use Rattle.head_index.specs.NumbersAt.{number_at}
use Rattle.head_index.proofs.ByIndex.{high_byte}

-- the first i bytes have been read
pub record Reading (bs : List ℕ) (at i number : ℕ) : Type 0 where
  pub same : number ≡ number_at i (drop at bs)
  pub small : number < 256 ^ i

-- none yet
pub starts : (bs : List ℕ) (at : ℕ) → Reading bs at 0 0
unfolding number_at
starts bs at = record { same = refl; small = rw pow-zero (lit< tt) }

-- eight bits are a byte
eights : (i : ℕ) → 2 ^ (8 * i) ≡ 256 ^ i
eights zero = refl
eights (suc i) =
    let e : 8 * suc i ≡ 8 + 8 * i = omega arith in
    rw (e, pow-add, eights i, pow-suc 256 i) (omega arith)

-- a digit above those that were read
digit_above : {n p b : ℕ} → n < p → b < 256 → n + p * b < 256 * p
digit_above {n} {p} {b} h l = omega (arith, mul-le-mul_left {m = b} {n = 255} p (omega arith))

one_more : (i : ℕ) → 256 ^ (i + 1) ≡ 256 * 256 ^ i
one_more i = rw (add-one, pow-suc) (omega arith)

-- a byte at its place, where there is room for it
shifted : (i b m : ℕ) → 256 ^ (i + 1) ≤ m → b < 256 → b * 2 ^ (8 * i) % m ≡ 256 ^ i * b
shifted i b m h y =
    let some : 256 ^ 0 ≤ 256 ^ i = pow-le-pow_right {n = 256} (lit< tt) {i = 0} {j = i} (omega arith) in
    let below : 256 ^ i * b < m = omega (arith, some, one_more i, mul-le-mul_left {m = b} {n = 255} (256 ^ i) (omega arith)) in
    let e : b * 2 ^ (8 * i) ≡ 256 ^ i * b = rw (eights i) (omega arith) in
    rw e (mod-eq_of_lt below)

-- in 32 bits, and in 64
fits_short : (i : ℕ) → i < 4 → 256 ^ (i + 1) ≤ 4294967296
fits_short i h = pow-le-pow_right {n = 256} (lit< tt) {i = i + 1} {j = 4} (omega arith)

fits_wide : (i : ℕ) → i < 8 → 256 ^ (i + 1) ≤ 18446744073709551616
fits_wide i h = pow-le-pow_right {n = 256} (lit< tt) {i = i + 1} {j = 8} (omega arith)

-- whichever byte comes above those that were read, there is room for it
module _ {bs : List ℕ} {at i number : ℕ} (g : Reading bs at i number) (y : (i : ℕ) → Fits w8 (get_or bs i 0)) (k : ℕ) {b : ℕ} (e : b ≡ get_or bs k 0) where
  byte_above : (m : ℕ) → 256 ^ (i + 1) ≤ m → number + b * 2 ^ (8 * i) % m < 256 ^ (i + 1)
  byte_above m h =
      let f : Fits w8 b = rw e (y k) in
      rw (shifted i b m h f.fits, one_more i) (digit_above g.small f.fits)

  pub more_fits : i < 4 → Fits w32 (number + b * 2 ^ (8 * i) % 4294967296)
  more_fits h = omega (arith, byte_above 4294967296 (fits_short i h), fits_short i h)

  pub more_fits_wide : i < 8 → Fits w64 (number + b * 2 ^ (8 * i) % 18446744073709551616)
  more_fits_wide h = omega (arith, byte_above 18446744073709551616 (fits_wide i h), fits_wide i h)

module _ {bs : List ℕ} {at i number : ℕ} (g : Reading bs at i number) (y : (i : ℕ) → Fits w8 (get_or bs i 0)) {b : ℕ} (e : b ≡ get_or bs (at + i) 0) where
  -- one byte more, the next
  higher : (m : ℕ) → 256 ^ (i + 1) ≤ m → Reading bs at (i + 1) (number + b * 2 ^ (8 * i) % m)
  higher m h =
      let f : Fits w8 b = rw e (y (at + i)) in
      record {
        same = rw (shifted i b m h f.fits) (high_byte i at bs g.same e);
        small = byte_above g y (at + i) e m h;
      }

  pub goes_on : i < 4 → Reading bs at (i + 1) (number + b * 2 ^ (8 * i) % 4294967296)
  goes_on h = higher 4294967296 (fits_short i h)

  pub goes_on_wide : i < 8 → Reading bs at (i + 1) (number + b * 2 ^ (8 * i) % 18446744073709551616)
  goes_on_wide h = higher 18446744073709551616 (fits_wide i h)

-- all of them
module _ {bs : List ℕ} {at i number w : ℕ} (g : Reading bs at i number) (l : i ≤ w) (h : w ≤ i) where
  reached : i ≡ w
  reached = omega arith

  pub finished : number ≡ number_at w (drop at bs)
  finished = rw reached at g.same

  pub small_enough : number < 256 ^ w
  small_enough = rw reached at g.small

pub ruleset reading_laws = (starts, finished, small_enough)
