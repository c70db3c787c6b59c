-- The loops over packed bytes: what is still to change, and what a mask does to one byte.
-- Assumes nothing.
use mathlib.Core.Path.{◌≡◌, refl, sym, ap, ◌∙◌}
use Prim.Native.Nat.{ℕ, suc, ◌+◌, ◌-◌, ◌*◌, ◌/◌, ◌%◌, ◌≤◌, ◌<◌}
use mathlib.Core.List.{List}
use lib.ListN.{length, get_or, set, length-set}
use lib.Bits.{bit_xor}
use mir.Syntax.{w8}
use mir.Val.{Fits}
use native.Mathlib.Omega.{arith}
use Rattle.format.specs.Category.{exchange}
use Rattle.flip_bytes.specs.Changed.{changed_byte, complement, values_exchanged, bits_complemented}
use Rattle.flip_bytes.specs.Masks.{exchanged_by, value_mask, bit_mask}
use Rattle.flip_bytes.proofs.MaskLaws.{values_some, values_full, bits_some, bits_full}
use Rattle.flip_bytes.proofs.ChangedLaws.{still, still_none, still_turn}

-- before byte i, with `left` numbers to change; a byte has m + 1 of them, each below b
pub record Changing (b m : ℕ) (f : ℕ → ℕ) (s₀ : List ℕ) (at n : ℕ) (s : List ℕ) (i left : ℕ) : Type 0 where
  pub same : still b m f s i left ≡ still b m f s₀ at n
  pub room : i + (left + m) / suc m ≤ length s
  pub long : length s ≡ length s₀

pub change_starts : (b m : ℕ) (f : ℕ → ℕ) (s : List ℕ) (at n : ℕ) → at + (n + m) / suc m ≤ length s → Changing b m f s at n s at n
change_starts b m f s at n h = record { same = refl; room = h; long = refl }

module _ {b m : ℕ} {f : ℕ → ℕ} {s₀ : List ℕ} {at n : ℕ} {s : List ℕ} {i left : ℕ} (w : Changing b m f s₀ at n s i left) where
  -- nothing is left
  pub change_ends : left ≤ 0 → s ≡ still b m f s₀ at n
  change_ends h =
      let z : 0 ≡ left = omega arith in
      sym (still_none b m f s i) ∙ ap (still b m f s i) z ∙ w.same

  -- a byte is changed, and then it may be the last
  module _ (v : ℕ) (e : v ≡ changed_byte b f (suc m) left (get_or s i 0)) (h : i < length s) where
    turned : still b m f (set s i v) (i + 1) (left - suc m) ≡ still b m f s₀ at n
    turned = still_turn b m f s i left v h e ∙ w.same

    last : left ≤ suc m → set s i v ≡ still b m f s₀ at n
    last k =
        let z : 0 ≡ left - suc m = omega arith in
        sym (still_none b m f (set s i v) (i + 1)) ∙ ap (still b m f (set s i v) (i + 1)) z ∙ turned

-- ---- categories

module _ {s₀ : List ℕ} {at n : ℕ} {s : List ℕ} {i : ℕ} (w : Changing 4 3 exchange s₀ at n s (at + i) (n - 4 * i))
    (known : (j : ℕ) → Fits w8 (get_or s j 0)) where
  pub values_go_on : i < n / 4 → (v : ℕ) → v ≡ exchanged_by 0xaa (get_or s (at + i) 0)
      → Changing 4 3 exchange s₀ at n (set s (at + i) v) (at + (i + 1)) (n - 4 * (i + 1))
  values_go_on h v e =
      let p : at + (i + 1) ≡ at + i + 1 = omega arith in
      let q : n - 4 * (i + 1) ≡ n - 4 * i - 4 = omega arith in
      rw (p, q) (record {
        same = turned w v (e ∙ values_full (n - 4 * i) (get_or s (at + i) 0) (omega arith) (known (at + i)).fits) (omega (arith, w.room));
        room = simp length-set (omega (arith, w.room));
        long = length-set s (at + i) v ∙ w.long;
      })

  module _ (l : i ≤ n / 4) (h : n / 4 ≤ i) where
    values_rest : n - 4 * i ≡ n % 4
    values_rest = omega arith

    values_place : at + i ≡ at + n / 4
    values_place = omega arith

    pub values_last : (n % 4 ≡ 0 → ⊥) → (mask v : ℕ) → mask ≡ value_mask (n % 4) → v ≡ exchanged_by mask (get_or s (at + n / 4) 0)
        → set s (at + n / 4) v ≡ values_exchanged at n s₀
    values_last z mask v d e =
        let c : Changing 4 3 exchange s₀ at n s (at + n / 4) (n % 4) = rw (values_place, values_rest) at w in
        last c v (e ∙ values_some (n % 4) (get_or s (at + n / 4) 0) mask (omega arith) (known (at + n / 4)).fits d) (omega (arith, c.room)) (omega arith)

-- all have changed
pub values_none : {s₀ : List ℕ} {at n : ℕ} {s : List ℕ} {i : ℕ} → Changing 4 3 exchange s₀ at n s (at + i) (n - 4 * i) → n / 4 ≤ i → n % 4 ≡ 0
    → s ≡ values_exchanged at n s₀
values_none w h z = change_ends w (omega arith)

pub ruleset values_laws = (change_starts, values_go_on, values_last, values_none)

-- ---- bits

module _ {s₀ : List ℕ} {at n : ℕ} {s : List ℕ} {i : ℕ} (w : Changing 2 7 complement s₀ at n s (at + i) (n - 8 * i))
    (known : (j : ℕ) → Fits w8 (get_or s j 0)) where
  pub bits_go_on : i < n / 8 → Changing 2 7 complement s₀ at n (set s (at + i) (bit_xor (get_or s (at + i) 0) 0xff)) (at + (i + 1)) (n - 8 * (i + 1))
  bits_go_on h =
      let p : at + (i + 1) ≡ at + i + 1 = omega arith in
      let q : n - 8 * (i + 1) ≡ n - 8 * i - 8 = omega arith in
      rw (p, q) (record {
        same = turned w _ (bits_full (n - 8 * i) (get_or s (at + i) 0) (omega arith) (known (at + i)).fits) (omega (arith, w.room));
        room = simp length-set (omega (arith, w.room));
        long = length-set s (at + i) _ ∙ w.long;
      })

  module _ (l : i ≤ n / 8) (h : n / 8 ≤ i) where
    bits_rest : n - 8 * i ≡ n % 8
    bits_rest = omega arith

    bits_place : at + i ≡ at + n / 8
    bits_place = omega arith

    pub bits_last : (n % 8 ≡ 0 → ⊥) → (mask : ℕ) → mask ≡ bit_mask (n % 8)
        → set s (at + n / 8) (bit_xor (get_or s (at + n / 8) 0) mask) ≡ bits_complemented at n s₀
    bits_last z mask d =
        let c : Changing 2 7 complement s₀ at n s (at + n / 8) (n % 8) = rw (bits_place, bits_rest) at w in
        last c _ (bits_some (n % 8) (get_or s (at + n / 8) 0) mask (omega arith) (known (at + n / 8)).fits d) (omega (arith, c.room)) (omega arith)

-- all have changed
pub bits_none : {s₀ : List ℕ} {at n : ℕ} {s : List ℕ} {i : ℕ} → Changing 2 7 complement s₀ at n s (at + i) (n - 8 * i) → n / 8 ≤ i → n % 8 ≡ 0
    → s ≡ bits_complemented at n s₀
bits_none w h z = change_ends w (omega arith)

pub ruleset bits_laws = (change_starts, bits_go_on, bits_last, bits_none)
