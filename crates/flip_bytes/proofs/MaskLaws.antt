-- What a mask does to a byte is the change of its first numbers: one test of all bytes, which antt computes.
-- Assumes nothing.
use mathlib.Core.Path.{◌≡◌, refl, ap, ◌∙◌, sym}
use mathlib.Core.Bool.{Bool}
use Prim.Native.Nat.{ℕ, zero, suc, ◌+◌, ◌*◌, ◌/◌, ◌%◌, ◌<◌, ◌≤◌}
use native.Mathlib.Nat.{not-suc-le-zero}
use native.Mathlib.Omega.{arith}
use lib.Dec.{eqb, eqb→eq}
use lib.Bits.{bit_xor}
use Rattle.format.specs.Category.{exchange}
use Rattle.format.proofs.AllBelow.{below_all, all_below}
use Rattle.flip_bytes.specs.Changed.{changed_byte, complement}
use Rattle.flip_bytes.specs.Masks.{exchanged_by, value_mask, bit_mask}

-- past the byte's room the count is of no matter
full_byte : (b : ℕ) (f : ℕ → ℕ) (room n x : ℕ) → room ≤ n → changed_byte b f room n x ≡ changed_byte b f room room x
full_byte b f zero zero x h = refl
full_byte b f zero (suc n) x h = refl
full_byte b f (suc room) zero x h = absurd (not-suc-le-zero h)
full_byte b f (suc room) (suc n) x h = ap (λ (y : ℕ). y * b + f (x % b)) (full_byte b f room n (x / b) (omega arith))

test_values : ℕ → Bool
test_values n = all_below 256 (λ b. eqb (exchanged_by (value_mask n) b) (changed_byte 4 exchange 4 n b))

values_rule : (n b : ℕ) → n < 5 → b < 256 → exchanged_by (value_mask n) b ≡ changed_byte 4 exchange 4 n b
unfolding test_values
values_rule n b l h =
    eqb→eq _ _ (below_all 256 (λ x. eqb (exchanged_by (value_mask n) x) (changed_byte 4 exchange 4 n x)) (below_all 5 test_values tt n l) b h)

-- the first n values of a byte, n below 4; and all four
pub values_some : (n b mask : ℕ) → n < 4 → b < 256 → mask ≡ value_mask n → exchanged_by mask b ≡ changed_byte 4 exchange 4 n b
values_some n b mask l h e = ap (λ (m : ℕ). exchanged_by m b) e ∙ values_rule n b (omega arith) h

pub values_full : (n b : ℕ) → 4 ≤ n → b < 256 → exchanged_by 0xaa b ≡ changed_byte 4 exchange 4 n b
values_full n b l h = values_rule 4 b (omega arith) h ∙ sym (full_byte 4 exchange 4 n b l)

test_bits : ℕ → Bool
test_bits n = all_below 256 (λ b. eqb (bit_xor b (bit_mask n)) (changed_byte 2 complement 8 n b))

bits_rule : (n b : ℕ) → n < 9 → b < 256 → bit_xor b (bit_mask n) ≡ changed_byte 2 complement 8 n b
unfolding test_bits
bits_rule n b l h =
    eqb→eq _ _ (below_all 256 (λ x. eqb (bit_xor x (bit_mask n)) (changed_byte 2 complement 8 n x)) (below_all 9 test_bits tt n l) b h)

-- the first n bits of a byte, n below 8; and all eight
pub bits_some : (n b mask : ℕ) → n < 8 → b < 256 → mask ≡ bit_mask n → bit_xor b mask ≡ changed_byte 2 complement 8 n b
bits_some n b mask l h e = ap (bit_xor b) e ∙ bits_rule n b (omega arith) h

pub bits_full : (n b : ℕ) → 8 ≤ n → b < 256 → bit_xor b 0xff ≡ changed_byte 2 complement 8 n b
bits_full n b l h = bits_rule 8 b (omega arith) h ∙ sym (full_byte 2 complement 8 n b l)
