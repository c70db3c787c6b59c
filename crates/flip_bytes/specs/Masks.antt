-- The bytes' changes as code makes them, by masks.
-- Assumes nothing.
use Rattle.std.specs.Prelude.{ℕ, zero, suc, ◌-◌, ◌*◌, ◌%◌}
use Rattle.std.specs.Int.Bits.{bit_and, bit_xor}

-- 0 and 2 exchanged in the values whose high bits the mask has
abbrev pub exchanged_by : ℕ → ℕ → ℕ
exchanged_by mask b = bit_xor b (bit_and (255 - (b * 2 % 256)) mask)

-- the high bits of a byte's first n values
abbrev pub value_mask : ℕ → ℕ
value_mask zero = 0
value_mask (suc zero) = 0x02
value_mask (suc (suc zero)) = 0x0a
value_mask (suc (suc (suc zero))) = 0x2a
value_mask (suc (suc (suc (suc n)))) = 0xaa

-- a byte's first n bits
abbrev pub bit_mask : ℕ → ℕ
bit_mask zero = 0
bit_mask (suc zero) = 0x01
bit_mask (suc (suc zero)) = 0x03
bit_mask (suc (suc (suc zero))) = 0x07
bit_mask (suc (suc (suc (suc zero)))) = 0x0f
bit_mask (suc (suc (suc (suc (suc zero))))) = 0x1f
bit_mask (suc (suc (suc (suc (suc (suc zero)))))) = 0x3f
bit_mask (suc (suc (suc (suc (suc (suc (suc zero))))))) = 0x7f
bit_mask (suc (suc (suc (suc (suc (suc (suc (suc n)))))))) = 0xff
