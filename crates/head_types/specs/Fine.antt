-- What a check of a block's types without an exit looks at.
-- Assumes nothing.
use Rattle.std.specs.Prelude.{◌≡◌, ℕ, suc, ◌+◌, ◌/◌, ◌%◌, ◌^◌, ◌<◌, true, List, get_or}
use Rattle.format.specs.Packed.{Bits, limit, more}
use Rattle.format.specs.Body.{kind_of}
use Rattle.format.specs.Layout.{bits_allowed}

-- a type that is allowed at every variant but a block's first
pub record Fine (type : ℕ) : Type 0 where
  pub bits : bits_allowed type ≡ true
  pub known : kind_of type ≡ 5 → ⊥

-- every type in a byte is
pub record FineByte (bits : Bits) (byte : ℕ) : Type 0 where
  pub each : (j : ℕ) → j < suc (more bits) → Fine (byte / limit bits ^ j % limit bits)

-- in every one of so many bytes
pub record FineBytes (bs : List ℕ) (at size : ℕ) (bits : Bits) : Type 0 where
  pub each : (k : ℕ) → k < size → FineByte bits (get_or bs (at + k) 0)
