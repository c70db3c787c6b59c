-- Numbers packed one after another: each is below `limit`; `byte` is what the byte at hand has so far, `scale` the weight of the next number in it.
-- Assumes nothing.
use Rattle.std.specs.Prelude.{◌≡◌, ℕ, zero, suc, ◌+◌, ◌*◌, ◌≤◌, ◌<◌, List, [], ◌∷◌, ◌++◌, length, eqb, ltb}
use Rattle.std.proofs.lemmas.List.Edits.{sets}
use Rattle.format.specs.Base.{pick}
use Rattle.write_bytes.specs.declared.Packing.{Packing}

-- the byte at hand, if it has a number
abbrev pub last_byte : ℕ → ℕ → List ℕ
last_byte scale byte = pick (eqb scale 1) [] (byte ∷ [])

-- the bytes from the byte at hand on; a byte is full once its next weight would be 256
unfoldable pub packed_from : ℕ → ℕ → ℕ → List ℕ → List ℕ
packed_from limit scale byte [] = last_byte scale byte
packed_from limit scale byte (v ∷ vs) =
    pick (ltb (scale * limit) 256) (packed_from limit (scale * limit) (byte + v * scale) vs) ((byte + v * scale) ∷ packed_from limit 1 0 vs)

-- after so many more numbers the next fills the byte
abbrev pub Scale : ℕ → ℕ → ℕ → Type 0
Scale limit zero scale = scale * limit ≡ 256
Scale limit (suc more) scale = (scale * limit < 256) × Scale limit more (scale * limit)

pub record PackingFits (limit scale byte : ℕ) : Type 0 where
  pub more : ℕ
  pub is_scale : Scale limit more scale
  pub most : ℕ
  pub from_1 : Scale limit most 1
  pub some : 2 ≤ limit
  pub below : byte < scale

-- where the packing is once some numbers were packed: whatever follows them, the same bytes are written in the end
pub record PackedOn (limit : ℕ) (before : List ℕ) (packing : Packing) (numbers : List ℕ) (r : Packing) (after : List ℕ) : Type 0 where
  pub fits : PackingFits limit r.scale r.byte
  pub keeps : length after ≡ length before
  pub ends : (rest : List ℕ) → r.at + length (packed_from limit r.scale r.byte rest)
      ≡ packing.at + length (packed_from limit packing.scale packing.byte (numbers ++ rest))
  pub same : (rest : List ℕ) → sets after r.at (packed_from limit r.scale r.byte rest)
      ≡ sets before packing.at (packed_from limit packing.scale packing.byte (numbers ++ rest))

-- before some numbers: packing them completes the bytes that are to stand at `at`
pub record PackingGoes (limit : ℕ) (bytes to₀ : List ℕ) (at : ℕ) (to : List ℕ) (packing : Packing) (rest : List ℕ) : Type 0 where
  pub fits : PackingFits limit packing.scale packing.byte
  pub room : at + length bytes ≤ length to₀
  pub keeps : length to ≡ length to₀
  pub ends : packing.at + length (packed_from limit packing.scale packing.byte rest) ≡ at + length bytes
  pub same : sets to packing.at (packed_from limit packing.scale packing.byte rest) ≡ sets to₀ at bytes
