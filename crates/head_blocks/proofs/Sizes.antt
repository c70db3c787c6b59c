-- The fixed fields by index, and how many bytes a block's arrays take.
-- Assumes nothing.
use mathlib.Core.Path.{◌≡◌, refl}
use Prim.Native.Nat.{ℕ, ◌+◌, ◌*◌, ◌≤◌}
use native.Mathlib.Nat.{div-one, mul-le-mul_right}
use mathlib.Core.Bool.{Bool, true, false}
use mathlib.Core.List.{List}
use lib.ListN.{drop, get_or}
use mir.Syntax.{w8, w64}
use mir.Val.{Fits}
use native.Mathlib.Omega.{arith}
use Rattle.format.specs.declared.Fields.{Fields}
use Rattle.format.specs.Base.{pick, Bytes}
use Rattle.format.specs.Packed.{one, four, eight, packed_size}
use Rattle.format.specs.Layout.{fields_of, block_size}
use Rattle.head_index.specs.NumbersAt.{number_at, fixed_at}
use Rattle.head_index.proofs.ByIndex.{bytes_of, low_byte}
use Rattle.head_blocks.specs.Parts.{form_from}

-- the fields, as they are read
pub fields_are : (bs : List ℕ) (m n : ℕ) → m ≡ number_at 4 (drop 3 bs) → n ≡ number_at 4 (drop 7 bs)
    → ◌≡◌ {A = Fields} (record { mode = get_or bs 2 0; variants = m; samples = n; form = get_or bs 11 0 }) (fields_of (fixed_at bs))
unfolding fixed_at
fields_are bs m n e d = rw (low_byte 2 bs refl, low_byte 11 bs refl, e, d) refl

-- types
pub types_small : (n : ℕ) (half : Bool) → packed_size (pick half four eight) n ≤ n
types_small n true = omega arith
types_small n false = rw div-one (omega arith)

-- a block
module _ (n width : ℕ) (w : width ≤ 4) where
  pub lengths_fit : n ≤ 65536 → Fits w64 (width * n)
  lengths_fit l = omega (arith, mul-le-mul_right n w)

  module _ {flags : ℕ} (k : flags ≤ n) where
    pub lengths_flags_fit : n ≤ 65536 → Fits w64 (width * n + flags)
    lengths_flags_fit l = omega (arith, mul-le-mul_right n w)

    module _ (half : Bool) {types : ℕ} (e : types ≡ packed_size (pick half four eight) n) where
      pub block_small : types + (width * n + flags) ≤ 6 * n
      block_small = omega (arith, types_small n half, mul-le-mul_right n w)

      pub block_fits : n ≤ 65536 → Fits w64 (types + (width * n + flags))
      block_fits l = omega (arith, block_small)

      pub block_is : (stored : Bool) → flags ≡ packed_size one (pick stored n 0) → types + (width * n + flags) ≡ block_size (form_from half width stored) n
      unfolding block_size
      block_is stored d = rw (e, d) refl

pub ruleset size_laws = (lengths_fit, lengths_flags_fit, block_small, block_fits, block_is)

-- however it is stored
pub block_most : (n : ℕ) (half : Bool) (width : ℕ) (stored : Bool) → width ≤ 4 → block_size (form_from half width stored) n ≤ 6 * n
unfolding block_size
block_most n half width stored w = omega (arith, types_small n half, mul-le-mul_right n w, flags_small stored)
  where
    flags_small : (stored : Bool) → packed_size one (pick stored n 0) ≤ n
    flags_small true = omega arith
    flags_small false = omega arith

-- ---- a list of bytes

-- what the prover knows of a lent file
pub known_bytes : (file : List ℕ) → ((i : ℕ) → Fits w8 (get_or file i 0)) → Bytes file
known_bytes file k = bytes_of file (λ i. (k i).fits)
