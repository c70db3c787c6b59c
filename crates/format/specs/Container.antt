-- A container: one way to store the variants of a file, and the flip of a set of them in what is stored.
-- Assumes nothing.
use Rattle.std.specs.Prelude.{ℕ, Bool}
use Rattle.format.specs.declared.FileVariant.{FileVariant}
use Rattle.format.specs.Base.{Out, ok, refused}

-- An instance gives these parts: `pgen_file` of File is a PGEN file in one piece. What a caller supplies besides the bytes, as N where the file does not hold
-- it, is a parameter of the instance. How categories are coded is a matter of `bytes` and `read` alone: a row is what the codes mean.
-- Once the parts obey the laws of `IsContainer` (proofs/ContainerLaws), demand 3 holds of the instance.
pub record Container : Type 1 where
  -- what is stored: a byte string, or two where the index is a file of its own; and that it is made of bytes
  pub Stored : Type 0
  pub AreBytes : Stored → Type 0
  -- what it stands for; when that obeys the rules; its bytes; the whole-file check, which gives it back or a refusal
  pub Value : Type 0
  pub Obeys : Value → Type 0
  pub bytes : Value → Stored
  pub read : Stored → Out Value
  -- how many variants there are; what each reads as, by the value and from what is stored
  pub variants : Value → ℕ
  pub Row : Type 0
  pub row : Value → FileVariant → Row
  pub read_row : Stored → FileVariant → Out Row
  -- what a variant reads as once flipped, or not; and the flip of a set
  pub exchange : Bool → Row → Row
  pub flip : (FileVariant → Bool) → Value → Value

-- The flip in what is stored: of what the check accepts, the bytes of the flipped value. What it refuses stays.
abbrev pub flipped : (C : Container) → (FileVariant → Bool) → C.Stored → Out C.Value → C.Stored
flipped C member stored (ok value left) = C.bytes (C.flip member value)
flipped C member stored (refused why) = stored

abbrev pub flip_stored : (C : Container) → (FileVariant → Bool) → C.Stored → C.Stored
flip_stored C member stored = flipped C member stored (C.read stored)
