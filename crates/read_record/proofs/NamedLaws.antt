-- Naming a record's variant, before or after what it leaves is told: the same.
-- Assumes nothing.
use mathlib.Core.Path.{◌≡◌, refl}
use Prim.Native.Nat.{ℕ}
use mathlib.Core.List.{List}
use Rattle.format.specs.declared.FileVariant.{FileVariant}
use Rattle.format.specs.Base.{Out, ok, refused, naming}
use Rattle.format.specs.Body.{Body}
use Rattle.format.specs.Reply.{named_reply}
use Rattle.read_record.specs.Recorded.{replied, named_left, record_replied}

pub replied_named : {A : Type 0} (v : FileVariant) (m : Out A) → named_reply v (replied m) ≡ replied (naming v m)
replied_named v (ok a left) = refl
replied_named v (refused why) = refl

pub left_named : (v : FileVariant) (n : ℕ) (row : List ℕ) (m : Out Body) → named_left v (record_replied n row m) ≡ record_replied n row (naming v m)
left_named v n row (ok body left) = refl
left_named v n row (refused why) = refl
