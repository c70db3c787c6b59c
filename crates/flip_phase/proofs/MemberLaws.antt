-- A variant's bit of the set.
-- Assumes nothing.
use mathlib.Core.Path.{◌≡◌, ap}
use Prim.Native.Nat.{ℕ, ◌/◌, ◌%◌, ◌^◌}
use mathlib.Core.List.{List}
use lib.ListN.{get_or}
use lib.Dec.{eqb}
use Rattle.format.specs.declared.FileVariant.{FileVariant}
use Rattle.format.specs.Reply.{member}

pub member_is : (set : List ℕ) (v : FileVariant) (b : ℕ) → b ≡ get_or set (v.0 / 8) 0 → eqb (b / 2 ^ (v.0 % 8) % 2) 1 ≡ member set v
member_is set v b e = ap (λ (y : ℕ). eqb (y / 2 ^ (v.0 % 8) % 2) 1) e
