-- The part of the data that is a variant's record.
-- Assumes nothing.
use mathlib.Core.Path.{◌≡◌, ap, ap₂, ◌∙◌}
use Prim.Native.Nat.{ℕ, ◌+◌, ◌-◌, ◌≤◌}
use mathlib.Core.List.{List, []}
use lib.ListN.{length, take, drop, get_or}
use native.Mathlib.Omega.{arith}
use Rattle.format.specs.declared.FileVariant.{FileVariant}
use Rattle.format.specs.declared.Fields.{Fields}
use Rattle.format.specs.Layout.{Layout, body_lengths, record_start}
use Rattle.head_index.proofs.StartLaws.{body_length_at, record_end, stored_body, stored_inside}
use Rattle.head_places.specs.declared.Place.{Place}
use Rattle.head_places.specs.Located.{Located}

module _ {index held : List ℕ} {f : Fields} {v : FileVariant} {p : Place} (g : Located index held f v p) where
  abbrev l : Layout
  l = g.has.layout

  start_there : p.start ≡ record_start 65536 l v
  start_there = ap (λ (z : Place). z.start) g.is

  ends : p.end ≡ p.start + length (get_or l.bodies v.0 [])
  ends = omega (arith, ap (λ (z : Place). z.end) g.is, start_there, record_end 65536 v l g.below)

  pub part_rises : p.start ≤ p.end
  part_rises = omega (arith, ends)

  pub part_inside : p.end ≤ length held
  part_inside = omega (arith, ends, stored_inside 65536 index held l g.has.stored v g.below, start_there)

  pub part_is : take (p.end - p.start) (drop p.start held) ≡ get_or l.bodies v.0 []
  part_is =
      let n : p.end - p.start ≡ get_or (body_lengths l) v.0 0 = omega (arith, ends, body_length_at v l) in
      ap₂ (λ (size start : ℕ). take size (drop start held)) n start_there
      ∙ stored_body 65536 index held l g.has.stored v g.below
