-- A record, as code cuts it out of the data.
-- Assumes nothing.
use mathlib.Core.Path.{◌≡◌, refl, sym, ap, ◌∙◌}
use Prim.Native.Nat.{ℕ, ◌≤◌, ◌<◌}
use mathlib.Core.List.{List, []}
use lib.ListN.{length, take, drop, get_or, length-take}
use lib.Dec.{lit<}
use native.Mathlib.Omega.{arith}
use Rattle.format.specs.declared.FileVariant.{FileVariant}
use Rattle.format.specs.declared.Fields.{Fields}
use Rattle.format.specs.Base.{Bytes}
use Rattle.format.specs.Limits.{variants_to_a_block}
use Rattle.format.specs.Body.{kind_of, read_body}
use Rattle.format.specs.Variant.{next_variant, in_block}
use Rattle.format.specs.Layout.{Layout, record_start}
use Rattle.format.specs.File.{type_of}
use Rattle.format.proofs.AnchorLaws.{allowed, type_allowed_in}
use Rattle.format.proofs.FileLaws.{one_type_each}
use Rattle.format.proofs.CallRefusals.{stored_bytes}
use Rattle.head_index.proofs.StoredLaws.{stored_bodies}
use Rattle.head_index.proofs.StartLaws.{stored_record}
use Rattle.head_places.specs.declared.Place.{Place}
use Rattle.head_places.specs.Located.{HasLayout, Located}
use Rattle.head_places.proofs.PartLaws.{part_rises, part_inside}
use Rattle.read_record.specs.Recorded.{record_replied, recorded, phased_replied, phased_recorded}

pub body_is_bytes : {index held : List ℕ} {f : Fields} (h : HasLayout index held f) → Bytes held → (v : ℕ) → Bytes (get_or h.layout.bodies v [])
body_is_bytes {index} {held} h y v = stored_bytes v h.layout.bodies (stored_bodies variants_to_a_block index held h.layout h.stored y)

-- a record, by where it ends, its bytes and its type
body_at : (n : ℕ) (anchor held : List ℕ) (start end type : ℕ) {end' type' : ℕ} {body : List ℕ} → length (take end held) ≡ end'
    → drop start (take end held) ≡ body → type ≡ type'
    → read_body (length (take end held)) n anchor type (drop start (take end held)) ≡ read_body end' n anchor type' body
body_at n anchor held start end type e b t = rw (e, b, t) refl

module _ {index held : List ℕ} {f : Fields} {v : FileVariant} {p : Place} (g : Located index held f v p) where
  abbrev l : Layout
  l = g.has.layout

  -- its type is allowed
  type_known : kind_of (type_of l v) ≡ 5 → ⊥
  type_known =
      let there : v.0 < length l.types = omega (arith, g.below, one_type_each variants_to_a_block l g.has.stored.obeys) in
      (allowed (in_block variants_to_a_block v) (type_of l v)
      (type_allowed_in variants_to_a_block l.types (lit< tt) g.has.stored.obeys.types v there)).2

  pub kind_known : kind_of p.record_type ≡ 5 → ⊥
  kind_known = rw (ap (λ (z : Place). z.record_type) g.is) type_known

  -- the data cut where the record ends
  pub cut_end : p.end ≡ length (take p.end held)
  cut_end = omega (arith, length-take p.end held, part_inside g)

  pub cut_start : p.start ≤ length (take p.end held)
  cut_start = omega (arith, cut_end, part_rises g)

  -- what code reads of it, over any anchor
  pub body_is : (anchor : List ℕ) → read_body (length (take p.end held)) l.samples anchor p.record_type (drop p.start (take p.end held))
      ≡ read_body (record_start variants_to_a_block l (next_variant v)) l.samples anchor (type_of l v) (get_or l.bodies v.0 [])
  body_is anchor =
      body_at l.samples anchor held p.start p.end p.record_type
      (sym cut_end ∙ ap (λ (z : Place). z.end) g.is)
      (ap (λ (z : Place). drop z.start (take z.end held)) g.is ∙ stored_record variants_to_a_block index held l g.has.stored v g.below)
      (ap (λ (z : Place). z.record_type) g.is)

  pub recorded_is : (row : List ℕ) → recorded l.samples p.record_type (take p.end held) p.start row
      ≡ record_replied l.samples row
      (read_body (record_start variants_to_a_block l (next_variant v)) l.samples (take l.samples row) (type_of l v) (get_or l.bodies v.0 []))
  unfolding recorded
  recorded_is row = ap (record_replied l.samples row) (body_is (take l.samples row))

  pub phased_is : (row output : List ℕ) → phased_recorded l.samples p.record_type (take p.end held) p.start row output
      ≡ phased_replied l.samples row output
      (read_body (record_start variants_to_a_block l (next_variant v)) l.samples (take l.samples row) (type_of l v) (get_or l.bodies v.0 []))
  unfolding phased_recorded
  phased_is row output = ap (phased_replied l.samples row output) (body_is (take l.samples row))
