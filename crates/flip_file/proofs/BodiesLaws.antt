-- The law of the bodies' pass: on bodies that are written out, with the phases of members flipped already, it leaves the flipped bodies, written out.
-- Assumes nothing.
use mathlib.Core.Path.{◌≡◌, refl, sym, ap, ap₂, ◌∙◌}
use Prim.Native.Nat.{ℕ, ◌+◌, ◌-◌, ◌≤◌, ◌<◌}
use native.Mathlib.Omega.{arith}
use mathlib.Core.Bool.{Bool}
use mathlib.Core.List.{List, [], ◌∷◌, ◌++◌, map, append_assoc}
use lib.ListN.{length, get_or, drop, length-append}
use lib.Seq.{take_at, drop_at}
use lib.Dec.{leb}
use borrow.Author.Tests.{le-leb}
use Rattle.format.specs.declared.FileVariant.{FileVariant}
use Rattle.format.specs.Base.{pick}
use Rattle.format.specs.Limits.{most_samples}
use Rattle.format.specs.Phase.{phases_bytes, flip_phases}
use Rattle.format.specs.Body.{type_leans, Body, body_type, body_leans, body_bytes, body_categories, flip_body}
use Rattle.format.specs.Variant.{next_variant}
use Rattle.format.specs.Layout.{Fixed, joined}
use Rattle.format.specs.File.{next_anchor, BodiesFit, flip_bodies}
use Rattle.format.proofs.BodyLaws.{body_leans_typed}
use Rattle.flip_body.specs.Edits.{body_flipped, flipped_in}
use Rattle.flip_body.proofs.BodyLaws.{body_law, body_length}
use Rattle.head_records.specs.Extent.{record_type, record_size}
use Rattle.flip_phase.specs.OneRecord.{turn_phases}
use Rattle.flip_phase.specs.AllRecords.{turn_all, records_bytes}
use Rattle.flip_phase.proofs.PassLaws.{first_left, rest_left, turned_length}
use Rattle.flip_file.specs.Passes.{bodies_flipped}

-- a record in the middle of a file
part_flipped : (N type : ℕ) (lent member : Bool) (x b r : List ℕ) (start : ℕ) → length x ≡ start
    → flipped_in start (start + length b) N type lent member (x ++ (b ++ r)) ≡ x ++ (body_flipped N type lent member b ++ r)
part_flipped N type lent member x b r start e =
    let n : start + length b - start ≡ length b = omega arith in
    let q : drop (start + length b) (x ++ (b ++ r)) ≡ r
    = ap (drop (start + length b)) (sym (append_assoc x b r)) ∙ drop_at (x ++ b) r (start + length b) (length-append x b ∙ ap (λ (i : ℕ). i + length b) e) in
    simp (n, q, take_at x (b ++ r) start e, drop_at x (b ++ r) start e, take_at b r (length b) refl)

-- `top` is what stands before the records: whatever they are, it tells the types and the sizes
module _ (K : ℕ) (f : Fixed) (member : FileVariant → Bool) (top types lengths : List ℕ)
    (typed : (records : List ℕ) (v : FileVariant) → v.0 < f.variants → record_type K f (top ++ records) v ≡ get_or types v.0 0)
    (sized : (records : List ℕ) (v : FileVariant) → v.0 < f.variants → record_size K f (top ++ records) v ≡ get_or lengths v.0 0)
    (few : f.samples ≤ most_samples) where
  abbrev bytes_of : List Body → List ℕ
  bytes_of bodies = records_bytes f.samples bodies

  pub bodies_law : (anchor : List ℕ) (bodies : List Body) (done : List ℕ) (v : FileVariant) (start : ℕ) (lent : Bool) → BodiesFit f.samples anchor bodies
      → drop v.0 types ≡ map body_type bodies → drop v.0 lengths ≡ map length (map (body_bytes f.samples) bodies) → v.0 + length bodies ≡ f.variants
      → start ≡ length top + length done
      → bodies_flipped K f member (length bodies) v start lent (top ++ (done ++ bytes_of (turn_all member v bodies)))
      ≡ top ++ (done ++ bytes_of (flip_bodies member v lent bodies))
  unfolding bodies_flipped joined
  bodies_law anchor [] done v start lent fit et el ev es = refl
  bodies_law anchor (body ∷ bodies) done v start lent fit et el ev es =
      let N : ℕ = f.samples in
      let own : Bool = member v in
      let type : ℕ = body_type body in
      let b : List ℕ = body_bytes N (turn_phases own body) in
      let b' : List ℕ = body_bytes N (flip_body lent own body) in
      let rest : List ℕ = bytes_of (turn_all member (next_variant v) bodies) in
      let file : List ℕ = top ++ (done ++ (b ++ rest)) in
      let next : Bool = next_anchor (body_leans body) lent own in
      let l : v.0 < f.variants = omega arith in
      let read : record_type K f file v ≡ type = typed (done ++ (b ++ rest)) v l ∙ first_left types v.0 type (map body_type bodies) et in
      let stored : ℕ = length (body_bytes N body) in
      let size : record_size K f file v ≡ length b
      = sized (done ++ (b ++ rest)) v l ∙ first_left lengths v.0 stored (map length (map (body_bytes N) bodies)) el ∙ sym (turned_length N own body) in
      let parts : file ≡ (top ++ done) ++ (b ++ rest) = simp append_assoc in
      let fits : start + length b ≤ length file = rw parts (simp length-append (omega arith)) in
      let new : body_flipped N type lent own b ≡ b' = body_law N anchor lent own body (phases_bytes (flip_phases own body.phases)) few fit.0 in
      let later : List ℕ = top ++ ((done ++ b') ++ rest) in
      let edited : flipped_in start (start + length b) N type lent own file ≡ later
      = ap (flipped_in start (start + length b) N type lent own) parts
      ∙ part_flipped N type lent own (top ++ done) b rest start (length-append top done ∙ sym es)
      ∙ ap (λ (x : List ℕ). (top ++ done) ++ (x ++ rest)) new ∙ (simp append_assoc) in
      let kept : length b' ≡ length b = ap length (sym new) ∙ body_length N type lent own b in
      let at : start + length b ≡ length top + length (done ++ b') = omega (arith, length-append done b') in
      let after : Bool → ℕ → List ℕ → List ℕ
      = λ leaning z bs. bodies_flipped K f member (length bodies) (next_variant v) (start + z) (next_anchor leaning lent own) bs in
      ap₂ (λ (t z : ℕ). pick (leb (start + z) (length file)) (after (type_leans t) z (flipped_in start (start + z) N t lent own file)) file) read size
      ∙ ap (λ (t : Bool). pick t (after (type_leans type) (length b) (flipped_in start (start + length b) N type lent own file)) file)
      (le-leb (start + length b) (length file) fits)
      ∙ ap₂ (λ (leaning : Bool) (bs : List ℕ). after leaning (length b) bs) (body_leans_typed N anchor body fit.0) edited
      ∙ bodies_law (next_anchor (body_leans body) anchor (body_categories N anchor body)) bodies (done ++ b') (next_variant v) (start + length b) next fit.1
      (rest_left types v.0 type (map body_type bodies) et) (rest_left lengths v.0 stored (map length (map (body_bytes N) bodies)) el) (omega arith) at
      ∙ (simp append_assoc)
