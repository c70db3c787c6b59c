-- The law of the types' pass: it leaves the types of the flipped bodies, and all else as it was.
-- Assumes nothing.
use mathlib.Core.Path.{◌≡◌, refl, sym, ap, ap₂, ◌∙◌, subst}
use Prim.Native.Nat.{ℕ, ◌%◌, ◌<◌}
use native.Mathlib.Omega.{arith}
use mathlib.Core.Bool.{Bool, true, false}
use mathlib.Core.List.{List, [], ◌∷◌, ◌++◌, map}
use lib.ListN.{length, get_or, set, length-append}
use lib.Seq.{get_or-append_seam, set-append_seam, append_snoc}
use lib.Dec.{ltb}
use Rattle.format.specs.declared.FileVariant.{FileVariant}
use Rattle.format.specs.Base.{pick, Below}
use Rattle.format.specs.Packed.{limit}
use Rattle.format.specs.Body.{type_leans, Body, body_type, body_leans, BodyFits, body_categories, flip_body, flip_type}
use Rattle.format.specs.Variant.{next_variant}
use Rattle.format.specs.Layout.{Fixed, form_of, Arrays, in_parts}
use Rattle.format.specs.File.{next_anchor, BodiesFit, flip_bodies}
use Rattle.format.proofs.BodyLaws.{body_leans_typed}
use Rattle.format.proofs.FlipTypeLaws.{flip_type_is, flip_type_stays}
use Rattle.head_index.specs.VariantsAt.{type_at}
use Rattle.head_index.specs.Known.{Known}
use Rattle.head_index.proofs.PlaceLaws.{type_at_is}
use Rattle.flip_file.specs.Passes.{type_put, touched, type_flipped, types_flipped}
use Rattle.flip_file.proofs.Ways.{flipped_below}
use Rattle.flip_file.proofs.PutLaws.{with_types, type_put_is}

-- ---- the arrays with other types

pub known_with : (K : ℕ) (f : Fixed) (a : Arrays) (old new : List ℕ) → Known K f (with_types a old)
    → length new ≡ length old → Below (limit (form_of f).type_bits) new → Known K f (with_types a new)
known_with K f a old new h e b = record {
  some = h.some;
  blocked = h.blocked;
  offsets_fit = h.offsets_fit;
  all_fit = record {
    types_count = e ∙ h.all_fit.types_count;
    lengths_count = h.all_fit.lengths_count;
    flags_count = h.all_fit.flags_count;
    types_small = b;
    lengths_small = h.all_fit.lengths_small;
    flags_small = h.all_fit.flags_small;
  };
}

below_put : (m : ℕ) (xs : List ℕ) (y x : ℕ) (ys : List ℕ) → x < m → Below m (xs ++ y ∷ ys) → Below m (xs ++ x ∷ ys)
below_put m [] y x ys l h = (l, h.1)
below_put m (z ∷ xs) y x ys l h = (h.0, below_put m xs y x ys l h.1)

below_at : (m : ℕ) (xs : List ℕ) (y : ℕ) (ys : List ℕ) → Below m (xs ++ y ∷ ys) → y < m
below_at m [] y ys h = h.0
below_at m (z ∷ xs) y ys h = below_at m xs y ys h.1

-- ---- the pass

module _ (K : ℕ) (f : Fixed) (member : FileVariant → Bool) (a : Arrays) (records : List ℕ) where
  -- the file with these types
  abbrev typed : List ℕ → List ℕ
  typed types = in_parts K f (with_types a types) records

  -- one type: done are those before it, later those after it
  one_type : (N : ℕ) (anchor done later : List ℕ) (v : FileVariant) (lent own : Bool) (body : Body) → BodyFits N anchor body
      → Known K f (with_types a (done ++ body_type body ∷ later)) → length done ≡ v.0 → v.0 < f.variants
      → type_flipped K f v lent own (body_type body) (typed (done ++ body_type body ∷ later))
      ≡ typed (done ++ body_type (flip_body lent own body) ∷ later)
  unfolding type_flipped
  one_type N anchor done later v lent own body fits h e l = go (touched lent own (body_type body)) refl
    where
      new : flip_type lent own (body_type body) ≡ body_type (flip_body lent own body)
      new = sym (flip_type_is N lent own anchor body fits)

      go : (b : Bool) → touched lent own (body_type body) ≡ b
          → pick b (type_put K f v (flip_type lent own (body_type body)) (typed (done ++ body_type body ∷ later))) (typed (done ++ body_type body ∷ later))
          ≡ typed (done ++ body_type (flip_body lent own body) ∷ later)
      go true w =
          type_put_is K v (flip_type lent own (body_type body)) f (with_types a (done ++ body_type body ∷ later)) records h l
          ∙ ap₂ (λ (i x : ℕ). typed (set (done ++ body_type body ∷ later) i x)) (sym e) new
          ∙ ap typed (set-append_seam done (body_type body) later (body_type (flip_body lent own body)))
      go false w = ap (λ (x : ℕ). typed (done ++ x ∷ later)) (sym (flip_type_stays lent own (body_type body) w) ∙ new)

  pub types_law : (N : ℕ) (anchor : List ℕ) (bodies : List Body) (done : List ℕ) (v : FileVariant) (lent : Bool) → BodiesFit N anchor bodies
      → Known K f (with_types a (done ++ map body_type bodies)) → length done ≡ v.0
      → types_flipped K f member (length bodies) v lent (typed (done ++ map body_type bodies))
      ≡ typed (done ++ map body_type (flip_bodies member v lent bodies))
  unfolding types_flipped
  types_law N anchor [] done v lent fit h e = refl
  types_law N anchor (body ∷ bodies) done v lent fit h e =
      let own : Bool = member v in
      let type : ℕ = body_type body in
      let later : List ℕ = map body_type bodies in
      let file : List ℕ = typed (done ++ type ∷ later) in
      let l : v.0 < f.variants = omega (arith, h.all_fit.types_count, length-append done (type ∷ later)) in
      let read : type_at K f file v ≡ type
      = type_at_is K v f (with_types a (done ++ type ∷ later)) records h l
      ∙ ap (λ (i : ℕ). get_or (done ++ type ∷ later) i 0) (sym e) ∙ get_or-append_seam done type later 0 in
      let new : ℕ = body_type (flip_body lent own body) in
      let done' : List ℕ = done ++ (new ∷ []) in
      let same : done ++ new ∷ later ≡ done' ++ later = sym (append_snoc done new later) in
      let old : type < limit (form_of f).type_bits = below_at _ done type later h.all_fit.types_small in
      let small : new < limit (form_of f).type_bits
      = rw (flip_type_is N lent own anchor body fit.0) (flipped_below (ltb (f.form % 16) 4) lent own type old) in
      let count : length (done' ++ later) ≡ length (done ++ type ∷ later)
      = ap length (sym same) ∙ length-append done (new ∷ later) ∙ sym (length-append done (type ∷ later)) in
      let h' : Known K f (with_types a (done' ++ later))
      = known_with K f a (done ++ type ∷ later) (done' ++ later) h count
      (subst (Below (limit (form_of f).type_bits)) same (below_put _ done type new later small h.all_fit.types_small)) in
      let next : Bool = next_anchor (body_leans body) lent own in
      let after : Bool → List ℕ → List ℕ
      = λ leaning bs. types_flipped K f member (length bodies) (next_variant v) (next_anchor leaning lent own) bs in
      ap (λ (t : ℕ). after (type_leans t) (type_flipped K f v lent own t file)) read
      ∙ ap₂ after (body_leans_typed N anchor body fit.0) (one_type N anchor done later v lent own body fit.0 h e l ∙ ap typed same)
      ∙ types_law N (next_anchor (body_leans body) anchor (body_categories N anchor body)) bodies done' (next_variant v) next fit.1 h'
      (length-append done (new ∷ []) ∙ omega arith)
      ∙ ap typed (append_snoc done new (map body_type (flip_bodies member (next_variant v) next bodies)))
