-- The flip of a set over the bodies of a file, in variant order: what fits still fits, every row is exchanged exactly if its variant is in the
-- set, two flips are one.
-- Assumes nothing.
use mathlib.Core.Path.{◌≡◌, refl, sym, ap, ap₂, ◌∙◌, subst}
use Prim.Native.Nat.{ℕ, zero, suc, ◌+◌, ◌*◌}
use native.Mathlib.Nat.{add-zero}
use mathlib.Core.Bool.{Bool, true, false}
use mathlib.Core.List.{List, [], ◌∷◌, map}
use lib.ListN.{length, get_or, replicate}
use native.Mathlib.Omega.{arith}
use Rattle.format.specs.declared.FileVariant.{FileVariant}
use Rattle.format.specs.Base.{pick, Below}
use Rattle.format.specs.Category.{exchange_all, just_one}
use Rattle.format.specs.Body.{Body, body_type, body_bytes, body_categories, body_leans, body_reading, exchange_reading}
use Rattle.format.specs.Variant.{file_variant, next_variant, in_block}
use Rattle.format.specs.Layout.{TypesAllowed}
use Rattle.format.specs.File.{next_anchor, rows_as, no_reading, BodiesFit, flip_bodies}
use Rattle.format.proofs.FlipTrackLaws.{body_fits_flip, reading_flip, flip_body_twice, flip_body_none, next_anchor_kept, next_anchor_flip}
use Rattle.format.proofs.FlipTrackLaws.{next_anchor_just_one}
use Rattle.format.proofs.FlipTypeLaws.{body_length_kept, type_allowed_flip, flip_type_is, flip_type_small, plain_flip}

-- ---- what fits still fits, over the anchor flipped as its membership says

pub bodies_fit_flip : (N : ℕ) (member : FileVariant → Bool) (v : FileVariant) (lent : Bool) (anchor : List ℕ) (bodies : List Body) → BodiesFit N anchor bodies
    → BodiesFit N (exchange_all lent anchor) (flip_bodies member v lent bodies)
bodies_fit_flip N member v lent anchor [] f = tt
bodies_fit_flip N member v lent anchor (body ∷ bodies) f = (
  body_fits_flip N lent (member v) anchor body f.0,
  subst (λ (x : List ℕ). BodiesFit N x (flip_bodies member (next_variant v) (next_anchor (body_leans body) lent (member v)) bodies))
      (sym (next_anchor_flip N lent (member v) anchor body))
      (bodies_fit_flip N member (next_variant v) (next_anchor (body_leans body) lent (member v))
      (next_anchor (body_leans body) anchor (body_categories N anchor body)) bodies f.1),
)

-- ---- the rows: those of the set exchanged, all others as before, also where they lean on a member

pub row_flip : (N : ℕ) (member : FileVariant → Bool) (v : FileVariant) (lent : Bool) (anchor : List ℕ) (bodies : List Body) (k : ℕ)
    → get_or (rows_as body_reading N (exchange_all lent anchor) (flip_bodies member v lent bodies)) k no_reading
    ≡ exchange_reading (member (file_variant (v.0 + k))) (get_or (rows_as body_reading N anchor bodies) k no_reading)
row_flip N member v lent anchor [] k = refl
row_flip N member v lent anchor (body ∷ bodies) zero =
    reading_flip N lent (member v) anchor body
    ∙ ap (λ (u : ℕ). exchange_reading (member (file_variant u)) (body_reading N anchor body)) (sym (add-zero v.0))
row_flip N member v lent anchor (body ∷ bodies) (suc k) =
    let next : Bool = next_anchor (body_leans body) lent (member v) in
    let row : List ℕ = next_anchor (body_leans body) anchor (body_categories N anchor body) in
    let e : suc v.0 + k ≡ v.0 + suc k = omega arith in
    ap (λ (x : List ℕ). get_or (rows_as body_reading N x (flip_bodies member (next_variant v) next bodies)) k no_reading)
    (next_anchor_flip N lent (member v) anchor body)
    ∙ row_flip N member (next_variant v) next row bodies k
    ∙ ap (λ (u : ℕ). exchange_reading (member (file_variant u)) (get_or (rows_as body_reading N row bodies) k no_reading)) e

-- ---- two flips are one, of those in just one of the two sets

pub flip_bodies_twice : (m m' : FileVariant → Bool) (v : FileVariant) (a b : Bool) (bodies : List Body)
    → flip_bodies m v a (flip_bodies m' v b bodies) ≡ flip_bodies (λ (u : FileVariant). just_one (m u) (m' u)) v (just_one a b) bodies
flip_bodies_twice m m' v a b [] = refl
flip_bodies_twice m m' v a b (body ∷ bodies) =
    let t : Bool = body_leans body in
    let both : FileVariant → Bool = λ (u : FileVariant). just_one (m u) (m' u) in
    ap₂ ◌∷◌ (flip_body_twice a (m v) b (m' v) body)
    (ap (λ (x : Bool). flip_bodies m (next_variant v) x (flip_bodies m' (next_variant v) (next_anchor t b (m' v)) bodies))
    (next_anchor_kept b (m' v) body a (m v))
    ∙ flip_bodies_twice m m' (next_variant v) (next_anchor t a (m v)) (next_anchor t b (m' v)) bodies
    ∙ ap (λ (x : Bool). flip_bodies both (next_variant v) x bodies) (next_anchor_just_one t a (m v) b (m' v)))

-- the empty set changes nothing
pub flip_bodies_none : (v : FileVariant) (bodies : List Body) → flip_bodies (λ (u : FileVariant). false) v false bodies ≡ bodies
flip_bodies_none v [] = refl
flip_bodies_none v (body ∷ bodies) =
    ap₂ ◌∷◌ (flip_body_none body)
    (ap (λ (x : Bool). flip_bodies (λ (u : FileVariant). false) (next_variant v) x bodies) (same (body_leans body)) ∙ flip_bodies_none (next_variant v) bodies)
  where
    same : (t : Bool) → pick t false false ≡ false
    same true = refl
    same false = refl

-- ---- lengths stay, and types stay allowed

pub flip_count : (member : FileVariant → Bool) (v : FileVariant) (lent : Bool) (bodies : List Body) → length (flip_bodies member v lent bodies) ≡ length bodies
flip_count member v lent [] = refl
flip_count member v lent (body ∷ bodies) = ap suc (flip_count member (next_variant v) (next_anchor (body_leans body) lent (member v)) bodies)

pub flip_lengths : (N : ℕ) (member : FileVariant → Bool) (v : FileVariant) (lent : Bool) (bodies : List Body)
    → map length (map (body_bytes N) (flip_bodies member v lent bodies)) ≡ map length (map (body_bytes N) bodies)
flip_lengths N member v lent [] = refl
flip_lengths N member v lent (body ∷ bodies) =
    ap₂ ◌∷◌ (body_length_kept N lent (member v) body) (flip_lengths N member (next_variant v) (next_anchor (body_leans body) lent (member v)) bodies)

pub types_allowed_flip : (K N : ℕ) (member : FileVariant → Bool) (v : FileVariant) (lent : Bool) (anchor : List ℕ) (bodies : List Body)
    → BodiesFit N anchor bodies
    → TypesAllowed K v (map body_type bodies) → TypesAllowed K v (map body_type (flip_bodies member v lent bodies))
types_allowed_flip K N member v lent anchor [] f h = tt
types_allowed_flip K N member v lent anchor (body ∷ bodies) f h = (
  type_allowed_flip N lent (member v) anchor body (in_block K v) f.0 h.0,
  types_allowed_flip K N member (next_variant v) (next_anchor (body_leans body) lent (member v))
      (next_anchor (body_leans body) anchor (body_categories N anchor body)) bodies f.1 h.1,
)

-- types that fit their bits still do: there are four bits to a type, or eight
pub types_small_flip : (N n : ℕ) (member : FileVariant → Bool) (v : FileVariant) (lent : Bool) (anchor : List ℕ) (bodies : List Body)
    → BodiesFit N anchor bodies → Below (n * 8) (map body_type bodies) → Below (n * 8) (map body_type (flip_bodies member v lent bodies))
types_small_flip N n member v lent anchor [] f h = tt
types_small_flip N n member v lent anchor (body ∷ bodies) f h = (
  rw (flip_type_is N lent (member v) anchor body f.0) (flip_type_small lent (member v) (body_type body) n h.0),
  types_small_flip N n member (next_variant v) (next_anchor (body_leans body) lent (member v))
      (next_anchor (body_leans body) anchor (body_categories N anchor body)) bodies f.1 h.1,
)

-- where all types are 0 they stay so
pub types_zero_flip : (n : ℕ) (member : FileVariant → Bool) (v : FileVariant) (lent : Bool) (bodies : List Body) → map body_type bodies ≡ replicate n 0
    → map body_type (flip_bodies member v lent bodies) ≡ replicate n 0
types_zero_flip n member v lent [] h = h
types_zero_flip zero member v lent (body ∷ bodies) h = absurd (omega (arith, ap length h))
types_zero_flip (suc n) member v lent (body ∷ bodies) h =
    ap₂ ◌∷◌ (plain_flip lent (member v) body (ap (λ (xs : List ℕ). get_or xs 0 0) h))
    (types_zero_flip n member (next_variant v) (next_anchor (body_leans body) lent (member v)) bodies (cc))
