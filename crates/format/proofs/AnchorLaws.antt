-- The anchor of a leaning variant is the nearest earlier variant of its block that does not lean; from one variant to the next.
-- Assumes nothing.
use mathlib.Core.Path.{◌≡◌, refl, sym, ap, ◌∙◌}
use Prim.Native.Nat.{ℕ, zero, suc, ◌+◌, ◌-◌, ◌*◌, ◌/◌, ◌%◌, ◌<◌}
use native.Mathlib.Nat.{zero-add, mod-lt, div-add-mod', mul-mod_left, add-zero, mul-add-div_right, div-eq_of_lt}
use mathlib.Core.Bool.{Bool, true, false, not, ◌&&◌}
use mathlib.Core.List.{List, [], ◌∷◌}
use lib.ListN.{length, get_or, drop}
use lib.Seq.{get_or-drop}
use lib.Dec.{eqb, ltb}
use native.Mathlib.Omega.{arith}
use borrow.Author.Tests.{eq-eqb, ltb-true}
use Rattle.format.specs.declared.FileVariant.{FileVariant}
use Rattle.format.specs.declared.BlockVariant.{BlockVariant}
use Rattle.format.specs.Base.{pick, Below}
use Rattle.format.specs.Body.{kind_of, type_leans}
use Rattle.format.specs.Variant.{file_variant, block_variant, next_variant, block_of, in_block, in_file, last_standing, nearest, anchor}
use Rattle.format.specs.Layout.{bits_allowed, type_allowed, TypesAllowed}
use Rattle.format.proofs.Rules.{never_both, both, by_test, split}

-- ---- what an anchor is

-- 01, Categories and kinds: "the anchor, which is the nearest earlier variant in the same block whose kind is neither 2 nor 3": w is the anchor of v, by
-- the types of the file
pub record IsAnchor (K : ℕ) (types : List ℕ) (v w : FileVariant) : Type 0 where
  pub same_block : block_of K w ≡ block_of K v
  pub before : w.0 < v.0
  pub stands : type_leans (get_or types w.0 0) ≡ false
  pub between : (u : FileVariant) → w.0 < u.0 → u.0 < v.0 → type_leans (get_or types u.0 0) ≡ true

-- the same within a block, by the block's own types
record IsNearest (types : List ℕ) (i x : BlockVariant) : Type 0 where
  pub before : x.0 < i.0
  pub stands : type_leans (get_or types x.0 0) ≡ false
  pub between : (u : BlockVariant) → x.0 < u.0 → u.0 < i.0 → type_leans (get_or types u.0 0) ≡ true

-- two anchors of one variant are one
pub anchor_unique : (K : ℕ) (types : List ℕ) (v w x : FileVariant) → IsAnchor K types v w → IsAnchor K types v x → w ≡ x
anchor_unique K types v w x a b = ap file_variant same
  where
    same : w.0 ≡ x.0
    same =
        split w.0 x.0 (λ h. split x.0 w.0 (λ g. omega arith) (λ g. never_both (a.between x g b.before) b.stands))
        (λ g. never_both (b.between w g a.before) a.stands)

-- within a block whose first variant stands
nearest_is : (types : List ℕ) (count : ℕ) → type_leans (get_or types 0 0) ≡ false → zero < count
    → IsNearest types (block_variant count) (last_standing types count)
unfolding last_standing
nearest_is types zero s p = absurd (omega arith)
nearest_is types (suc count) s p =
    by_test (IsNearest types (block_variant (suc count))) (type_leans (get_or types count 0)) (λ t. down count t (λ q. nearest_is types count s q))
    (λ t. record { before = omega arith; stands = t; between = λ u a b. absurd (omega arith) })
  where
    -- past one that leans it is the same
    down : (count : ℕ) → type_leans (get_or types count 0) ≡ true → (zero < count → IsNearest types (block_variant count) (last_standing types count))
        → IsNearest types (block_variant (suc count)) (last_standing types count)
    down zero t k = never_both t s
    down (suc count) t k =
        let g : IsNearest types (block_variant (suc count)) (last_standing types (suc count)) = k (omega arith) in
        record {
          before = omega (arith, g.before);
          stands = g.stands;
          between = λ u a b. split (suc count) u.0 (λ c. let e : u.0 ≡ suc count = omega arith in rw e t) (λ c. g.between u a c);
        }

-- a number of a block, counted in the file, is of that block
in_that_block : (K block i : ℕ) → zero < K → i < K → (block * K + i) / K ≡ block
in_that_block K block i p l = mul-add-div_right p block i ∙ rw (div-eq_of_lt l, add-zero) refl

-- from a block's own types to the file's
in_whole_file : (K : ℕ) (types : List ℕ) (v : FileVariant) (x : BlockVariant) → zero < K → IsNearest (drop (block_of K v * K) types) (in_block K v) x
    → IsAnchor K types v (in_file K (block_of K v) x)
in_whole_file K types v x p g =
    let start : ℕ = block_of K v * K in
    let e : start + v.0 % K ≡ v.0 = div-add-mod' v.0 K in
    record {
      same_block = in_that_block K (block_of K v) x.0 p (omega (arith, g.before, mod-lt v.0 p));
      before = omega (arith, g.before);
      stands = rw get_or-drop at g.stands;
      between = λ u a b.
          let d : u.0 ≡ start + (u.0 - start) = omega arith in
          rw d (rw get_or-drop at (g.between (block_variant (u.0 - start)) (omega arith) (omega arith)));
    }

-- ---- the types of a file that obeys

-- one type by its index
pub types_allowed_at : (K : ℕ) (v : FileVariant) (i : ℕ) (types : List ℕ) → TypesAllowed K v types → i < length types
    → type_allowed (in_block K (file_variant (v.0 + i))) (get_or types i 0) ≡ true
types_allowed_at K v i [] h l = absurd (omega arith)
types_allowed_at K v zero (type ∷ types) h l = rw add-zero h.0
types_allowed_at K v (suc i) (type ∷ types) h l =
    let e : v.0 + suc i ≡ suc v.0 + i = omega arith in
    rw e (types_allowed_at K (next_variant v) i types h.1 (omega arith))

-- the first of a block does not lean
pub first_stands : (i : BlockVariant) (type : ℕ) → i.0 ≡ 0 → type_allowed i type ≡ true → type_leans type ≡ false
first_stands i type e h = go (bits_allowed type) (eqb (kind_of type) 5) (type_leans type) (simp (eq-eqb i.0 0 e) at h)
  where
    go : (a b c : Bool) → a && (not b && not (true && c)) ≡ true → c ≡ false
    go a b false h = refl
    go true false true h = sym h
    go true true true h = sym h
    go false b true h = never_both h refl

-- the last of a block's first variants decides, by its type in the file
one_back : (types : List ℕ) (start count v : ℕ) → start + count ≡ v
    → last_standing (drop start types) (suc count) ≡ pick (type_leans (get_or types v 0)) (last_standing (drop start types) count) (block_variant count)
unfolding last_standing
one_back types start count v e = rw (get_or-drop, e) refl

module _ (K : ℕ) (types : List ℕ) (p : zero < K) (h : TypesAllowed K (file_variant 0) types) where
  -- the type of a variant of the file
  pub type_allowed_in : (v : FileVariant) → v.0 < length types → type_allowed (in_block K v) (get_or types v.0 0) ≡ true
  type_allowed_in v l = rw zero-add at (types_allowed_at K (file_variant 0) v.0 types h l)

  -- a variant at the start of a block stands
  pub stands_at : (v : FileVariant) → v.0 < length types → (in_block K v).0 ≡ 0 → type_leans (get_or types v.0 0) ≡ false
  stands_at v l e = first_stands (in_block K v) (get_or types v.0 0) e (type_allowed_in v l)

  -- a leaning variant is not the first of its block
  pub leaning_is_later : (v : FileVariant) → v.0 < length types → type_leans (get_or types v.0 0) ≡ true → zero < (in_block K v).0
  leaning_is_later v l t = split (v.0 % K) 0 (λ z. never_both t (stands_at v l (omega arith))) (λ z. z)

  -- the anchor of a leaning variant is one
  pub anchor_is : (v : FileVariant) → v.0 < length types → type_leans (get_or types v.0 0) ≡ true → IsAnchor K types v (anchor K types v)
  unfolding anchor
  anchor_is v l t =
      let start : ℕ = v.0 / K * K in
      let e : start + v.0 % K ≡ v.0 = div-add-mod' v.0 K in
      let first : type_leans (get_or (drop start types) 0 0) ≡ false
      = rw (get_or-drop, add-zero) (stands_at (file_variant start) (omega arith) (mul-mod_left (v.0 / K) K)) in
      in_whole_file K types v (nearest (drop start types) (in_block K v)) p
      (nearest_is (drop start types) (v.0 % K) first (leaning_is_later v l t))

  module _ (v : FileVariant) (l : suc v.0 < length types) (t : type_leans (get_or types (suc v.0) 0) ≡ true) where
    -- a leaning variant has in its block the number after that of the one before it
    number_before : v.0 ≡ suc v.0 / K * K + (suc v.0 % K - 1)
    number_before = omega (arith, div-add-mod' (suc v.0) K, leaning_is_later (next_variant v) l t)

    number_after : suc (suc v.0 % K - 1) ≡ suc v.0 % K
    number_after = omega (arith, leaning_is_later (next_variant v) l t)

    -- and is in the same block
    pub leaning_same_block : block_of K (next_variant v) ≡ block_of K v
    leaning_same_block =
        sym (ap (λ (n : ℕ). n / K) number_before
        ∙ in_that_block K (suc v.0 / K) (suc v.0 % K - 1) p (omega (arith, mod-lt (suc v.0) p, number_after)))

    -- so that one decides
    decided : nearest (drop (suc v.0 / K * K) types) (in_block K (next_variant v))
        ≡ pick (type_leans (get_or types v.0 0)) (last_standing (drop (suc v.0 / K * K) types) (suc v.0 % K - 1)) (block_variant (suc v.0 % K - 1))
    decided =
        ap (last_standing (drop (suc v.0 / K * K) types)) (sym number_after)
        ∙ one_back types (suc v.0 / K * K) (suc v.0 % K - 1) v.0 (sym number_before)

    -- after a leaning variant the anchor stays
    pub anchor_after_leaning : type_leans (get_or types v.0 0) ≡ true → anchor K types (next_variant v) ≡ anchor K types v
    unfolding anchor
    anchor_after_leaning s =
        let same : v.0 % K ≡ suc v.0 % K - 1
        = omega (arith, div-add-mod' v.0 K, number_before, ap (λ (block : ℕ). block * K) leaning_same_block) in
        let stays : nearest (drop (suc v.0 / K * K) types) (in_block K (next_variant v)) ≡ last_standing (drop (suc v.0 / K * K) types) (v.0 % K)
        = decided ∙ simp (s, ← same) in
        ap (in_file K (block_of K (next_variant v))) stays
        ∙ ap (λ (block : ℕ). in_file K block (last_standing (drop (block * K) types) (v.0 % K))) leaning_same_block

    -- after one that stands it is that one
    pub anchor_after_standing : type_leans (get_or types v.0 0) ≡ false → anchor K types (next_variant v) ≡ v
    unfolding anchor
    anchor_after_standing s =
        ap (in_file K (block_of K (next_variant v))) (decided ∙ simp s) ∙ ap file_variant (sym number_before)

-- ---- the bits of an allowed type

-- of the bits above its kind only bit 4 may be set
pub bits_known : (type : ℕ) → bits_allowed type ≡ true → (type % 16 < 8) × (type < 32)
bits_known type h =
    let p = both (ltb (type % 16) 8) (ltb type 32) h in
    (ltb-true (type % 16) 8 p.0, ltb-true type 32 p.1)

-- a type that the header lets through
pub allowed : (i : BlockVariant) (type : ℕ) → type_allowed i type ≡ true → (type % 16 < 8) × (type < 32) × (kind_of type ≡ 5 → ⊥)
allowed i type h =
    let p = both (bits_allowed type) (not (eqb (kind_of type) 5) && not (eqb i.0 0 && type_leans type)) h in
    let q = both (not (eqb (kind_of type) 5)) (not (eqb i.0 0 && type_leans type)) p.1 in
    let b = bits_known type p.0 in
    (b.0, b.1, λ e. never_both q.0 (ap not (eq-eqb (kind_of type) 5 e)))

-- types that the header lets through are below 32
pub allowed_small : (K : ℕ) (v : FileVariant) (types : List ℕ) → TypesAllowed K v types → Below 32 types
allowed_small K v [] h = tt
allowed_small K v (type ∷ types) h = ((allowed (in_block K v) type h.0).1, allowed_small K (next_variant v) types h.1)
