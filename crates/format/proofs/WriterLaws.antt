-- The writer's track: it is of the kind asked for, obeys, and stands for the categories it was made from.
-- Assumes nothing.
use mathlib.Core.Path.{◌≡◌, refl, sym, ap, ◌∙◌}
use Prim.Native.Nat.{ℕ, zero, suc, ◌+◌, ◌<◌}
use native.Mathlib.Nat.{zero-add}
use mathlib.Core.Bool.{Bool, true, false, not, ◌||◌}
use mathlib.Core.List.{List, [], ◌∷◌, map}
use lib.ListN.{length, get_or, replicate, length-map, length-replicate}
use lib.Dec.{eqb}
use native.Mathlib.Omega.{arith}
use borrow.Author.Tests.{ne_eqb, eqb-true}
use Rattle.format.specs.Base.{pick, Below}
use Rattle.format.specs.Category.{exchange_all}
use Rattle.format.specs.PairCode.{PairCode, pair, category_of, in_pair, Coded, coded, not_coded, code_numbered}
use Rattle.format.specs.declared.Kind.TheVariants.{AgainstCategory}
use Rattle.format.specs.Track.{kind, leans, Track, one_bit, leaning, sparse, track_kind, Fits, off_pair, off_category, off_anchor}
use Rattle.format.specs.Track.{track_categories}
use Rattle.format.specs.Writer.{differences, bits_for, pair_track, kind_track, track_for}
use Rattle.format.proofs.Rules.{Holds, by_need}
use Rattle.format.proofs.CategoryLaws.{exchange_all_twice, exchange_all_none, exchange_all_below, just_one_self}
use Rattle.format.proofs.DifferencesLaws.{get_d_replicate, differences_rise, apply_differences}

-- ---- the base of each kind may be differed from

-- a category that is neither the higher of the pair nor the lower is off the pair; its bit is clear, and stands for the lower
off_pair_if : (c : PairCode) (v : ℕ) → (v ≡ category_of c (eqb v (pair c).higher) → ⊥) → not (in_pair c v) ≡ true
off_pair_if c v d = go (eqb v (pair c).lower) (eqb v (pair c).higher) (eqb-true v (pair c).lower) (eqb-true v (pair c).higher) d
  where
    go : (a b : Bool) → (a ≡ true → v ≡ (pair c).lower) → (b ≡ true → v ≡ (pair c).higher) → (v ≡ category_of c b → ⊥) → not (a || b) ≡ true
    go true true f g d = absurd (d (g refl))
    go true false f g d = absurd (d (f refl))
    go false true f g d = absurd (d (g refl))
    go false false f g d = refl

-- ---- the track of each kind

pub record Writes (number : ℕ) (lent categories : List ℕ) (track : Track) (left : List ℕ) : Type 0 where
  pub kind_is : track_kind track ≡ number
  pub fits : Fits (length categories) lent track
  pub stands_for : track_categories (length categories) lent track ≡ categories
  pub whole : left ≡ []

off : (x y : ℕ) → (x ≡ y → ⊥) → not (eqb x y) ≡ true
off x y d = ap not (ne_eqb x y d)

writes_pair : (lent categories : List ℕ) (c : PairCode) → Below 4 categories
    → Writes 1 lent categories (one_bit c (bits_for c categories) (differences 0 (map (category_of c) (bits_for c categories)) categories)) []
writes_pair lent categories c f =
    let bits : List Bool = bits_for c categories in
    let base : List ℕ = map (category_of c) bits in
    let bits_count : length bits ≡ length categories = length-map categories _ in
    let base_count : length base ≡ length categories = length-map bits (category_of c) ∙ bits_count in
    record {
      kind_is = refl;
      fits = (bits_count, differences_rise (length categories) 0 (off_pair c) base categories (may c categories) f (omega arith));
      stands_for = apply_differences 0 [] base categories refl (sym base_count);
      whole = refl;
    }
  where
    base_at : (c : PairCode) (cs : List ℕ) (j : ℕ) → j < length cs
        → get_or (map (category_of c) (bits_for c cs)) j 1 ≡ category_of c (eqb (get_or cs j 0) (pair c).higher)
    base_at c [] j l = absurd (omega arith)
    base_at c (x ∷ cs) zero l = refl
    base_at c (x ∷ cs) (suc j) l = base_at c cs j (omega arith)

    may : (c : PairCode) (cs : List ℕ) (j : ℕ) → j < length (map (category_of c) (bits_for c cs))
        → (get_or cs j 0 ≡ get_or (map (category_of c) (bits_for c cs)) j 1 → ⊥)
        → off_pair c (0 + j) (get_or cs j 0) ≡ true
    may c cs j l d =
        let m : j < length cs = omega (arith, length-map (bits_for c cs) (category_of c), length-map cs (λ (x : ℕ). eqb x (pair c).higher)) in
        off_pair_if c (get_or cs j 0) (λ e. d (e ∙ sym (base_at c cs j m)))

writes_leaning : (inverted : Bool) (number : ℕ) (lent categories : List ℕ) → pick inverted 3 2 ≡ number → length lent ≡ length categories → Below 4 categories
    → Writes number lent categories (leaning inverted (differences 0 lent (exchange_all inverted categories))) []
writes_leaning inverted number lent categories q e f =
    let row : List ℕ = exchange_all inverted categories in
    let count : length row ≡ length lent = length-map categories _ ∙ sym e in
    record {
      kind_is = q;
      fits = differences_rise (length categories) 0 (off_anchor lent) lent row
          (λ j l d. let z : 0 + j ≡ j = zero-add j in rw z (off (get_or row j 0) (get_or lent j 1) d)) (exchange_all_below inverted categories f) (omega arith);
      stands_for =
          ap (exchange_all inverted) (apply_differences 0 [] lent row refl count)
          ∙ exchange_all_twice inverted inverted categories
          ∙ ap (λ (b : Bool). exchange_all b categories) (just_one_self inverted)
          ∙ exchange_all_none categories;
      whole = refl;
    }

writes_sparse : (base number : ℕ) (lent categories : List ℕ) → suc (suc (suc (suc base))) ≡ number → kind (suc (suc (suc (suc base)))) ≡ AgainstCategory base
    → Below 4 categories → Writes number lent categories (sparse base (differences 0 (replicate (length categories) base) categories)) []
writes_sparse base number lent categories q k f =
    let n : ℕ = length categories in
    let row : List ℕ = replicate n base in
    let count : length row ≡ n = length-replicate n base in
    record {
      kind_is = q;
      fits = (
        k,
        differences_rise n 0 (off_category base) row categories
            (λ j l d. off (get_or categories j 0) base (λ e. d (e ∙ sym (get_d_replicate n base j 1 (omega arith))))) f (omega arith),
      );
      stands_for = apply_differences 0 [] row categories refl (sym count);
      whole = refl;
    }

-- the track for a kind and a code, where they are allowed
pub track_for_writes : (number code : ℕ) (lent categories : List ℕ) → Below 4 categories → (leans number ≡ true → length lent ≡ length categories)
    → Holds (Writes number lent categories) (track_for number code lent categories)
unfolding kind_track
track_for_writes zero code lent categories f l =
    by_need _ (eqb code 0) _ _ _ (λ t. record { kind_is = refl; fits = (refl, f); stands_for = refl; whole = refl })
track_for_writes (suc zero) code lent categories f l = go (code_numbered code)
  where
    go : (found : Coded) → Holds (Writes 1 lent categories) (pair_track categories found)
    go (coded c) = writes_pair lent categories c f
    go not_coded = tt
track_for_writes (suc (suc zero)) code lent categories f l = by_need _ (eqb code 0) _ _ _ (λ t. writes_leaning false 2 lent categories refl (l refl) f)
track_for_writes (suc (suc (suc zero))) code lent categories f l = by_need _ (eqb code 0) _ _ _ (λ t. writes_leaning true 3 lent categories refl (l refl) f)
track_for_writes (suc (suc (suc (suc zero)))) code lent categories f l = by_need _ (eqb code 0) _ _ _ (λ t. writes_sparse 0 4 lent categories refl refl f)
track_for_writes (suc (suc (suc (suc (suc zero))))) code lent categories f l = tt
track_for_writes (suc (suc (suc (suc (suc (suc zero)))))) code lent categories f l =
    by_need _ (eqb code 0) _ _ _ (λ t. writes_sparse 2 6 lent categories refl refl f)
track_for_writes (suc (suc (suc (suc (suc (suc (suc zero))))))) code lent categories f l =
    by_need _ (eqb code 0) _ _ _ (λ t. writes_sparse 3 7 lent categories refl refl f)
track_for_writes (suc (suc (suc (suc (suc (suc (suc (suc n)))))))) code lent categories f l = tt
