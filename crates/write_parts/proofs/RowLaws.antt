-- The row that a list is made from and its base, sample by sample, and the list from a sample on.
-- Assumes nothing.
use mathlib.Core.Path.{◌≡◌, refl, sym, ◌∙◌}
use Prim.Native.Nat.{ℕ, zero, suc, ◌+◌, ◌≤◌, ◌<◌}
use native.Mathlib.Omega.{arith}
use native.Mathlib.Numerals.{add-one}
use mathlib.Core.Bool.{Bool}
use mathlib.Core.List.{List, [], ◌∷◌}
use lib.ListN.{length, get_or, drop, length-map, drop_of_length-le, get_or-replicate}
use lib.Seq.{drop-cons}
use lib.Dec.{eqb}
use borrow.Author.Tests.{eq-eqb, ne_eqb}
use Rattle.format.specs.Base.{pick, Below}
use Rattle.format.specs.Category.{exchange_if, exchange_all}
use Rattle.format.specs.Difflist.{Entry}
use Rattle.format.specs.Writer.{unless, differences}
use Rattle.format.proofs.CategoryLaws.{exchange_all_below}
use Rattle.write_parts.specs.Rows.{base_row, row, RowsFit}
use Rattle.write_parts.specs.declared.Base.{Base}
use Rattle.write_parts.specs.declared.Base.TheVariants as base

-- ---- the two rows

pub row_length : (b : Base) (categories : List ℕ) → length (row b categories) ≡ length categories
row_length (base.Category category) categories = refl
row_length (base.Anchor inverted) categories = length-map categories _
row_length (base.Pair lower higher) categories = refl

pub row_below : (b : Base) (categories : List ℕ) → Below 4 categories → Below 4 (row b categories)
row_below (base.Category category) categories h = h
row_below (base.Anchor inverted) categories h = exchange_all_below inverted categories h
row_below (base.Pair lower higher) categories h = h

exchange_at : (inverted : Bool) (categories : List ℕ) (i : ℕ) → i < length categories
    → exchange_if inverted (get_or categories i 0) ≡ get_or (exchange_all inverted categories) i 0
exchange_at inverted [] i h = absurd (omega arith)
exchange_at inverted (c ∷ categories) zero h = refl
exchange_at inverted (c ∷ categories) (suc i) h = exchange_at inverted categories i (omega arith)

pair_at : (lower higher : ℕ) (categories : List ℕ) (i : ℕ) → i < length categories
    → get_or (base_row (base.Pair lower higher) [] categories) i 0 ≡ pick (eqb (get_or categories i 0) higher) higher lower
pair_at lower higher [] i h = absurd (omega arith)
pair_at lower higher (c ∷ categories) zero h = refl
pair_at lower higher (c ∷ categories) (suc i) h = pair_at lower higher categories i (omega arith)

-- sample i of the row
module _ (b : Base) (categories : List ℕ) (i : ℕ) where
  pub value_category : (category : ℕ) → b ≡ base.Category category → get_or categories i 0 ≡ get_or (row b categories) i 0
  value_category category e = rw e

  pub value_pair : (lower higher : ℕ) → b ≡ base.Pair lower higher → get_or categories i 0 ≡ get_or (row b categories) i 0
  value_pair lower higher e = rw e

  pub value_anchor : (inverted : Bool) (value : ℕ) → b ≡ base.Anchor inverted → value ≡ exchange_if inverted (get_or categories i 0) → i < length categories
      → value ≡ get_or (row b categories) i 0
  value_anchor inverted value e f h = rw e (f ∙ exchange_at inverted categories i h)

-- and of its base
module _ (b : Base) (anchor categories : List ℕ) (i : ℕ) where
  pub base_category : (category : ℕ) → b ≡ base.Category category → i < length categories → category ≡ get_or (base_row b anchor categories) i 0
  base_category category e h = rw e (sym (get_or-replicate (length categories) i category 0 h))

  pub base_anchor : (inverted : Bool) → b ≡ base.Anchor inverted → get_or anchor i 0 ≡ get_or (base_row b anchor categories) i 0
  base_anchor inverted e = rw e

  pub anchor_there : (inverted : Bool) → b ≡ base.Anchor inverted → RowsFit b anchor categories → i < length categories → i < length anchor
  anchor_there inverted e fit h = let each : length anchor ≡ length categories = rw e at fit.each in omega arith

  pub base_higher : (lower higher : ℕ) → b ≡ base.Pair lower higher → get_or categories i 0 ≡ higher → i < length categories
      → higher ≡ get_or (base_row b anchor categories) i 0
  base_higher lower higher e q h = rw e (sym (pair_at lower higher categories i h ∙ simp (eq-eqb (get_or categories i 0) higher q)))

  pub base_lower : (lower higher : ℕ) → b ≡ base.Pair lower higher → (get_or categories i 0 ≡ higher → ⊥) → i < length categories
      → lower ≡ get_or (base_row b anchor categories) i 0
  base_lower lower higher e q h = rw e (sym (pair_at lower higher categories i h ∙ simp (ne_eqb (get_or categories i 0) higher q)))

pub ruleset sample_laws = (value_category, value_pair, value_anchor, base_category, base_anchor, anchor_there, base_higher, base_lower)

-- ---- the list from sample i on

abbrev pub listed_at : Base → List ℕ → List ℕ → ℕ → List Entry
listed_at b anchor categories i = differences i (drop i (base_row b anchor categories)) (drop i (row b categories))

module _ (b : Base) (anchor categories : List ℕ) (i : ℕ) (f : RowsFit b anchor categories) where
  -- sample i is listed unless its value is its base's
  pub listed_turn : (base value : ℕ) → value ≡ get_or (row b categories) i 0 → base ≡ get_or (base_row b anchor categories) i 0 → i < length categories
      → listed_at b anchor categories i ≡ unless (eqb value base) (record { sample = i; value = value }) (listed_at b anchor categories (i + 1))
  unfolding differences
  listed_turn base value ev eb h =
      let a : i < length (base_row b anchor categories) = omega (arith, f.each) in
      let c : i < length (row b categories) = omega (arith, row_length b categories) in
      rw (add-one i, drop-cons (base_row b anchor categories) i 0 a, drop-cons (row b categories) i 0 c, ← eb, ← ev)

  pub listed_done : length categories ≤ i → listed_at b anchor categories i ≡ []
  unfolding differences
  listed_done h =
      let past_all : length (base_row b anchor categories) ≤ i = omega (arith, f.each) in
      let e : drop i (base_row b anchor categories) ≡ [] = drop_of_length-le (base_row b anchor categories) past_all in
      rw e
