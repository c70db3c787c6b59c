-- What a list is against, and the row that it is made from.
-- Assumes nothing.
use Rattle.std.specs.Prelude.{◌≡◌, ℕ, ◌≤◌, Bool, List, map, length, replicate, eqb}
use Rattle.format.specs.Base.{pick, Below}
use Rattle.format.specs.Limits.{most_samples}
use Rattle.format.specs.Category.{exchange_all}
use Rattle.format.specs.Difflist.{Entry}
use Rattle.format.specs.Writer.{differences}
use Rattle.write_parts.specs.declared.Base.{Base}
use Rattle.write_parts.specs.declared.Base.TheVariants as base

-- 01, Categories and kinds: 4, 6, 7, "outside category 0, 2, 3"; 2, "against the anchor"; 1, the samples "in the other two categories": a category
-- of the pair is its own base
abbrev pub base_row : Base → List ℕ → List ℕ → List ℕ
base_row (base.Category category) anchor categories = replicate (length categories) category
base_row (base.Anchor inverted) anchor categories = anchor
base_row (base.Pair lower higher) anchor categories =
    map (λ (bit : Bool). pick bit higher lower) (map (λ (category : ℕ). eqb category higher) categories)

-- 01: "Kind 3: as kind 2, then 0 and 2 exchanged for all samples": the list is made before that
abbrev pub row : Base → List ℕ → List ℕ
row (base.Category category) categories = categories
row (base.Anchor inverted) categories = exchange_all inverted categories
row (base.Pair lower higher) categories = categories

abbrev pub listed_entries : Base → List ℕ → List ℕ → List Entry
listed_entries b anchor categories = differences 0 (base_row b anchor categories) (row b categories)

-- a base for every sample, at most so many samples, and categories only
pub record RowsFit (b : Base) (anchor categories : List ℕ) : Type 0 where
  pub each : length (base_row b anchor categories) ≡ length categories
  pub few : length categories ≤ most_samples
  pub small : Below 4 categories
