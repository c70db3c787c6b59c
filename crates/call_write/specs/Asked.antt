-- What a kind and a pair code ask for, and the record's bytes.
-- Assumes nothing.
use Rattle.std.specs.Prelude.{◌≡◌, ℕ, ◌≤◌, List, ◌∷◌, ◌++◌, length, eqb, Option, Some, None}
use Rattle.format.specs.Base.{pick, Below}
use Rattle.format.specs.Limits.{most_samples}
use Rattle.format.specs.Difflist.{number_width, list_bytes}
use Rattle.format.specs.PairCode.{pair, Coded, coded, not_coded, code_numbered}
use Rattle.format.specs.declared.Kind.{Kind}
use Rattle.format.specs.declared.Kind.TheVariants.{Array, Paired, AgainstAnchor, AgainstCategory, NoKind}
use Rattle.format.specs.Track.{kind}
use Rattle.write_bytes.specs.Arrays.{array_bytes}
use Rattle.write_bytes.specs.declared.Array.TheVariants as arrays
use Rattle.write_parts.specs.Rows.{base_row, listed_entries}
use Rattle.write_parts.specs.declared.Base.TheVariants as base
use Rattle.write_list.specs.declared.ListSize.{ListSize}
use Rattle.call_write.specs.declared.Asked.{Asked}
use Rattle.call_write.specs.declared.Asked.TheVariants as asked

-- ---- 01, Replies: 19, "kind or pair code not allowed"; "a pair code (0 unless kind 1)"

abbrev pub asked_code : Coded → Option Asked
asked_code (coded c) = Some (asked.Pair (pair c))
asked_code not_coded = None

abbrev pub asked_kind : Kind → ℕ → Option Asked
asked_kind Array code = pick (eqb code 0) (Some asked.Array) None
asked_kind Paired code = asked_code (code_numbered code)
asked_kind (AgainstAnchor inverted) code = pick (eqb code 0) (Some (asked.List (base.Anchor inverted))) None
asked_kind (AgainstCategory category) code = pick (eqb code 0) (Some (asked.List (base.Category category))) None
asked_kind NoKind code = None

-- none where 19 refuses
abbrev pub asked_for : ℕ → ℕ → Option Asked
asked_for number code = asked_kind (kind number) code

-- ---- 01, Categories and kinds: "Kind 0: the packed array."; "Kind 1: a pair code, a bit per sample (set: the higher category of the pair), then a
-- list of pairs"; the others are a list

abbrev pub asked_bytes : Asked → List ℕ → List ℕ → List ℕ
asked_bytes asked.Array anchor categories = array_bytes arrays.Categories categories
asked_bytes (asked.Pair p) anchor categories =
    p.code ∷ (array_bytes (arrays.Bits p.higher) categories
    ++ list_bytes (number_width (length categories)) (listed_entries (base.Pair p.lower p.higher) anchor categories))
asked_bytes (asked.List b) anchor categories = list_bytes (number_width (length categories)) (listed_entries b anchor categories)

-- the count of its list
abbrev pub asked_count : Asked → List ℕ → List ℕ → ℕ
asked_count asked.Array anchor categories = 0
asked_count (asked.Pair p) anchor categories = length (listed_entries (base.Pair p.lower p.higher) anchor categories)
asked_count (asked.List b) anchor categories = length (listed_entries b anchor categories)

-- ---- a record that may be written: a list has a base for every sample

abbrev pub HasBase : Asked → List ℕ → List ℕ → Type 0
HasBase asked.Array anchor categories = Unit {0}
HasBase (asked.Pair p) anchor categories = Unit {0}
HasBase (asked.List b) anchor categories = length (base_row b anchor categories) ≡ length categories

pub record AskedFits (a : Asked) (anchor categories : List ℕ) : Type 0 where
  pub has_base : HasBase a anchor categories
  pub few : length categories ≤ most_samples
  pub small : Below 4 categories

-- its measure
pub record RecordSize (a : Asked) (anchor categories : List ℕ) (r : ListSize) : Type 0 where
  pub count_is : r.count ≡ asked_count a anchor categories
  pub bytes_are : r.bytes ≡ length (asked_bytes a anchor categories)
