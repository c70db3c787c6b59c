-- The values of a list, packed sample by sample.
-- Assumes nothing.
use mathlib.Core.Path.{◌≡◌, refl}
use Prim.Native.Nat.{ℕ, ◌+◌, ◌≤◌, ◌<◌}
use native.Mathlib.Omega.{arith}
use mathlib.Core.List.{List, [], ◌∷◌, ◌++◌}
use mathlib.Core.Bool.{Bool, true, false}
use lib.ListN.{length, get_or}
use lib.Dec.{eqb}
use Rattle.format.specs.Base.{pick}
use Rattle.format.specs.Packed.{two}
use Rattle.format.specs.Difflist.{Entry, values}
use Rattle.format.specs.Writer.{unless}
use Rattle.format.proofs.Rules.{by_test}
use Rattle.write_bytes.specs.Written.{Wrote}
use Rattle.write_bytes.specs.InTurn.{last_byte, PackingFits, PackedOn, PackingGoes}
use Rattle.write_bytes.specs.declared.Packing.{Packing}
use Rattle.write_bytes.proofs.ArrayLaws.{below_at}
use Rattle.write_bytes.proofs.InTurnLaws.{goes_first, goes_room, goes_next, goes_small, goes_last, goes_end}
use Rattle.write_parts.specs.Rows.{base_row, row, listed_entries, RowsFit}
use Rattle.write_parts.specs.declared.Base.{Base}
use Rattle.write_parts.proofs.RowLaws.{row_below, listed_at, listed_turn, listed_done}
use Rattle.write_list.specs.Values.{values_bytes, sample_values}

-- ---- the loop

-- one sample, listed unless its value is its base's
value_turn : (base value i : ℕ) (es : List Entry)
    → values (unless (eqb value base) (record { sample = i; value = value }) es) ≡ sample_values base value ++ values es
unfolding values
value_turn base value i es = go (eqb value base)
  where
    go : (same : Bool) → values (unless same (record { sample = i; value = value }) es) ≡ pick same [] (value ∷ []) ++ values es
    go true = refl
    go false = refl

-- before sample i
pub record Going (b : Base) (anchor categories to₀ : List ℕ) (at : ℕ) (to : List ℕ) (packing : Packing) (i : ℕ) : Type 0 where
  pub rows : RowsFit b anchor categories
  pub goes : PackingGoes 4 (values_bytes (listed_entries b anchor categories)) to₀ at to packing (values (listed_at b anchor categories i))

pub values_start : (b : Base) (anchor categories to : List ℕ) (at : ℕ) → RowsFit b anchor categories
    → at + length (values_bytes (listed_entries b anchor categories)) ≤ length to
    → Going b anchor categories to at to (record { scale = 1; byte = 0; at = at }) 0
values_start b anchor categories to at f h = record { rows = f; goes = goes_first two (values (listed_entries b anchor categories)) to at h }

module _ {b : Base} {anchor categories to₀ : List ℕ} {at : ℕ} {to : List ℕ} {packing : Packing} {i : ℕ}
    (v : Going b anchor categories to₀ at to packing i) where
  pub values_fit : PackingFits 4 packing.scale packing.byte
  values_fit = v.goes.fits

  module _ (base value : ℕ) (ev : value ≡ get_or (row b categories) i 0) where
    pub values_four : value < 4
    values_four = rw ev (below_at 4 (row b categories) i (omega arith) (row_below b categories v.rows.small))

    module _ (eb : base ≡ get_or (base_row b anchor categories) i 0) (h : i < length categories) where
      abbrev left : List ℕ
      left = values (listed_at b anchor categories (i + 1))

      turn : values (listed_at b anchor categories i) ≡ sample_values base value ++ left
      turn = rw (listed_turn b anchor categories i v.rows base value ev eb h) (value_turn base value i (listed_at b anchor categories (i + 1)))

      one_value : length (sample_values base value) ≤ 1
      one_value = by_test (λ (vs : List ℕ). length vs ≤ 1) (eqb value base) (λ t. omega arith) (λ t. omega arith)

      pub values_room : packing.at + length (sample_values base value) ≤ length to
      values_room = goes_room v.goes (sample_values base value) left turn one_value

      pub values_next : {r : Packing} {after : List ℕ} → PackedOn 4 to packing (sample_values base value) r after
          → Going b anchor categories to₀ at after r (i + 1)
      values_next w = record { rows = v.rows; goes = goes_next v.goes (sample_values base value) left turn w }

  pub last_small : packing.byte < 256
  last_small = goes_small v.goes

  module _ (h : length categories ≤ i) where
    none_left : values (listed_at b anchor categories i) ≡ []
    unfolding values
    none_left = rw (listed_done b anchor categories i v.rows h)

    pub last_room : packing.at + length (last_byte packing.scale packing.byte) ≤ length to
    last_room = goes_last v.goes none_left

    pub values_end : {r : ℕ} {after : List ℕ} → Wrote to packing.at (last_byte packing.scale packing.byte) r after
        → Wrote to₀ at (values_bytes (listed_entries b anchor categories)) r after
    values_end w = goes_end v.goes none_left w

pub ruleset values_laws = (values_start, values_fit, values_four, values_room, last_small, last_room, values_end)
