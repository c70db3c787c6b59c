-- The record's size, and its parts one after another.
-- Assumes nothing.
use mathlib.Core.Path.{◌≡◌, refl, sym, ◌∙◌}
use Prim.Native.Nat.{ℕ, ◌+◌, ◌≤◌}
use native.Mathlib.Omega.{arith}
use mathlib.Core.List.{List, [], ◌∷◌, map}
use lib.ListN.{length, set, length-append, length-map}
use lib.Dec.{eqb}
use mir.Syntax.{w64}
use mir.Val.{Fits}
use Rattle.format.specs.declared.Pair.{Pair}
use Rattle.format.specs.Packed.{one, two, packed_size}
use Rattle.format.specs.Difflist.{number_width, list_bytes}
use Rattle.format.proofs.PackedLaws.{packed_length}
use Rattle.write_bytes.specs.Written.{Wrote}
use Rattle.write_bytes.specs.Arrays.{width, numbers, array_bytes}
use Rattle.write_bytes.specs.declared.Array.{Array}
use Rattle.write_bytes.specs.declared.Array.TheVariants as arrays
use Rattle.write_bytes.proofs.ArrayLaws.{numbers_length}
use Rattle.write_bytes.proofs.WrittenLaws.{wrote_both, wrote_length}
use Rattle.write_parts.specs.Rows.{base_row, listed_entries, RowsFit}
use Rattle.write_parts.specs.declared.Base.{Base}
use Rattle.write_parts.specs.declared.Base.TheVariants as base
use Rattle.write_list.specs.Sizes.{SizeOf}
use Rattle.write_list.specs.declared.ListSize.{ListSize}
use Rattle.write_list.proofs.ListLaws.{list_most}
use Rattle.call_write.specs.Asked.{asked_bytes, AskedFits, RecordSize}
use Rattle.call_write.specs.declared.Asked.{Asked}
use Rattle.call_write.specs.declared.Asked.TheVariants as asked

array_length : (a : Array) (categories : List ℕ) (r : ℕ) → r ≡ packed_size (width a) (length categories) → r ≡ length (array_bytes a categories)
array_length a categories r e = e ∙ sym (packed_length (width a) (length categories) (numbers a categories) (numbers_length a categories))

-- ---- one list's bytes, and what its writer asks for

abbrev pub bytes_of_list : Base → List ℕ → List ℕ → List ℕ
bytes_of_list b anchor categories = list_bytes (number_width (length categories)) (listed_entries b anchor categories)

pub rows_list : (a : Asked) (b : Base) (anchor categories : List ℕ) → a ≡ asked.List b → AskedFits a anchor categories → RowsFit b anchor categories
rows_list a b anchor categories e f =
    let each : length (base_row b anchor categories) ≡ length categories = rw e at f.has_base in
    record { each = each; few = f.few; small = f.small }

pub rows_pair : (a : Asked) (lower higher : ℕ) (anchor categories : List ℕ) → AskedFits a anchor categories → RowsFit (base.Pair lower higher) anchor categories
rows_pair a lower higher anchor categories f =
    record { each = length-map (map (λ (category : ℕ). eqb category higher) categories) _ ∙ length-map categories _; few = f.few; small = f.small }

-- ---- the record's size

module _ (a : Asked) (anchor categories : List ℕ) where
  pub size_array : (bytes : ℕ) → a ≡ asked.Array → bytes ≡ packed_size (width arrays.Categories) (length categories)
      → RecordSize a anchor categories (record { count = 0; bytes = bytes })
  size_array bytes q e = rw q (record { count_is = refl; bytes_are = array_length arrays.Categories categories bytes e })

  pub size_list : (b : Base) (r : ListSize) → a ≡ asked.List b → SizeOf (length categories) (listed_entries b anchor categories) r
      → RecordSize a anchor categories r
  size_list b r q s = rw q (record { count_is = s.count_is; bytes_are = s.bytes_are })

  module _ (p : Pair) (bits : ℕ) (e : bits ≡ packed_size (width (arrays.Bits p.higher)) (length categories)) (r : ListSize)
      (s : SizeOf (length categories) (listed_entries (base.Pair p.lower p.higher) anchor categories) r) where
    pub size_pair : a ≡ asked.Pair p → RecordSize a anchor categories (record { count = r.count; bytes = 1 + bits + r.bytes })
    size_pair q =
        let xs : List ℕ = array_bytes (arrays.Bits p.higher) categories in
        let ys : List ℕ = bytes_of_list (base.Pair p.lower p.higher) anchor categories in
        rw q
        (record {
          count_is = s.count_is;
          bytes_are = omega (arith, array_length (arrays.Bits p.higher) categories bits e, s.bytes_are, length-append xs ys);
        })

    pub pair_fits : AskedFits a anchor categories → Fits w64 (1 + bits + r.bytes)
    pair_fits f =
        let rows : RowsFit (base.Pair p.lower p.higher) anchor categories = rows_pair a p.lower p.higher anchor categories f in
        record { fits = omega (arith, s.bytes_are, f.few, list_most (length categories) (base.Pair p.lower p.higher) anchor categories rows) }

-- no record is longer
pub record_most : (a : Asked) (anchor categories : List ℕ) → AskedFits a anchor categories → length (asked_bytes a anchor categories) ≤ 500000
record_most asked.Array anchor categories f = omega (arith, f.few, packed_length two (length categories) categories refl)
record_most (asked.Pair p) anchor categories f =
    let bits : List ℕ = array_bytes (arrays.Bits p.higher) categories in
    let list : List ℕ = bytes_of_list (base.Pair p.lower p.higher) anchor categories in
    omega (
      arith,
      f.few,
      array_length (arrays.Bits p.higher) categories (packed_size one (length categories)) refl,
      length-append bits list,
      list_most (length categories) (base.Pair p.lower p.higher) anchor categories (rows_pair (asked.Pair p) p.lower p.higher anchor categories f),
    )
record_most (asked.List b) anchor categories f =
    omega (arith, list_most (length categories) b anchor categories (rows_list (asked.List b) b anchor categories refl f))

pub ruleset size_laws = (rows_list, rows_pair, size_array, size_list, size_pair, pair_fits)

-- ---- kind 1: its code, its bits, its list

module _ (p : Pair) (anchor categories to : List ℕ) (fit : length (asked_bytes (asked.Pair p) anchor categories) ≤ length to) where
  abbrev bits : List ℕ
  bits = array_bytes (arrays.Bits p.higher) categories

  abbrev list : List ℕ
  list = bytes_of_list (base.Pair p.lower p.higher) anchor categories

  code_written : Wrote to 0 (p.code ∷ []) 1 (set to 0 p.code)
  code_written = record { place = refl; same = refl }

  pub room_bits : 1 + length (array_bytes (arrays.Bits p.higher) categories) ≤ length (set to 0 p.code)
  room_bits = omega (arith, wrote_length code_written, length-append bits list)

  module _ {r : ℕ} {mid : List ℕ} (w : Wrote (set to 0 p.code) 1 (array_bytes (arrays.Bits p.higher) categories) r mid) where
    pub room_list : r + length (bytes_of_list (base.Pair p.lower p.higher) anchor categories) ≤ length mid
    room_list = omega (arith, w.place, wrote_length w, wrote_length code_written, length-append bits list)

    module _ {s : ℕ} {after : List ℕ} (v : Wrote mid r (bytes_of_list (base.Pair p.lower p.higher) anchor categories) s after) where
      pub pair_written : Wrote to 0 (asked_bytes (asked.Pair p) anchor categories) s after
      pair_written = wrote_both (wrote_both code_written w) v

      pub pair_length : length after ≡ length to
      pair_length = wrote_length pair_written

pub ruleset pair_laws = (rows_pair, room_bits, room_list, pair_written, pair_length)
