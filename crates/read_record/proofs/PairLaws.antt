-- A track of kind 1 read into a row: its pair code, then its bits and its list.
-- Assumes nothing.
use Rattle.std.specs.Prelude.{Result, Ok, Err}
use mathlib.Core.Path.{◌≡◌, refl}
use Prim.Native.Nat.{ℕ}
use mathlib.Core.List.{List, map, map-map}
use lib.ListN.{length, take, drop}
use Rattle.format.specs.declared.Refusal.{Refusal}
use Rattle.format.specs.Base.{Out, ok, refused, bind, map_out}
use Rattle.format.specs.Packed.{one, read_packed}
use Rattle.format.specs.Difflist.{Entry, number_width, read_list}
use Rattle.format.specs.PairCode.{PairCode, pair, category_of}
use Rattle.format.specs.declared.Kind.TheVariants.{Paired}
use Rattle.format.specs.Track.{one_bit, rule, off_pair, apply, bit_set, read_listed, read_kind, track_categories}
use Rattle.format.specs.declared.Pair.{Pair}
use Rattle.base_cursor.specs.declared.Cursor.{Cursor}
use Rattle.read_packed.specs.Unpacked.{of_pair}
use Rattle.read_list.specs.Entries.{list_left}
use Rattle.read_record.specs.Rows.{wiped, stored, pair_at, kind_categories, tracked, off_both, pair_categories}
use Rattle.read_record.proofs.CodeLaws.{UnderCode, no_pair, pair_under, pair_inside}

-- the bits and the list under a known code
module _ (l : List ℕ) (n : ℕ) (row : List ℕ) (c : PairCode) where
  listed_through : (bits : List ℕ) (m : Out (List Entry))
      → map_out (track_categories n (take n row)) (map_out (one_bit c (map bit_set bits)) m)
      ≡ map_out (λ es. apply es (map (of_pair (pair c).lower (pair c).higher) bits)) m
  listed_through bits (ok es left) = rw (map-map (category_of c) bit_set bits)
  listed_through bits (refused why) = refl

  pub bits_through : (m : Out (List ℕ))
      → map_out (track_categories n (take n row)) (bind m (λ bits left₂. read_listed (one_bit c (map bit_set bits)) (length l) n (off_pair c) left₂))
      ≡ bind m (λ bits left. map_out (λ es. apply es (map (of_pair (pair c).lower (pair c).higher) bits))
      (read_list (rule n (off_both (pair c).lower (pair c).higher)) (number_width n) (length l) left))
  unfolding read_listed
  bits_through (ok bits left) = listed_through bits (read_list (rule n (off_pair c)) (number_width n) (length l) left)
  bits_through (refused why) = refl

-- ---- the ways out of `read_pair`: `got` is what its pair code was

module _ (l : List ℕ) (start n : ℕ) (row : List ℕ) (got : Result (Pair × Cursor) Refusal) (told : got ≡ pair_at l start) where
  pub no_code : (why : Refusal) → got ≡ Err why → wiped n (list_left (Err why) row) ≡ tracked Paired n l start row
  unfolding kind_categories
  no_code why e = rw (no_pair l start n (take n row) got told why e)

  pub known_code : (p : Pair) (next : Cursor) → got ≡ Ok (p, next) → (r : Result Cursor Refusal) (new : List ℕ)
      → wiped n (list_left r new) ≡ stored (length l) n row (pair_categories p.lower p.higher n l next.at)
      → wiped n (list_left r new) ≡ tracked Paired n l start row
  unfolding kind_categories pair_categories
  known_code p next e r new d =
      let u : UnderCode l n p next.at (read_kind (length l) n (take n row) Paired (drop start l)) = pair_under l start n (take n row) got told p next e in
      rw (u.reads, bits_through l n row u.code (read_packed (length l) one n (drop next.at l))) (rw u.is at d)

pub ruleset pair_laws = (pair_inside, no_code, known_code)
