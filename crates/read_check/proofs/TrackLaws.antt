-- What each way out of the checks of a track says.
-- Assumes nothing.
use Rattle.std.specs.Prelude.{Result, Ok, Err}
use mathlib.Core.Path.{◌≡◌, refl, ap, ◌∙◌}
use Prim.Native.Nat.{ℕ, ◌≤◌}
use mathlib.Core.Bool.{Bool}
use mathlib.Core.List.{List, [], map}
use lib.ListN.{get_or, length, take, drop}
use mir.Syntax.{w8}
use mir.Val.{Fits as Bounded}
use Rattle.format.specs.declared.Refusal.{Refusal}
use Rattle.format.specs.Base.{Out, ok, refused, refusal, bind, map_out}
use Rattle.format.specs.Packed.{one, two, read_packed}
use Rattle.format.specs.Difflist.{number_width, read_list}
use Rattle.format.specs.PairCode.{PairCode, pair}
use Rattle.format.specs.declared.Kind.TheVariants.{Array, Paired, AgainstAnchor, AgainstCategory, NoKind}
use Rattle.format.specs.Track.{plain, one_bit, leaning, sparse}
use Rattle.format.specs.Track.{rule, off_pair, off_anchor, off_category, bit_set, read_listed, read_kind}
use Rattle.format.specs.declared.Pair.{Pair}
use Rattle.base_cursor.specs.declared.Cursor.{Cursor}
use Rattle.read_packed.specs.Unpacked.{array_at}
use Rattle.read_list.specs.Checked.{stepped, checked}
use Rattle.read_list.specs.declared.ListRule.TheVariants.{OffPair, OffRow}
use Rattle.read_record.specs.Rows.{pair_at, off_both}
use Rattle.read_record.proofs.RuleLaws.{list_same, off_one}
use Rattle.read_record.proofs.CodeLaws.{UnderCode, no_pair, pair_under, pair_inside}
use Rattle.read_record.proofs.EndLaws.{stepped_map}
use Rattle.read_packed.proofs.CheckLaws.{not_packed, accepted, next_inside, next_place}
use Rattle.read_calls.proofs.CountedTrackLaws.{leaner_row}
use Rattle.read_check.specs.Checked.{track_checked, bits_checked}

-- ---- kind 0

module _ (l : List ℕ) (start n : ℕ) (row : List ℕ) (got : Result Cursor Refusal) (told : got ≡ array_at two n l start)
    (known : (i : ℕ) → Bounded w8 (get_or l i 0)) (inside : start ≤ length l) where
  pub of_array : got ≡ track_checked Array n l start row
  unfolding track_checked read_kind
  of_array = through got refl
    where
      next_is : (next : Cursor) → got ≡ Ok next → Ok next ≡ stepped (length l) (map_out plain (read_packed (length l) two n (drop start l)))
      next_is next q = rw ((accepted two l start n got told known inside next q).reads, next_place two l start n got told known inside next q)

      through : (r : Result Cursor Refusal) → got ≡ r → got ≡ stepped (length l) (map_out plain (read_packed (length l) two n (drop start l)))
      through (Err why) q = rw (not_packed two l start n got told why q) q
      through (Ok next) q = q ∙ next_is next q

-- ---- kind 1, after its pair code

module _ (l : List ℕ) (at n lower higher : ℕ) (got : Result Cursor Refusal) (told : got ≡ array_at one n l at) where
  pub bits_refused : (why : Refusal) → got ≡ Err why → Err why ≡ bits_checked lower higher n l at
  unfolding bits_checked
  bits_refused why q = rw (not_packed one l at n got told why q)

  pub bits_listed : (next : Cursor) → got ≡ Ok next → ((i : ℕ) → Bounded w8 (get_or l i 0)) → at ≤ length l
      → (row : List ℕ) (r : Result Cursor Refusal) → r ≡ checked (OffPair lower higher) n l next.at row → r ≡ bits_checked lower higher n l at
  unfolding checked bits_checked
  bits_listed next q known h row r e = rw (accepted one l at n got told known h next q).reads e

pub ruleset part_laws = (next_inside, bits_refused, bits_listed)

-- ---- kind 1

bits_through : (l : List ℕ) (n : ℕ) (c : PairCode) (m : Out (List ℕ))
    → stepped (length l) (bind m (λ bits left₂. read_listed (one_bit c (map bit_set bits)) (length l) n (off_pair c) left₂))
    ≡ stepped (length l) (bind m (λ bits left. read_list (rule n (off_both (pair c).lower (pair c).higher)) (number_width n) (length l) left))
unfolding read_listed
bits_through l n c (ok bits left) = stepped_map (length l) (one_bit c (map bit_set bits)) (read_list (rule n (off_pair c)) (number_width n) (length l) left)
bits_through l n c (refused why) = refl

module _ (l : List ℕ) (start n : ℕ) (got : Result (Pair × Cursor) Refusal) (told : got ≡ pair_at l start) where
  pub no_code : (why : Refusal) → got ≡ Err why → Err why ≡ track_checked Paired n l start []
  unfolding track_checked
  no_code why e = rw (no_pair l start n (take n []) got told why e)

  pub known_code : (p : Pair) (next : Cursor) → got ≡ Ok (p, next) → (r : Result Cursor Refusal) → r ≡ bits_checked p.lower p.higher n l next.at
      → r ≡ track_checked Paired n l start []
  unfolding track_checked bits_checked
  known_code p next e r d =
      let u : UnderCode l n p next.at (read_kind (length l) n (take n []) Paired (drop start l)) = pair_under l start n (take n []) got told p next e in
      rw (u.reads, bits_through l n u.code (read_packed (length l) one n (drop next.at l))) (rw u.is at d)

pub ruleset pair_laws = (pair_inside, no_code, known_code)

-- ---- kinds by number

pub of_paired : (l : List ℕ) (start n : ℕ) (row : List ℕ) (r : Result Cursor Refusal) → r ≡ track_checked Paired n l start []
    → r ≡ track_checked Paired n l start row
unfolding track_checked read_kind
of_paired l start n row r g = g

module _ (l : List ℕ) (start n : ℕ) (row : List ℕ) (r : Result Cursor Refusal) where
  pub of_leaning : (inverted : Bool) → r ≡ checked OffRow n l start row → r ≡ track_checked (AgainstAnchor inverted) n l start row
  unfolding checked track_checked read_kind read_listed
  of_leaning inverted g =
      rw (stepped_map (length l) (leaning inverted) (read_list (rule n (off_anchor (take n row))) (number_width n) (length l) (drop start l))) g

  pub of_sparse : (category : ℕ) → r ≡ checked (OffPair category category) n l start row → r ≡ track_checked (AgainstCategory category) n l start row
  unfolding checked track_checked read_kind read_listed
  of_sparse category g =
      rw (
        stepped_map (length l) (sparse category) (read_list (rule n (off_category category)) (number_width n) (length l) (drop start l)),
        ← list_same n (off_both category category) (off_category category) (λ s v i. off_one category s v) (number_width n) (length l) (drop start l),
      )
      g

pub of_none : (l : List ℕ) (start n : ℕ) (row : List ℕ) (why : Refusal) → why ≡ refusal 8 0 → Err why ≡ track_checked NoKind n l start row
unfolding track_checked read_kind
of_none l start n row why e = ap Err e

pub ruleset track_laws = (leaner_row, of_array, of_paired, of_leaning, of_sparse, of_none)
