-- What each way out of the counts of a main track says: under a pair code, and by the kind's number.
-- Assumes nothing.
use Rattle.std.specs.Prelude.{Result, Ok, Err}
use mathlib.Core.Path.{◌≡◌, refl, sym, ap, ◌∙◌}
use Prim.Native.Nat.{ℕ, ◌≤◌}
use mathlib.Core.Bool.{Bool, true, false}
use mathlib.Core.List.{List, [], ◌∷◌, map}
use lib.ListN.{length, take, drop, replicate}
use borrow.Author.Tests.{ne_eqb}
use Rattle.format.specs.declared.Refusal.{Refusal}
use Rattle.format.specs.Base.{Out, ok, refused, refusal, bind, map_out}
use Rattle.format.specs.Packed.{one, two, read_packed}
use Rattle.format.specs.Difflist.{Entry, number_width, read_list}
use Rattle.format.specs.PairCode.{PairCode, pair, category_of}
use Rattle.format.specs.declared.Kind.{Kind}
use Rattle.format.specs.declared.Kind.TheVariants.{Array, Paired, AgainstAnchor, AgainstCategory, NoKind}
use Rattle.format.specs.Track.{leans_kind, plain, one_bit, leaning, sparse, apply, read_pair_code}
use Rattle.format.specs.Track.{rule, off_pair, off_anchor, off_category, bit_set, read_listed, read_kind}
use Rattle.format.specs.Phase.{heterozygous}
use Rattle.format.specs.declared.Pair.{Pair}
use Rattle.format.proofs.PhaseFlipLaws.{heterozygous_exchange}
use Rattle.base_cursor.specs.declared.Cursor.{Cursor}
use Rattle.read_packed.specs.Unpacked.{of_pair}
use Rattle.read_list.specs.declared.ListRule.TheVariants.{OffPair, OffRow}
use Rattle.read_record.specs.Rows.{pair_at, off_both}
use Rattle.read_record.proofs.RuleLaws.{list_same, off_one}
use Rattle.read_record.proofs.CodeLaws.{UnderCode, no_pair, pair_under, pair_inside, under_code}
use Rattle.read_calls.specs.Counted.{count_replied, counted}
use Rattle.read_calls.specs.Tracks.{track_told, track_counted, bits_told, bits_counted}

-- ---- kind 1

-- a listed sample's category, and the bits' own, by the pair's two
bits_as : (c : PairCode) (bits : List ℕ) → map (category_of c) (map bit_set bits) ≡ map (of_pair (pair c).lower (pair c).higher) bits
bits_as c [] = refl
bits_as c (bit ∷ bits) = ap (◌∷◌ (of_pair (pair c).lower (pair c).higher bit)) (bits_as c bits)

bits_through : (end n : ℕ) (anchor : List ℕ) (c : PairCode) (m : Out (List ℕ))
    → track_told end n anchor (bind m (λ bits left₂. read_listed (one_bit c (map bit_set bits)) end n (off_pair c) left₂))
    ≡ bits_told (pair c).lower (pair c).higher end n m
unfolding read_listed
bits_through end n anchor c (refused why) = refl
bits_through end n anchor c (ok bits left) = through (read_list (rule n (off_pair c)) (number_width n) end left)
  where
    through : (m : Out (List Entry))
        → track_told end n anchor (map_out (one_bit c (map bit_set bits)) m) ≡ count_replied end (map (of_pair (pair c).lower (pair c).higher) bits) m
    through (refused why) = refl
    through (ok es left₂) = rw (bits_as c bits)

module _ (l : List ℕ) (start n : ℕ) (got : Result (Pair × Cursor) Refusal) (told : got ≡ pair_at l start) where
  pub no_code : (why : Refusal) → got ≡ Err why → Err why ≡ track_counted Paired n l start []
  unfolding track_counted
  no_code why e = rw (no_pair l start n (take n []) got told why e)

  pub known_code : (p : Pair) (next : Cursor) → got ≡ Ok (p, next) → (r : Result (Cursor × ℕ) Refusal) → r ≡ bits_counted p.lower p.higher n l next.at
      → r ≡ track_counted Paired n l start []
  unfolding track_counted bits_counted
  known_code p next e r d =
      let u : UnderCode l n p next.at (read_kind (length l) n (take n []) Paired (drop start l)) = pair_under l start n (take n []) got told p next e in
      rw (u.reads, bits_through (length l) n (take n []) u.code (read_packed (length l) one n (drop next.at l))) (rw u.is at d)

pub ruleset pair_laws = (pair_inside, no_code, known_code)

-- ---- kinds by number

-- a kind that leans has a row
pub leaner_row : (n : ℕ) (k : Kind) (inverted : Bool) (row : List ℕ) → (leans_kind k ≡ true → n ≤ length row) → k ≡ AgainstAnchor inverted → n ≤ length row
leaner_row n k inverted row h e = h (ap leans_kind e)

module _ (l : List ℕ) (start n : ℕ) (row : List ℕ) (r : Result (Cursor × ℕ) Refusal) where
  pub of_plain : r ≡ track_counted Array n l start [] → r ≡ track_counted Array n l start row
  unfolding track_counted read_kind
  of_plain g = g ∙ through (read_packed (length l) two n (drop start l))
    where
      through : (m : Out (List ℕ)) → track_told (length l) n (take n []) (map_out plain m) ≡ track_told (length l) n (take n row) (map_out plain m)
      through (ok vs left) = refl
      through (refused why) = refl

  pub of_paired : r ≡ track_counted Paired n l start [] → r ≡ track_counted Paired n l start row
  unfolding track_counted read_kind
  of_paired g = g ∙ through (read_pair_code (length l) (drop start l))
    where
      through : (m : Out PairCode) → track_told (length l) n (take n []) (bind m (λ c left₁. under_code (length l) n c left₁))
          ≡ track_told (length l) n (take n row) (bind m (λ c left₁. under_code (length l) n c left₁))
      through (refused why) = refl
      through (ok c left) =
          let m : Out (List ℕ) = read_packed (length l) one n left in
          bits_through (length l) n (take n []) c m ∙ sym (bits_through (length l) n (take n row) c m)

  pub of_leaning : (inverted : Bool) → r ≡ counted OffRow (take n row) n l start → r ≡ track_counted (AgainstAnchor inverted) n l start row
  unfolding counted track_counted read_kind read_listed
  of_leaning inverted g = g ∙ through (read_list (rule n (off_anchor (take n row))) (number_width n) (length l) (drop start l))
    where
      through : (m : Out (List Entry)) → count_replied (length l) (take n row) m ≡ track_told (length l) n (take n row) (map_out (leaning inverted) m)
      through (refused why) = refl
      through (ok es left) = rw (heterozygous_exchange inverted (apply es (take n row))) refl

  pub of_sparse : (category : ℕ) → r ≡ counted (OffPair category category) (replicate n category) n l start
      → r ≡ track_counted (AgainstCategory category) n l start row
  unfolding counted track_counted read_kind read_listed
  of_sparse category g =
      rw (← list_same n (off_both category category) (off_category category) (λ s v i. off_one category s v) (number_width n) (length l) (drop start l))
      (g ∙ through (read_list (rule n (off_both category category)) (number_width n) (length l) (drop start l)))
    where
      through : (m : Out (List Entry)) → count_replied (length l) (replicate n category) m ≡ track_told (length l) n (take n row) (map_out (sparse category) m)
      through (refused why) = refl
      through (ok es left) = refl

pub of_none : (l : List ℕ) (start n : ℕ) (row : List ℕ) (why : Refusal) → why ≡ refusal 8 0 → Err why ≡ track_counted NoKind n l start row
unfolding track_counted read_kind
of_none l start n row why e = ap Err e

pub sparse_other : (k : Kind) (category : ℕ) → (k ≡ AgainstCategory 1 → ⊥) → k ≡ AgainstCategory category → heterozygous category ≡ false
sparse_other k category h e = ne_eqb category 1 (λ one. h (e ∙ ap AgainstCategory one))

pub ruleset track_laws = (leaner_row, of_plain, of_paired, of_leaning, of_sparse, of_none, sparse_other)
