-- A row that a loop writes from the front, one store a turn: what holds before a turn, how a turn goes, and what the row is at the end.
-- Assumes nothing.
use mathlib.Core.Path.{◌≡◌, refl, ◌∙◌}
use Prim.Native.Nat.{ℕ, suc, ◌+◌, ◌≤◌, ◌<◌}
use native.Mathlib.Omega.{arith}
use native.Mathlib.Numerals.{add-one}
use mathlib.Core.List.{List, [], ◌∷◌, ◌++◌, map, map-append, append-nil, append_assoc}
use lib.ListN.{length, get_or, set, take, drop, drop_of_length-le, length-append, length-set}
use Rattle.std.proofs.lemmas.List.{take_all}
use lib.Seq.{take-suc, drop-cons, set_at, get_or_at}

-- before turn i of n: `front` was stored, before what the row still has of the old one
pub record Written (n : ℕ) (old row front : List ℕ) (i : ℕ) : Type 0 where
  pub reached : i ≤ n
  pub room : n ≤ length old
  pub long : length row ≡ length old
  pub made : length front ≡ i
  pub is : row ≡ front ++ drop i old

pub unwritten : (n : ℕ) (row : List ℕ) → n ≤ length row → Written n row row [] 0
unwritten n row h = record { reached = omega arith; room = h; long = refl; made = refl; is = refl }

module _ (n : ℕ) (old row front : List ℕ) (i : ℕ) (w : Written n old row front i) where
  whole : n ≤ i → i ≡ n
  whole h = omega arith

  module _ (h : i < n) where
    rest : drop i old ≡ get_or old i 0 ∷ drop (suc i) old
    rest = drop-cons old i 0 (omega arith)

    untouched : get_or row i 0 ≡ get_or old i 0
    untouched = rw (w.is, rest) (get_or_at front _ _ 0 i w.made)

    stored : (v : ℕ) → Written n old (set row i v) (front ++ (v ∷ [])) (i + 1)
    stored v = record {
      reached = omega arith;
      room = w.room;
      long = length-set row i v ∙ w.long;
      made = simp length-append (omega arith);
      is = rw (w.is, rest, set_at front _ _ v i w.made, append_assoc, add-one);
    }

-- another row
one_more : (from : List ℕ) (i : ℕ) → i < length from → take (i + 1) from ≡ take i from ++ (get_or from i 0 ∷ [])
one_more from i h = rw add-one (take-suc from i 0 h)

pub copy_turn : (n : ℕ) (old row from : List ℕ) (i : ℕ) → Written n old row (take i from) i → i < n → n ≤ length from
    → Written n old (set row i (get_or from i 0)) (take (i + 1) from) (i + 1)
copy_turn n old row from i w h g = rw (one_more from i (omega arith)) (stored n old row (take i from) i w h (get_or from i 0))

pub copied : (n : ℕ) (old row from : List ℕ) (i : ℕ) → Written n old row (take i from) i → n ≤ i → row ≡ take n from ++ drop n old
copied n old row from i w h = rw (whole n old row (take i from) i w h) at w.is

pub ruleset copy_laws = (unwritten, copy_turn, copied)

-- each of its own values changed
module _ (f : ℕ → ℕ) (n : ℕ) (old row : List ℕ) (i : ℕ) (w : Written n old row (map f (take i old)) i) where
  pub map_turn : i < n → (v : ℕ) → v ≡ f (get_or row i 0) → Written n old (set row i v) (map f (take (i + 1) old)) (i + 1)
  map_turn h v e =
      rw (one_more old i (omega arith), map-append, e, untouched n old row (map f (take i old)) i w h)
      (stored n old row (map f (take i old)) i w h (f (get_or old i 0)))

  pub mapped : n ≤ i → row ≡ map f (take n old) ++ drop n old
  mapped h = rw (whole n old row (map f (take i old)) i w h) at w.is

pub ruleset map_laws = (unwritten, map_turn, mapped)

-- the front of a row, all of it written, before the rest
pub front_mapped : (f : ℕ → ℕ) (n : ℕ) (row front : List ℕ) (i : ℕ)
    → Written (length (take n row)) (take n row) front (map f (take i (take n row))) i → length (take n row) ≤ i
    → front ++ drop n row ≡ map f (take n row) ++ drop n row
front_mapped f n row front i w h =
    rw (
      mapped f (length (take n row)) (take n row) front i w h,
      take_all (length (take n row)) (take n row) (omega arith),
      drop_of_length-le (take n row) {i = length (take n row)} (omega arith),
      append-nil,
    )
