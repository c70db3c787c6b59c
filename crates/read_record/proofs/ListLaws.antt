-- A list put into a row whose first n bytes are known: kinds 1, 4, 6 and 7.
-- Assumes nothing.
use Rattle.std.specs.Prelude.{Result, Ok, Err}
use mathlib.Core.Path.{◌≡◌, refl, ◌∙◌}
use Prim.Native.Nat.{ℕ, ◌≤◌}
use native.Mathlib.Omega.{arith}
use mathlib.Core.List.{List, ◌++◌, map}
use lib.ListN.{get_or, length, take, drop, replicate, length-map, length-replicate}
use lib.Seq.{take_at}
use mir.Syntax.{w8}
use mir.Val.{Fits}
use Rattle.format.specs.declared.Refusal.{Refusal}
use Rattle.format.specs.Base.{Out, ok, refused, bind, map_out}
use Rattle.format.specs.Packed.{one, read_packed}
use Rattle.format.specs.Difflist.{Entry, number_width, read_list}
use Rattle.format.specs.declared.Kind.TheVariants.{AgainstCategory}
use Rattle.format.specs.Track.{sparse, rule, off_category, apply, read_listed, read_kind, track_categories}
use Rattle.base_cursor.specs.declared.Cursor.{Cursor}
use Rattle.head_index.specs.NumbersAt.{digits_at}
use Rattle.read_packed.specs.Unpacked.{packed_step, array_at, unpacked, unpacked_one, of_pair, unpack_left}
use Rattle.head_index.proofs.ByIndex.{digits_length}
use Rattle.read_packed.proofs.CheckLaws.{Accepted, was_accepted}
use Rattle.read_list.specs.Entries.{ListLeft, list_left}
use Rattle.read_list.specs.Listed.{may_hold, list_replied, listed}
use Rattle.read_list.specs.declared.ListRule.{ListRule}
use Rattle.read_list.specs.declared.ListRule.TheVariants.{OffPair}
use Rattle.read_record.specs.Rows.{wiped, stored, kind_categories, tracked, off_both, pair_categories}
use Rattle.read_record.proofs.RuleLaws.{list_same, off_one}
use Rattle.read_record.proofs.RowLaws.{rest_of, zero_rest}

-- `first` is what the list is against
module _ (l : List ℕ) (at n : ℕ) (held : ListRule) (row mid first : List ℕ) (t : take n mid ≡ first) (d : drop n mid ≡ drop n row) where
  abbrev entries : Out (List Entry)
  entries = read_list (rule n (may_hold held first)) (number_width n) (length l) (drop at l)

  list_stored : (o : ListLeft) → o ≡ listed held n l at mid → wiped n o ≡ stored (length l) n row (map_out (λ es. apply es first) entries)
  unfolding listed
  list_stored o e = rw (e, t) (through entries)
    where
      through : (m : Out (List Entry)) → wiped n (list_replied (length l) n mid m) ≡ stored (length l) n row (map_out (λ es. apply es first) m)
      through (ok es left) = rw (t, d)
      through (refused why) = rw (zero_rest n mid, d)

-- ---- kinds 4, 6, 7

module _ (l : List ℕ) (start n category : ℕ) (row mid : List ℕ) (filled : mid ≡ replicate n category ++ drop n row) where
  sparse_through : (m : Out (List Entry))
      → map_out (track_categories n (take n row)) (map_out (sparse category) m) ≡ map_out (λ es. apply es (replicate n category)) m
  sparse_through (ok es left) = refl
  sparse_through (refused why) = refl

  pub sparse_stored : (r : Result Cursor Refusal) (new : List ℕ) → list_left r new ≡ listed (OffPair category category) n l start mid
      → wiped n (list_left r new) ≡ tracked (AgainstCategory category) n l start row
  unfolding kind_categories read_kind read_listed
  sparse_stored r new e =
      let t : take n mid ≡ replicate n category = rw filled (take_at (replicate n category) (drop n row) n (length-replicate n category)) in
      let d : drop n mid ≡ drop n row = rw filled (rest_of n (replicate n category) row (length-replicate n category)) in
      rw (
        sparse_through (read_list (rule n (off_category category)) (number_width n) (length l) (drop start l)),
        ← list_same n (off_both category category) (off_category category) (λ s v i. off_one category s v) (number_width n) (length l) (drop start l),
      )
      (list_stored l start n (OffPair category category) row mid (replicate n category) t d (list_left r new) e)

-- ---- kind 1, after its pair code

-- `got` is what the bits were, in a row that holds their categories now
module _ (l : List ℕ) (at n lower higher : ℕ) (row mid : List ℕ) (got : Result Cursor Refusal)
    (told : unpack_left got mid ≡ unpacked_one lower higher n l at row) where
  abbrev read : Out (List ℕ)
  read = read_packed (length l) one n (drop at l)

  abbrev Unpacked : Out (List ℕ) → Type 0
  Unpacked m = unpack_left got mid ≡ unpacked (length l) (map (of_pair lower higher)) n row m

  was_unpacked : Unpacked read
  unfolding unpacked_one
  was_unpacked = told

  pub bits_refused : (why : Refusal) → got ≡ Err why
      → wiped n (list_left (Err why) mid) ≡ stored (length l) n row (pair_categories lower higher n l at)
  unfolding pair_categories
  bits_refused why e = through read was_unpacked
    where
      through : (m : Out (List ℕ)) → Unpacked m
          → list_left (Err why) (replicate n 0 ++ drop n mid) ≡ stored (length l) n row (bind m (λ bits left.
          map_out (λ es. apply es (map (of_pair lower higher) bits)) (read_list (rule n (off_both lower higher)) (number_width n) (length l) left)))
      through (ok vs left) q = absurd (let z : ◌≡◌ {A = ℕ} 0 1 = cc in omega arith)
      through (refused because) q = cc

  module _ (next : Cursor) (e : got ≡ Ok next) (known : (i : ℕ) → Fits w8 (get_or l i 0)) (h : at ≤ length l) where
    bits_step : Ok next ≡ array_at one n l at
    unfolding array_at
    bits_step = through read was_unpacked
      where
        through : (m : Out (List ℕ)) → Unpacked m → Ok next ≡ packed_step (length l) m
        through (ok vs left) q = cc
        through (refused why) q = absurd (let z : ◌≡◌ {A = ℕ} 0 1 = cc in omega arith)

    accepted : Accepted one l at n next
    accepted = was_accepted one l at n next (λ i. (known i).fits) h bits_step

    pub bits_inside : next.at ≤ length l
    bits_inside = rw accepted.ends accepted.inside

    abbrev bits : List ℕ
    bits = digits_at one (drop at l) 0 n

    bits_row : mid ≡ map (of_pair lower higher) bits ++ drop n row
    bits_row = let q : Unpacked (ok bits (drop next.at l)) = rw accepted.reads at was_unpacked in cc

    pub bits_listed : (r : Result Cursor Refusal) (new : List ℕ) → list_left r new ≡ listed (OffPair lower higher) n l next.at mid
        → wiped n (list_left r new) ≡ stored (length l) n row (pair_categories lower higher n l at)
    unfolding pair_categories
    bits_listed r new d =
        let first : List ℕ = map (of_pair lower higher) bits in
        let k : length first ≡ n = length-map bits (of_pair lower higher) ∙ digits_length one (drop at l) 0 n in
        let t : take n mid ≡ first = rw bits_row (take_at first (drop n row) n k) in
        let f : drop n mid ≡ drop n row = rw bits_row (rest_of n first row k) in
        rw accepted.reads (list_stored l next.at n (OffPair lower higher) row mid first t f (list_left r new) d)

-- a row that was lent still holds n bytes
pub still_holds : (n : ℕ) (row mid : List ℕ) → length mid ≡ length row → n ≤ length row → n ≤ length mid
still_holds n row mid e h = omega arith

pub ruleset list_laws = (sparse_stored, bits_refused, bits_inside, bits_listed, still_holds)
