-- What each way out of the functions of the code says, from what they were told.
-- Assumes nothing.
use Rattle.std.specs.Prelude.{Result, Ok, Err}
use mathlib.Core.Path.{◌≡◌, refl, sym, ◌∙◌}
use Prim.Native.Nat.{ℕ, ◌≤◌}
use mathlib.Core.Bool.{Bool, true, false}
use mathlib.Core.List.{List, ◌++◌}
use lib.ListN.{length, take, drop, replicate, length-replicate, take-append-drop}
use lib.Seq.{take_at, drop_at, length-take-le}
use Rattle.format.specs.declared.Refusal.{Refusal}
use Rattle.format.specs.Base.{Out, ok, refused, map_out}
use Rattle.format.specs.Category.{exchange_all}
use Rattle.format.specs.Packed.{two, read_packed}
use Rattle.format.specs.Difflist.{Entry, number_width, read_list}
use Rattle.format.specs.declared.Kind.TheVariants.{Array, AgainstAnchor}
use Rattle.format.specs.Track.{plain, leaning, rule, off_anchor, apply, read_listed, read_kind, track_categories}
use Rattle.format.proofs.CategoryLaws.{exchange_all_none, exchange_all_length}
use Rattle.format.specs.Reply.{emptied}
use Rattle.format.proofs.RowLaws.{apply_length}
use Rattle.read_packed.specs.Unpacked.{unpacked, unpacked_two, unpack_left}
use Rattle.read_list.specs.Entries.{list_left}
use Rattle.read_list.specs.Listed.{list_replied, listed}
use Rattle.read_list.specs.declared.ListRule.TheVariants.{OffRow}
use Rattle.base_cursor.specs.declared.Cursor.{Cursor}
use Rattle.base_cursor.specs.Steps.{before}
use Rattle.read_record.specs.Rows.{wiped, stored, kind_categories, tracked, turned}

-- a row whose first part is replaced by as many bytes keeps the rest
pub rest_of : (n : ℕ) (first row : List ℕ) → length first ≡ n → drop n (first ++ drop n row) ≡ drop n row
rest_of n first row e = drop_at first (drop n row) n e

pub zero_rest : (n : ℕ) (row : List ℕ) → drop n (replicate n 0 ++ drop n row) ≡ drop n row
zero_rest n row = rest_of n (replicate n 0) row (length-replicate n 0)

-- ---- kind 0

module _ (l : List ℕ) (start n : ℕ) (row new : List ℕ) (r : Result Cursor Refusal) (told : unpack_left r new ≡ unpacked_two n l start row) where
  abbrev packed : Out (List ℕ)
  packed = read_packed (length l) two n (drop start l)

  array_through : (m : Out (List ℕ)) → map_out (track_categories n (take n row)) (map_out plain m) ≡ m
  array_through (ok vs left) = refl
  array_through (refused why) = refl

  array_is : kind_categories n row Array l start ≡ packed
  unfolding kind_categories read_kind
  array_is = array_through packed

  abbrev Unpacked : Out (List ℕ) → Type 0
  Unpacked m = unpack_left r new ≡ unpacked (length l) (λ vs. vs) n row m

  was_unpacked : Unpacked packed
  unfolding unpacked_two
  was_unpacked = told

  pub array_left : wiped n (list_left r new) ≡ tracked Array n l start row
  array_left = rw array_is (through packed was_unpacked)
    where
      through : (m : Out (List ℕ)) → Unpacked m → wiped n (list_left r new) ≡ stored (length l) n row m
      through (ok vs left) q =
          let e : r ≡ Ok (before (length l) left) = cc in
          let f : new ≡ vs ++ drop n row = cc in
          rw (e, f)
      through (refused why) q =
          let e : r ≡ Err why = cc in
          let f : new ≡ row = cc in
          rw (e, f)

pub ruleset array_laws = (array_left)

-- ---- kinds 2 and 3

module _ (l : List ℕ) (start n : ℕ) (inverted : Bool) (row : List ℕ) (h : n ≤ length row) (r : Result Cursor Refusal) (mid : List ℕ)
    (told : list_left r mid ≡ listed OffRow n l start row) where
  abbrev read : Out (List Entry)
  read = read_list (rule n (off_anchor (take n row))) (number_width n) (length l) (drop start l)

  abbrev categories : List Entry → List ℕ
  categories es = exchange_all inverted (apply es (take n row))

  leaning_through : (m : Out (List Entry)) → map_out (track_categories n (take n row)) (map_out (leaning inverted) m) ≡ map_out categories m
  leaning_through (ok es left) = refl
  leaning_through (refused why) = refl

  leaning_is : kind_categories n row (AgainstAnchor inverted) l start ≡ map_out categories read
  unfolding kind_categories read_kind read_listed
  leaning_is = leaning_through read

  applied_length : (es : List Entry) → length (apply es (take n row)) ≡ n
  applied_length es = apply_length es (take n row) ∙ length-take-le n row h

  abbrev Told : Out (List Entry) → Type 0
  Told m = list_left r mid ≡ list_replied (length l) n row m

  was_told : Told read
  unfolding listed
  was_told = told

  -- the row that the list was put into, exchanged if the kind is inverted
  pub leaning_turned : (new : List ℕ) → new ≡ turned inverted n mid → wiped n (list_left r new) ≡ tracked (AgainstAnchor inverted) n l start row
  leaning_turned new g = rw leaning_is (through read was_told)
    where
      cleared_rest : mid ≡ emptied n row → drop n (turned inverted n mid) ≡ drop n row
      cleared_rest e =
          let t : take n mid ≡ replicate n 0 = rw e (take_at (replicate n 0) (drop n row) n (length-replicate n 0)) in
          let k : length (exchange_all inverted (take n mid)) ≡ n = rw t (exchange_all_length inverted (replicate n 0) ∙ length-replicate n 0) in
          rest_of n (exchange_all inverted (take n mid)) mid k ∙ rw e (zero_rest n row)

      through : (m : Out (List Entry)) → Told m → wiped n (list_left r new) ≡ stored (length l) n row (map_out categories m)
      through (ok es left) p =
          let q : r ≡ Ok (before (length l) left) = cc in
          let e : mid ≡ apply es (take n row) ++ drop n row = cc in
          let t : take n mid ≡ apply es (take n row) = rw e (take_at (apply es (take n row)) (drop n row) n (applied_length es)) in
          let d : drop n mid ≡ drop n row = rw e (rest_of n (apply es (take n row)) row (applied_length es)) in
          rw (q, g, t, d)
      through (refused why) p =
          let q : r ≡ Err why = cc in
          let e : mid ≡ emptied n row = cc in
          rw (q, g, cleared_rest e)

-- the ways out of `exchange_row_if`
module _ (inverted : Bool) (n : ℕ) (row : List ℕ) where
  pub turned_not : inverted ≡ false → row ≡ turned inverted n row
  turned_not e = rw (e, exchange_all_none (take n row)) (sym (take-append-drop n row))

  pub turned_all : inverted ≡ true → (new : List ℕ) → new ≡ exchange_all true (take n row) ++ drop n row → new ≡ turned inverted n row
  turned_all e new g = rw e g

pub ruleset leaning_laws = (leaning_turned, turned_not, turned_all)
