-- A track that was accepted before has a list that would be: what `read_bits`, `read_pair`, `read_sparse` and `read_track` owe where they hand on `known`.
-- Assumes nothing.
use Rattle.std.specs.Prelude.{Result, Ok, Err}
use Rattle.format.specs.declared.Refusal.{Refusal}
use mathlib.Core.Path.{◌≡◌, refl, sym, subst}
use Prim.Native.Nat.{ℕ, ◌≤◌}
use mathlib.Core.Bool.{Bool, true}
use mathlib.Core.List.{List, ◌++◌}
use lib.ListN.{get_or, length, take, drop, replicate}
use mir.Syntax.{w8}
use mir.Val.{Fits}
use Rattle.format.specs.Packed.{one, read_packed}
use Rattle.format.specs.declared.Kind.TheVariants.{Paired, AgainstCategory}
use Rattle.format.specs.Track.{read_kind}
use Rattle.format.specs.declared.Pair.{Pair}
use Rattle.base_cursor.specs.declared.Cursor.{Cursor}
use Rattle.read_packed.specs.Unpacked.{unpack_left, unpacked_one}
use Rattle.read_list.specs.Entries.{ListLeft, list_left, Lists}
use Rattle.read_list.specs.Listed.{listed}
use Rattle.read_list.specs.declared.ListRule.TheVariants.{OffPair}
use Rattle.read_record.specs.Rows.{pair_at, wiped, stored, kind_categories, tracked, pair_categories}
use Rattle.read_record.proofs.CodeLaws.{UnderCode, pair_under}
use Rattle.read_record.proofs.ListLaws.{sparse_stored, bits_listed}
use Rattle.read_record.proofs.PairLaws.{bits_through}

lists_wiped : (n : ℕ) (o : ListLeft) → Lists (wiped n o) → Lists o
lists_wiped n (list_left (Ok c) row) h = h
lists_wiped n (list_left (Err why) row) h = h

-- a list in its place, where all that it leaves is known to be some outcome
through : (n : ℕ) (o whole : ListLeft) → wiped n o ≡ whole → Lists whole → Lists o
through n o whole e h = lists_wiped n o (subst Lists (sym e) h)

module _ (l : List ℕ) (start n category : ℕ) (row mid : List ℕ) (filled : mid ≡ replicate n category ++ drop n row) (k : Bool) where
  pub sparse_known : (k ≡ true → Lists (tracked (AgainstCategory category) n l start row)) → k ≡ true
      → Lists (listed (OffPair category category) n l start mid)
  sparse_known h t = go (listed (OffPair category category) n l start mid) refl
    where
      go : (o : ListLeft) → o ≡ listed (OffPair category category) n l start mid → Lists o
      go (list_left r new) e = through n (list_left r new) _ (sparse_stored l start n category row mid filled r new e) (h t)

module _ (l : List ℕ) (at n lower higher : ℕ) (row mid : List ℕ) (got : Result Cursor Refusal)
    (told : unpack_left got mid ≡ unpacked_one lower higher n l at row)
    (next : Cursor) (e : got ≡ Ok next) (known : (i : ℕ) → Fits w8 (get_or l i 0)) (h : at ≤ length l) (k : Bool) where
  pub bits_known : (k ≡ true → Lists (stored (length l) n row (pair_categories lower higher n l at))) → k ≡ true
      → Lists (listed (OffPair lower higher) n l next.at mid)
  bits_known a t = go (listed (OffPair lower higher) n l next.at mid) refl
    where
      go : (o : ListLeft) → o ≡ listed (OffPair lower higher) n l next.at mid → Lists o
      go (list_left r new) d = through n (list_left r new) _ (bits_listed l at n lower higher row mid got told next e known h r new d) (a t)

module _ (l : List ℕ) (start n : ℕ) (row : List ℕ) (got : Result (Pair × Cursor) Refusal) (told : got ≡ pair_at l start) (p : Pair) (next : Cursor)
    (e : got ≡ Ok (p, next)) (k : Bool) where
  pub pair_known : (k ≡ true → Lists (tracked Paired n l start row)) → k ≡ true
      → Lists (stored (length l) n row (pair_categories p.lower p.higher n l next.at))
  unfolding kind_categories pair_categories
  pair_known a t =
      let u : UnderCode l n p next.at (read_kind (length l) n (take n row) Paired (drop start l)) = pair_under l start n (take n row) got told p next e in
      rw u.is (rw (u.reads, bits_through l n row u.code (read_packed (length l) one n (drop next.at l))) at (a t))
