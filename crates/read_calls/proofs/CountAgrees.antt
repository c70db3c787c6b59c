-- A list that is only counted is answered as the format's list is put into a row, and so by the count of what that makes.
-- Assumes nothing.
use Rattle.std.specs.Prelude.{Result, Ok, Err}
use mathlib.Core.Path.{◌≡◌, refl, sym, ap, ◌∙◌}
use Prim.Native.Nat.{ℕ, ◌≤◌}
use native.Mathlib.Omega.{arith}
use mathlib.Core.List.{List}
use lib.ListN.{length, take, drop}
use Rattle.format.specs.declared.Refusal.{Refusal}
use Rattle.format.specs.Base.{Out, ok, refused}
use Rattle.format.specs.Difflist.{Entry, number_width, read_list}
use Rattle.format.specs.Track.{rule}
use Rattle.format.specs.Phase.{heterozygous_count}
use Rattle.base_cursor.specs.Steps.{varint_at}
use Rattle.base_cursor.specs.declared.Cursor.{Cursor}
use Rattle.read_list.specs.Entries.{put_entries, ListLeft, list_left}
use Rattle.read_list.specs.Parts.{count_of, lay_out, put_parts}
use Rattle.read_list.specs.Listed.{may_hold}
use Rattle.read_list.specs.declared.ListRule.{ListRule}
use Rattle.read_list.specs.declared.ListRule.TheVariants.{OffRow}
use Rattle.read_list.specs.declared.State.{State}
use Rattle.read_list.proofs.NumberLaws.{Known}
use Rattle.read_list.proofs.WholeLaws.{put_not, put_none, put_unfit, put_fits, count_inside, count_few, count_some, laid_room}
use Rattle.read_list.proofs.EntriesAgree.{applied, cleared}
use Rattle.read_list.proofs.ListAgrees.{list_agrees}
use Rattle.read_list.proofs.Agrees.{get_d_any}
use Rattle.read_calls.specs.Bases.{base_row}
use Rattle.read_calls.specs.Counted.{count_replied, counted, counted_left}
use Rattle.read_calls.specs.declared.StoredBase.TheVariants.{Row}
use Rattle.read_calls.proofs.BaseLaws.{base_long, row_is}

-- what is cleared after a refusal, and what is applied, are counted alike
cleared_count : (n : ℕ) (o : ListLeft) → counted_left (cleared n o) ≡ counted_left o
unfolding counted_left
cleared_count n (list_left (Ok c) row) = refl
cleared_count n (list_left (Err why) row) = refl

applied_count : (end n : ℕ) (row : List ℕ) (m : Out (List Entry)) → counted_left (applied end n row m) ≡ count_replied end row m
unfolding counted_left
applied_count end n row (ok es left) = refl
applied_count end n row (refused why) = refl

-- `against` is what the list is against: n samples, or more
module _ (l : List ℕ) (at n : ℕ) (held : ListRule) (against : List ℕ) (long : n ≤ length against) (known : Known l) (a : at ≤ length l) where
  abbrev whole : Result (Cursor × ℕ) Refusal
  whole = counted held against n l at

  -- the list by position, put into a row that is what the list is against
  count_agrees : counted_left (put_parts held n l at against) ≡ whole
  unfolding counted
  count_agrees =
      sym (cleared_count n (put_parts held n l at against))
      ∙ ap counted_left
      (list_agrees l (λ i. (known i).fits) n held against against (λ j i. get_d_any against j (omega arith)) at a)
      ∙ applied_count (length l) n against (read_list (rule n (may_hold held against)) (number_width n) (length l) (drop at l))

  -- the ways out of a list that is counted: r is what `read_count` gave, d what `lay_parts` did
  module _ (r : Result (ℕ × Cursor) Refusal) (e : r ≡ count_of (varint_at l at) n at) where
    pub count_not : (why : Refusal) → r ≡ Err why → Err why ≡ whole
    unfolding counted_left
    count_not why q = ap counted_left (put_not l at n held against r e why q) ∙ count_agrees

    module _ (m : ℕ) (c : Cursor) (q : r ≡ Ok (m, c)) where
      pub count_none : m ≡ 0 → (H : ℕ) → H ≡ heterozygous_count against → Ok (c, H) ≡ whole
      unfolding counted_left
      count_none z H g = rw g (ap counted_left (put_none l at n held against r e m c q z) ∙ count_agrees)

      module _ (z : m ≡ 0 → ⊥) (d : Result (ℕ × State) Refusal) (f : d ≡ lay_out l n m c.at) where
        pub count_unfit : (why : Refusal) → d ≡ Err why → Err why ≡ whole
        unfolding counted_left
        count_unfit why p = ap counted_left (put_unfit l at n held against r e m c q z d f why p) ∙ count_agrees

        pub count_fits : (vals : ℕ) (st : State) → d ≡ Ok (vals, st) → (o : Result (Cursor × ℕ) Refusal)
            → o ≡ counted_left (put_entries m l n vals held st against) → o ≡ whole
        count_fits vals st p o g = g ∙ ap counted_left (put_fits l at n held against r e m c q z d f vals st p _ refl) ∙ count_agrees

pub ruleset parts_laws = (count_not, count_none, count_unfit, count_inside, count_few, count_some)

pub ruleset count_list_laws = (parts_laws, base_long, laid_room)

-- ---- the way out of `count_leaning`

module _ (n : ℕ) (l row : List ℕ) (h : n ≤ length row) where
  pub leaning_count : (H : ℕ) → H ≡ heterozygous_count (take n row) → H ≡ heterozygous_count (base_row Row n l row)
  leaning_count H e = rw (row_is n l row h) e

  pub leaning_counted : (at : ℕ) (r : Result (Cursor × ℕ) Refusal) → r ≡ counted OffRow (base_row Row n l row) n l at → r ≡ counted OffRow (take n row) n l at
  leaning_counted at r e = rw (row_is n l row h) at e

pub ruleset leaning_laws = (leaning_count, leaning_counted)
