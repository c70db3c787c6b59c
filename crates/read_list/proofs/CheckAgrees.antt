-- A list only checked is answered as one that is put into a row, and so as the format reads it.
-- Assumes nothing.
use Rattle.std.specs.Prelude.{Result, Ok, Err}
use Rattle.base_cursor.specs.declared.Cursor.{Cursor}
use Rattle.format.specs.declared.Refusal.{Refusal}
use mathlib.Core.Path.{◌≡◌, refl, sym, ap, ◌∙◌}
use Prim.Native.Nat.{ℕ, zero, suc, ◌≤◌, ◌<◌}
use native.Mathlib.Omega.{arith}
use mathlib.Core.Bool.{Bool, true, false}
use mathlib.Core.List.{List, []}
use lib.ListN.{get_or, length, set, take, replicate, get_or-replicate}
use lib.Seq.{get_or-set_other}
use lib.Dec.{eqb}
use Rattle.format.specs.Base.{pick, Out, ok, refused}
use Rattle.format.specs.Difflist.{Entry}
use Rattle.base_cursor.specs.Steps.{varint_at}
use Rattle.read_list.specs.Entries.{value_at, allows, Against, next_sample, bump, put_value, go_on, put_entries, ListLeft, list_left}
use Rattle.read_list.specs.Entries.{check_value, on_to, check_entries}
use Rattle.read_list.specs.Parts.{count_of, lay_out, laid_out, counted_out, put_parts, check_parts}
use Rattle.read_list.specs.Listed.{list_at}
use Rattle.read_list.specs.Checked.{stepped, checked}
use Rattle.read_list.specs.declared.ListRule.{ListRule}
use Rattle.read_list.specs.declared.ListRule.TheVariants.{OffPair, OffRow}
use Rattle.read_list.specs.declared.State.{State}
use Rattle.read_list.proofs.NumberLaws.{Known}
use Rattle.read_list.proofs.SampleLaws.{Below, sample_below}
use Rattle.read_list.proofs.WholeLaws.{check_parts_laws}
use Rattle.read_list.proofs.EntriesAgree.{applied, cleared}
use Rattle.read_list.proofs.ListAgrees.{list_agrees}
use Rattle.read_list.proofs.Agrees.{against}

abbrev reply_of : ListLeft → Result Cursor Refusal
reply_of (list_left r row) = r

module _ (l : List ℕ) (n : ℕ) (held : ListRule) (row : List ℕ) where
  -- samples rise, so what is put changes nothing that is still asked: the rule sees no difference between `work` and the row at a sample above the last
  abbrev Alike : State → List ℕ → Type 0
  Alike st work = (s v : ℕ) → ((st.passed ≡ 0 → ⊥) → st.last < s) → allows held (get_or work s 0) v ≡ allows held (get_or row s 0) v

  after : (st t : State) (work : List ℕ) (v : ℕ) → Alike st work → Below l n st t → Alike (bump t) (set work t.last v)
  after st t work v alike b s u above =
      let higher : t.last < s = above (λ z. omega arith) in
      rw (get_or-set_other work t.last s v 0 (λ e. omega arith)) (alike s u (λ k. omega (arith, b.above k)))

  module _ (vals : ℕ) where
    abbrev puts : ℕ → List ℕ → Result State Refusal → Result Cursor Refusal
    puts more work x = reply_of (go_on (put_value l vals held x work) (λ t w. put_entries more l n vals held t w))

    abbrev looks : ℕ → Result State Refusal → Result Cursor Refusal
    looks more x = on_to (check_value l vals held x row) (λ t. check_entries more l n vals held t row)

    abbrev Later : ℕ → Type 0
    Later more = (t : State) (w : List ℕ) → Alike t w → check_entries more l n vals held t row ≡ reply_of (put_entries more l n vals held t w)

    entries_alike : (more : ℕ) (st : State) (work : List ℕ) → Alike st work
        → check_entries more l n vals held st row ≡ reply_of (put_entries more l n vals held st work)
    unfolding check_entries put_entries check_value put_value
    entries_alike zero st work alike = refl
    entries_alike (suc more) st work alike = through (next_sample l n st) refl (λ t w a. entries_alike more t w a)
      where
        decided : (t : State) → Below l n st t → Later more → (b : Bool) → allows held (get_or row t.last 0) (value_at l vals t.passed) ≡ b
            → looks more (Ok t) ≡ puts more work (Ok t)
        decided t w later true e =
            let f : allows held (get_or work t.last 0) (value_at l vals t.passed) ≡ true = alike t.last _ w.above ∙ e in
            simp (e, f) (later (bump t) (set work t.last (value_at l vals t.passed)) (after st t work _ alike w))
        decided t w later false e =
            let f : allows held (get_or work t.last 0) (value_at l vals t.passed) ≡ false = alike t.last _ w.above ∙ e in
            simp (e, f)

        through : (x : Result State Refusal) → x ≡ next_sample l n st → Later more → looks more x ≡ puts more work x
        through (Err why) e later = refl
        through (Ok t) e later = decided t (sample_below l n st (Ok t) t e refl) later _ refl

  -- the whole list
  parts_alike : (at : ℕ) (work : List ℕ) → ((st : State) → Alike st work) → check_parts held n l at row ≡ reply_of (put_parts held n l at work)
  unfolding check_parts put_parts
  parts_alike at work alike = by_count (count_of (varint_at l at) n at)
    where
      by_parts : (m : ℕ) (d : Result (ℕ × State) Refusal) → laid_out (λ r. r) (λ vals st. check_entries m l n vals held st row) d
          ≡ reply_of (laid_out (λ r. list_left r work) (λ vals st. put_entries m l n vals held st work) d)
      by_parts m (Err why) = refl
      by_parts m (Ok (vals, st)) = entries_alike vals m st work (alike st)

      by_none : (b : Bool) (r x : Result Cursor Refusal) (y : ListLeft) → x ≡ reply_of y → pick b r x ≡ reply_of (pick b (list_left r work) y)
      by_none true r x y e = refl
      by_none false r x y e = e

      by_count : (c : Result (ℕ × Cursor) Refusal) → counted_out (λ r. r) (λ m vals st. check_entries m l n vals held st row) l n c
          ≡ reply_of (counted_out (λ r. list_left r work) (λ m vals st. put_entries m l n vals held st work) l n c)
      by_count (Err why) = refl
      by_count (Ok (m, c)) = by_none (eqb m 0) _ _ _ (by_parts m (lay_out l n m c.at))

-- what is cleared and what is applied have the same reply
cleared_reply : (n : ℕ) (o : ListLeft) → reply_of (cleared n o) ≡ reply_of o
cleared_reply n (list_left (Ok c) row) = refl
cleared_reply n (list_left (Err why) row) = refl

applied_reply : (end n : ℕ) (row : List ℕ) (m : Out (List Entry)) → reply_of (applied end n row m) ≡ stepped end m
applied_reply end n row (ok es left) = refl
applied_reply end n row (refused why) = refl

module _ (l : List ℕ) (at n : ℕ) (y : (i : ℕ) → get_or l i 0 < 256) (a : at ≤ length l) where
  -- over any `work` that the rule cannot tell from what the list is against
  by_put : (held : ListRule) (row work : List ℕ) → ((st : State) → Alike l n held row st work)
      → cleared n (put_parts held n l at work) ≡ applied (length l) n work (list_at held n l at row) → check_parts held n l at row ≡ checked held n l at row
  unfolding checked
  by_put held row work alike same =
      parts_alike l n held row at work alike ∙ sym (cleared_reply n (put_parts held n l at work)) ∙ ap reply_of same
      ∙ applied_reply (length l) n work (list_at held n l at row)

  -- off a pair no row is asked, so none will do, which is as one that holds zeros
  pub check_agrees : (held : ListRule) (row : List ℕ) → Against held n row → check_parts held n l at row ≡ checked held n l at row
  check_agrees (OffPair lower higher) row h =
      by_put (OffPair lower higher) row [] (λ st s v k. refl)
      (list_agrees l y n (OffPair lower higher) (replicate n 0) [] (λ j i. sym (get_or-replicate n j 0 1 i)) at a)
  check_agrees OffRow row h = by_put OffRow row row (λ st s v k. refl) (list_agrees l y n OffRow (take n row) row (against n row h) at a)

-- the ways out of `check_list`
pub check_listed : (l : List ℕ) (at n : ℕ) (held : ListRule) (row : List ℕ) → Known l → at ≤ length l → Against held n row
    → (r : Result Cursor Refusal) → r ≡ check_parts held n l at row → r ≡ checked held n l at row
check_listed l at n held row known a h r e = e ∙ check_agrees l at n (λ i. (known i).fits) a held row h

pub ruleset check_list_laws = (check_listed, check_parts_laws)
