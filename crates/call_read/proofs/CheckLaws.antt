-- What the whole-file check replies and leaves, by what the opening and the records were found to be.
-- Assumes nothing.
use Rattle.std.specs.Prelude.{Result, Ok, Err, ⊤}
use mathlib.Core.Path.{◌≡◌, refl, sym, ap, ◌∙◌}
use Prim.Native.Nat.{ℕ}
use mathlib.Core.List.{List}
use lib.ListN.{length}
use Rattle.format.specs.declared.Fields.{Fields}
use Rattle.format.specs.declared.Refusal.{Refusal}
use Rattle.format.specs.Base.{Out, bind}
use Rattle.format.specs.Limits.{variants_to_a_block}
use Rattle.format.specs.Layout.{Layout}
use Rattle.format.specs.File.{read_all}
use Rattle.format.specs.Reply.{Checked, summary, refusal_of, work_after, samples_of, holds_row, checked, check_left, check_call}
use Rattle.call_open.specs.Open.{open_out, Open, Opening}
use Rattle.call_open.proofs.Callers.{shut, ready, through, open_is, open_samples, samples_are}
use Rattle.head_places.proofs.AcceptedLaws.{one_layout}
use Rattle.read_file.specs.Rows.{HasRow, RecordsChecked}
use Rattle.read_file.proofs.Replies.{checked_row, checked_accepted, checked_refused}

abbrev check_from : ℕ → List ℕ → Out Layout → Checked
check_from N work m = record { reply = summary m; work = work_after N (refusal_of m) work }

module _ (file work : List ℕ) (r : Result Fields Refusal) (e : Opening file (length work) r) where
  -- the reply, by what was opened
  checks : (m : Out Layout) → open_out variants_to_a_block file (length work) ≡ m
      → check_from (samples_of variants_to_a_block file) work (bind m (λ l left. checked variants_to_a_block l)) ≡ check_call variants_to_a_block file work
  unfolding check_call
  checks m s =
      ap (check_from (samples_of variants_to_a_block file) work)
      (sym (through file (length work) (holds_row work) (λ l. refl) (checked variants_to_a_block)
      ∙ ap (λ (m : Out Layout). bind m (λ l left. checked variants_to_a_block l)) s))

  -- 1 to 10
  pub check_shut : (why : Refusal) → r ≡ Err why → check_left (Err why) work ≡ check_call variants_to_a_block file work
  check_shut why q = let s = shut file (length work) r why e q in simp s.keeps at (checks _ s.is)

  module _ (f : Fields) (q : r ≡ Ok f) where
    o : Open file (length work) f
    o = ready file (length work) r f e q

    pub has_row : HasRow file file f work
    has_row = record { has = record { layout = o.layout; stored = o.stored; fields_are = o.fields_are }; room = o.room }

    calls : check_from f.samples work (checked variants_to_a_block o.layout) ≡ check_call variants_to_a_block file work
    calls = rw (samples_are file (length work) f o, ← open_samples file (length work) f o) at (checks _ (open_is file (length work) f o))

    module _ (got : Result ⊤ Refusal) (work₁ : List ℕ) (d : RecordsChecked file file f work got work₁) where
      -- what was checked is the layout that was opened
      same_layout : read_all variants_to_a_block o.layout ≡ read_all variants_to_a_block d.has.layout
      same_layout = ap (read_all variants_to_a_block) (sym (one_layout o.stored d.has))

      -- 12 to 18 and 23 to 25
      pub check_refused : (why : Refusal) → got ≡ Err why → check_left (Err why) work₁ ≡ check_call variants_to_a_block file work
      check_refused why s =
          let x = checked_refused d o.bytes why s in
          rw (checked_row d) (rw (same_layout ∙ x.is, x.clears) at calls)

      pub check_accepted : got ≡ Ok tt → check_left (Ok f) work₁ ≡ check_call variants_to_a_block file work
      check_accepted s =
          ap (λ (z : Fields). check_left (Ok z) work₁) o.fields_are
          ∙ rw (checked_row d) (rw (same_layout ∙ (checked_accepted d s).is) at calls)

pub ruleset check_laws = (check_shut, has_row, check_refused, check_accepted)
