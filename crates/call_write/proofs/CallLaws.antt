-- The call `write_record`: its checks, its measure and its bytes are the format's own.
-- Assumes nothing.
use Rattle.std.specs.Prelude.{Result, Ok, Err}
use mathlib.Core.Path.{◌≡◌, sym, ◌∙◌, subst}
use Prim.Native.Nat.{ℕ, ◌≤◌, ◌<◌}
use native.Mathlib.Omega.{arith}
use mathlib.Core.List.{List}
use lib.ListN.{length}
use Rattle.format.specs.declared.Kind.{Kind}
use Rattle.format.specs.declared.Refusal.{Refusal}
use Rattle.format.specs.Base.{Out, ok, refusal, bind}
use Rattle.format.specs.Track.{kind}
use Rattle.format.specs.Writer.{need_categories, within, write_record}
use Rattle.format.specs.Reply.{write_left, write_call}
use Rattle.format.proofs.Rules.{Holds, by_bind}
use Rattle.write_list.specs.declared.ListSize.{ListSize}
use Rattle.write_bytes.specs.Written.{Wrote}
use Rattle.call_write.specs.Asked.{asked_bytes, AskedFits, RecordSize}
use Rattle.call_write.specs.Checked.{check_categories, kind_out, record_checks, check_out, as_checked}
use Rattle.call_write.specs.declared.Asked.{Asked}
use Rattle.call_write.proofs.CheckLaws.{stopped, passed_as}
use Rattle.call_write.proofs.ReplyLaws.{bind_alike, bind_bind, categories_then, kind_then, KindFits, kind_fits, Passed, categories_fit}
use Rattle.call_write.proofs.ReplyLaws.{bytes_fit, reply_refused, reply_short, reply_written}

-- ---- the format's writer is the checks, then the record if there is room

module _ (categories : List ℕ) (number code : ℕ) (anchor : List ℕ) where
  pub write_is : (room : ℕ) → write_record categories number code anchor room
      ≡ bind (check_out categories number code anchor) (λ a left. within room (asked_bytes a anchor categories))
  unfolding write_record record_checks
  write_is room =
      kind_then categories number code anchor
      (λ (bytes : List ℕ). need_categories 0 categories (need_categories 0 anchor (within room bytes)))
      ∙ bind_alike (kind_out categories number code anchor) _ _
      (λ a left. categories_then a categories anchor (λ b rest. within room (asked_bytes b anchor categories)))
      ∙ sym (bind_bind (kind_out categories number code anchor) (λ a left. check_categories a categories anchor) _)

  check_fits : Holds (Passed categories anchor) (check_out categories number code anchor)
  unfolding record_checks
  check_fits =
      by_bind (KindFits categories anchor) _ (kind_out categories number code anchor) _ (kind_fits categories number code anchor)
      (λ a left k. categories_fit a categories anchor left k)

  -- an accepted record has a byte at least, and fits the output
  pub write_fits : (room : ℕ) → Holds (λ (bytes left : List ℕ). (1 ≤ length bytes) × (length bytes ≤ room)) (write_record categories number code anchor room)
  write_fits room =
      bytes_fit (Passed categories anchor) (check_out categories number code anchor) (λ (a : Asked). asked_bytes a anchor categories) room _
      (write_is room) check_fits (λ a left p. p.some)

  module _ (k : Kind) (n : k ≡ kind number) (r : Result Asked Refusal) (a : Asked)
      (e : r ≡ as_checked (record_checks categories k code anchor)) (q : r ≡ Ok a) where
    accepted : (left : List ℕ) × (check_out categories number code anchor ≡ ok a left)
    accepted = passed_as (check_out categories number code anchor) a (sym (rw n at e) ∙ q)

    passed : Passed categories anchor a accepted.0
    passed = subst (Holds (Passed categories anchor)) accepted.1 check_fits

    pub call_fits : AskedFits a anchor categories
    call_fits = passed.fits

-- ---- the reply

module _ (categories : List ℕ) (number code : ℕ) (anchor output : List ℕ) where
  abbrev bytes : Asked → List ℕ
  bytes a = asked_bytes a anchor categories

  abbrev checks : Out Asked
  checks = check_out categories number code anchor

  abbrev is : write_record categories number code anchor (length output) ≡ bind checks (λ a left. within (length output) (bytes a))
  is = write_is categories number code anchor (length output)

  module _ (k : Kind) (n : k ≡ kind number) (r : Result Asked Refusal) (e : r ≡ as_checked (record_checks categories k code anchor)) where
    answered : r ≡ as_checked checks
    answered = rw n at e

    pub call_refused : (why : Refusal) → r ≡ Err why → write_left (Err why) output ≡ write_call categories number code anchor output
    unfolding write_call
    call_refused why q = reply_refused checks bytes output _ is why (stopped checks why (sym answered ∙ q))

    module _ (a : Asked) (q : r ≡ Ok a) (size : ListSize) (s : RecordSize a anchor categories size) where
      allowed_is : (left : List ℕ) × (checks ≡ ok a left)
      allowed_is = passed_as checks a (sym answered ∙ q)

      pub call_short : length output < size.bytes → {why : Refusal} → why ≡ refusal 10 0
          → write_left (Err why) output ≡ write_call categories number code anchor output
      unfolding write_call
      call_short h w = rw w (reply_short checks bytes output _ is a allowed_is.0 allowed_is.1 (omega (arith, s.bytes_are)))

      module _ (h : size.bytes ≤ length output) where
        pub call_room : length (asked_bytes a anchor categories) ≤ length output
        call_room = omega (arith, s.bytes_are)

        pub call_written : (count : ℕ) (after : List ℕ) → Wrote output 0 (asked_bytes a anchor categories) count after
            → write_left (Ok count) after ≡ write_call categories number code anchor output
        unfolding write_call
        call_written count after w = reply_written checks bytes output _ is a allowed_is.0 allowed_is.1 call_room count after w

pub ruleset call_laws = (call_fits, call_refused, call_short, call_written)
