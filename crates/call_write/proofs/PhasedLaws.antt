-- The call `write_phased_record`: its checks, its measure and its bytes, those of the main track and then those of the phase track, are the format's own.
-- Assumes nothing.
use Rattle.std.specs.Prelude.{Result, Ok, Err}
use mathlib.Core.Path.{◌≡◌, sym, ap, ◌∙◌, subst}
use Prim.Native.Nat.{ℕ, suc, ◌+◌, ◌≤◌, ◌<◌}
use native.Mathlib.Omega.{arith}
use mathlib.Core.List.{List, [], ◌∷◌, ◌++◌}
use lib.ListN.{length, length-append}
use lib.Dec.{eqb}
use mir.Syntax.{w64}
use mir.Val.{Fits}
use borrow.Author.Tests.{eqb-true}
use Rattle.format.specs.declared.Kind.{Kind}
use Rattle.format.specs.declared.Refusal.{Refusal}
use Rattle.format.specs.Base.{Out, ok, refusal, bind, need}
use Rattle.format.specs.Limits.{most_samples}
use Rattle.format.specs.Phase.{first_of, rest_of, phase_track_bytes}
use Rattle.format.specs.Track.{kind}
use Rattle.format.specs.Writer.{need_categories, within, phase_allowed, need_phases, phases_for, write_phased}
use Rattle.format.specs.Reply.{write_left, write_phased_call}
use Rattle.format.proofs.Rules.{Holds, by_need, by_bind, need_then}
use Rattle.write_list.specs.declared.ListSize.{ListSize}
use Rattle.write_bytes.specs.Written.{Wrote}
use Rattle.write_bytes.proofs.WrittenLaws.{wrote_both, wrote_length}
use Rattle.write_phase.specs.Calls.{TrackSizeOf}
use Rattle.write_phase.specs.declared.TrackSize.{TrackSize}
use Rattle.call_write.specs.Asked.{asked_bytes, AskedFits, RecordSize}
use Rattle.call_write.specs.Checked.{check_categories, check_phases, kind_out, phased_checks, phased_out, as_checked}
use Rattle.call_write.specs.declared.Asked.{Asked}
use Rattle.call_write.proofs.CheckLaws.{stopped, passed_as}
use Rattle.call_write.proofs.PhasedCheckLaws.{phases_bind}
use Rattle.call_write.proofs.SizeLaws.{record_most}
use Rattle.call_write.proofs.ReplyLaws.{bind_alike, bind_bind, categories_then, kind_then, KindFits, kind_fits, Passed, categories_fit}
use Rattle.call_write.proofs.ReplyLaws.{bytes_fit, reply_refused, reply_short, reply_written}

-- ---- 22

by_phases : {A : Type 0} (Q : A → List ℕ → Type 0) (i : ℕ) (categories phases : List ℕ) (next : Out A) → Holds Q next
    → Holds Q (need_phases i categories phases next)
unfolding need_phases
by_phases Q i [] phases next h = h
by_phases Q i (c ∷ categories) phases next h =
    by_need Q (phase_allowed c (first_of phases)) _ _ _ (λ t. by_phases Q (suc i) categories (rest_of phases) next h)

-- ---- the format's writer is the checks, then both tracks if there is room

module _ (categories phases : List ℕ) where
  abbrev pub track : List ℕ
  track = phase_track_bytes (phases_for categories phases)

  -- the phases' length, 20 and 22, then what comes next
  checks_then : {B : Type 0} (a : Asked) (anchor : List ℕ) (g : Asked → List ℕ → Out B)
      → need (eqb (length phases) (length categories)) 10 0
      (need_categories 0 categories (need_categories 0 anchor (need_phases 0 categories phases (g a []))))
      ≡ bind
      (need (eqb (length phases) (length categories)) 10 0 (bind (check_categories a categories anchor) (λ b left. check_phases b categories phases)))
      g
  checks_then a anchor g =
      ap (need (eqb (length phases) (length categories)) 10 0)
      (ap (λ m. need_categories 0 categories (need_categories 0 anchor m)) (sym (phases_bind 0 categories phases (ok a []) g))
      ∙ categories_then a categories anchor (λ b left. bind (check_phases b categories phases) g)
      ∙ sym (bind_bind (check_categories a categories anchor) (λ b left. check_phases b categories phases) g))
      ∙ sym (need_then (eqb (length phases) (length categories)) 10 0 _ g)

-- a record that passed the checks
pub record PhasedPassed (categories phases anchor : List ℕ) (a : Asked) (left : List ℕ) : Type 0 where
  pub main : Passed categories anchor a left
  pub each : length phases ≡ length categories

module _ (categories phases : List ℕ) (number code : ℕ) (anchor : List ℕ) where
  abbrev checks : Out Asked
  checks = phased_out categories phases number code anchor

  pub phased_is : (room : ℕ) → write_phased categories phases number code anchor room
      ≡ bind (phased_out categories phases number code anchor) (λ a left. within room (asked_bytes a anchor categories ++ track categories phases))
  unfolding write_phased phased_checks
  phased_is room =
      kind_then categories number code anchor
      (λ (bytes : List ℕ).
      need (eqb (length phases) (length categories)) 10 0
      (need_categories 0 categories (need_categories 0 anchor (need_phases 0 categories phases (within room (bytes ++ track categories phases))))))
      ∙ bind_alike (kind_out categories number code anchor) _ _
      (λ a left. checks_then categories phases a anchor (λ b rest. within room (asked_bytes b anchor categories ++ track categories phases)))
      ∙ sym (bind_bind (kind_out categories number code anchor) _ _)

  phased_passes : Holds (PhasedPassed categories phases anchor) (phased_out categories phases number code anchor)
  unfolding phased_checks
  phased_passes =
      by_bind (KindFits categories anchor) _ (kind_out categories number code anchor) _ (kind_fits categories number code anchor) (λ a left k.
      by_need _ (eqb (length phases) (length categories)) _ _ _ (λ same.
      by_bind (Passed categories anchor) _ (check_categories a categories anchor) _ (categories_fit a categories anchor left k) (λ b rest p.
      by_phases _ 0 categories phases _
      (record { main = record { fits = p.fits; some = p.some }; each = eqb-true (length phases) (length categories) same }))))

  -- an accepted record has a byte at least, and fits the output
  pub phased_fits : (room : ℕ)
      → Holds (λ (bytes left : List ℕ). (1 ≤ length bytes) × (length bytes ≤ room)) (write_phased categories phases number code anchor room)
  phased_fits room =
      bytes_fit (PhasedPassed categories phases anchor) checks (λ (a : Asked). asked_bytes a anchor categories ++ track categories phases) room _
      (phased_is room) phased_passes
      (λ a left p. omega (arith, p.main.some, length-append (asked_bytes a anchor categories) (track categories phases)))

  module _ (k : Kind) (n : k ≡ kind number) (r : Result Asked Refusal) (a : Asked)
      (e : r ≡ as_checked (phased_checks categories phases k code anchor)) (q : r ≡ Ok a) where
    accepted : (left : List ℕ) × (checks ≡ ok a left)
    accepted = passed_as checks a (sym (rw n at e) ∙ q)

    passed : PhasedPassed categories phases anchor a accepted.0
    passed = subst (Holds (PhasedPassed categories phases anchor)) accepted.1 phased_passes

    pub call_fits : AskedFits a anchor categories
    call_fits = passed.main.fits

    pub call_each : length phases ≡ length categories
    call_each = passed.each

    pub call_few : length categories ≤ most_samples
    call_few = passed.main.fits.few

    pub sizes_fit : (size : ListSize) → RecordSize a anchor categories size → (track : TrackSize) → TrackSizeOf categories phases track
        → Fits w64 (size.bytes + track.bytes)
    sizes_fit size s t z = record { fits = omega (arith, s.bytes_are, z.few, record_most a anchor categories call_fits) }

-- ---- the reply

module _ (categories phases : List ℕ) (number code : ℕ) (anchor output : List ℕ) where
  abbrev bytes : Asked → List ℕ
  bytes a = asked_bytes a anchor categories ++ track categories phases

  abbrev out : Out Asked
  out = phased_out categories phases number code anchor

  abbrev is : write_phased categories phases number code anchor (length output) ≡ bind out (λ a left. within (length output) (bytes a))
  is = phased_is categories phases number code anchor (length output)

  module _ (k : Kind) (n : k ≡ kind number) (r : Result Asked Refusal)
      (e : r ≡ as_checked (phased_checks categories phases k code anchor)) where
    answered : r ≡ as_checked out
    answered = rw n at e

    pub call_refused : (why : Refusal) → r ≡ Err why
        → write_left (Err why) output ≡ write_phased_call categories phases number code anchor output
    unfolding write_phased_call
    call_refused why q = reply_refused out bytes output _ is why (stopped out why (sym answered ∙ q))

    module _ (a : Asked) (q : r ≡ Ok a) (size : ListSize) (s : RecordSize a anchor categories size)
        (t : TrackSize) (z : TrackSizeOf categories phases t) where
      allowed_is : (left : List ℕ) × (out ≡ ok a left)
      allowed_is = passed_as out a (sym answered ∙ q)

      sizes : length (bytes a) ≡ size.bytes + t.bytes
      sizes = omega (arith, s.bytes_are, z.bytes_are, length-append (asked_bytes a anchor categories) (track categories phases))

      pub call_short : length output < size.bytes + t.bytes → {why : Refusal} → why ≡ refusal 10 0
          → write_left (Err why) output ≡ write_phased_call categories phases number code anchor output
      unfolding write_phased_call
      call_short h w = rw w (reply_short out bytes output _ is a allowed_is.0 allowed_is.1 (omega (arith, sizes)))

      module _ (h : size.bytes + t.bytes ≤ length output) where
        pub main_room : length (asked_bytes a anchor categories) ≤ length output
        main_room = omega (arith, s.bytes_are)

        module _ (at : ℕ) (mid : List ℕ) (w : Wrote output 0 (asked_bytes a anchor categories) at mid) where
          pub track_room : at + length (phase_track_bytes (phases_for categories phases)) ≤ length mid
          track_room = omega (arith, w.place, wrote_length w, s.bytes_are, z.bytes_are)

          pub call_written : (count : ℕ) (after : List ℕ) → Wrote mid at (phase_track_bytes (phases_for categories phases)) count after
              → write_left (Ok count) after ≡ write_phased_call categories phases number code anchor output
          unfolding write_phased_call
          call_written count after v =
              reply_written out bytes output _ is a allowed_is.0 allowed_is.1 (omega (arith, sizes)) count after (wrote_both w v)

pub ruleset call_laws = (call_fits, call_each, call_few, sizes_fit, call_refused, call_short, main_room, track_room, call_written)
