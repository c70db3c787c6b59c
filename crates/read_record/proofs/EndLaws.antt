-- What follows the main track of a record: its phase track, if it has one, and nothing after it.
-- Assumes nothing.
use Rattle.std.specs.Prelude.{Result, Ok, ⊤}
use mathlib.Core.Path.{◌≡◌, refl, sym, ap, ◌∙◌}
use Prim.Native.Nat.{ℕ, suc, ◌+◌, ◌-◌, ◌≤◌}
use native.Mathlib.Omega.{arith}
use mathlib.Core.Bool.{Bool, true, false}
use mathlib.Core.List.{List, [], ◌∷◌, ◌++◌}
use lib.ListN.{get_or, length, take, drop, length-append, length-drop}
use lib.Seq.{drop_at, drop-drop, length-take-le}
use mir.Syntax.{w8}
use mir.Val.{Fits as Bounded}
use borrow.Author.Tests.{lt-ltb, le-ltb}
use Rattle.format.specs.declared.Refusal.{Refusal}
use Rattle.format.specs.Base.{Out, ok, refused, bind, map_out}
use Rattle.format.specs.Limits.{most_samples}
use Rattle.format.specs.Phase.{heterozygous_count, PhaseTrack, read_phase_track, Phases, no_phases, phased, phases_bytes, read_phases}
use Rattle.format.specs.Track.{Track, track_bytes}
use Rattle.format.specs.Body.{type_phased, track_heterozygous, ended, read_after}
use Rattle.format.proofs.Rules.{Holds, weaken, below_drop}
use Rattle.format.proofs.TrackLaws.{IsTrack}
use Rattle.format.proofs.PhaseLaws.{IsPhases, phases_as_written, heterozygous_count_most}
use Rattle.base_cursor.specs.declared.Cursor.{Cursor}
use Rattle.base_cursor.specs.Steps.{cursor_at}
use Rattle.base_cursor.proofs.ByteLaws.{bytes_of}
use Rattle.read_phase.specs.Phases.{phases_step, phases_at}
use Rattle.read_list.specs.Checked.{stepped}
use Rattle.read_record.specs.Recorded.{replied, whole_record, end_replied, end_checked}

-- the cursor past what was read does not depend on what it is made into
pub stepped_map : {A B : Type 0} (end : ℕ) (f : A → B) (m : Out A) → stepped end (map_out f m) ≡ stepped end m
stepped_map end f (ok a left) = refl
stepped_map end f (refused why) = refl

-- ---- what follows the main track

-- a list's end, and where it stands
pub rest_place : (l : List ℕ) (start : ℕ) (x left : List ℕ) → start ≤ length l → drop start l ≡ x ++ left
    → (length left ≤ length l) × (drop (length l - length left) l ≡ left)
rest_place l start x left a e =
    let n : length l - start ≡ length x + length left = sym (length-drop start l) ∙ ap length e ∙ length-append x left in
    let q : length l - length left ≡ start + length x = omega (arith, n) in
    (omega (arith, n), rw q (sym (drop-drop (length x) start l) ∙ ap (drop (length x)) e ∙ drop_at x left (length x) refl))

module _ (l : List ℕ) where
  -- 13, by the cursor past the last track: what is left is no longer than the record
  ends_as : (m : Out Phases) → Holds (λ (p : Phases) (left : List ℕ). length left ≤ length l) m
      → whole_record (length l) (stepped (length l) m) ≡ end_replied (length l) m
  unfolding whole_record end_replied
  ends_as (refused why) w = refl
  ends_as (ok p []) w = simp (le-ltb (length l - 0) (length l) (omega arith))
  ends_as (ok p (b ∷ left)) w = simp (lt-ltb (length l - suc (length left)) (length l) (omega (arith, w)))

  module _ (at : ℕ) (known : (i : ℕ) → Bounded w8 (get_or l i 0)) (inside : at ≤ length l) (h : ℕ) where
    phases_within : (has : Bool) → Holds (λ (p : Phases) (left : List ℕ). length left ≤ length l) (read_phases has (length l) h (drop at l))
    phases_within has =
        weaken (IsPhases has h (drop at l)) (λ (p : Phases) (left : List ℕ). length left ≤ length l) (read_phases has (length l) h (drop at l))
        (λ p left w. (rest_place l at (phases_bytes p) left inside w.written).0)
        (phases_as_written has (length l) h (drop at l) (below_drop 256 at l (bytes_of l (λ i. (known i).fits))))

    pub phased_ends : (r : Result Cursor Refusal) → r ≡ stepped (length l) (read_phase_track (length l) h (drop at l))
        → (reply : Result ⊤ Refusal) → reply ≡ whole_record (length l) r → reply ≡ end_checked true h l at
    unfolding end_checked
    phased_ends r e reply d =
        d ∙ ap (whole_record (length l)) (e ∙ sym (stepped_map (length l) phased (read_phase_track (length l) h (drop at l))))
        ∙ ends_as (map_out phased (read_phase_track (length l) h (drop at l))) (phases_within true)

    pub plain_ends : (type : ℕ) (b : Bool) → b ≡ type_phased type → b ≡ false → (reply : Result ⊤ Refusal)
        → reply ≡ whole_record (length l) (Ok (cursor_at at)) → reply ≡ end_checked (type_phased type) h l at
    unfolding end_checked
    plain_ends type b q t reply d =
        rw (← q, t)
        (d ∙ ap (λ (i : ℕ). whole_record (length l) (Ok (cursor_at i))) (sym place) ∙ ends_as (ok no_phases (drop at l)) (phases_within false))
      where
        place : length l - length (drop at l) ≡ at
        place = omega (arith, length-drop at l, inside)

-- ---- the ways out of `past_phases`, `check_phased_end`, `check_end`

module _ (l : List ℕ) (at h : ℕ) (got : Result Cursor Refusal) (told : got ≡ phases_at h l at) where
  abbrev phase_track : Out PhaseTrack
  phase_track = read_phase_track (length l) h (drop at l)

  pub phases_passed : got ≡ stepped (length l) phase_track
  unfolding phases_at
  phases_passed = told ∙ go phase_track
    where
      go : (m : Out PhaseTrack) → phases_step (length l) m ≡ stepped (length l) m
      go (ok t left) = refl
      go (refused why) = refl

-- H is no more than there are samples
pub few_calls : (n : ℕ) (row : List ℕ) (h : ℕ) → n ≤ most_samples → n ≤ length row → h ≡ heterozygous_count (take n row) → h ≤ most_samples
few_calls n row h few long e = omega (arith, e, heterozygous_count_most (take n row), length-take-le n row long)

pub by_type : (l : List ℕ) (at n : ℕ) (row : List ℕ) (type : ℕ) (b : Bool) → b ≡ type_phased type → b ≡ true
    → (h : ℕ) → h ≡ heterozygous_count (take n row) → (reply : Result ⊤ Refusal) → reply ≡ end_checked true h l at
    → reply ≡ end_checked (type_phased type) (heterozygous_count (take n row)) l at
by_type l at n row type b q t h e reply d = rw (← q, t, ← e) d

pub ruleset end_laws = (phased_ends, plain_ends, phases_passed, few_calls, by_type)

-- ---- joined to the format's reading

-- what follows a main track that was read, as the whole record is read
pub after_ends : (l : List ℕ) (start n : ℕ) (anchor : List ℕ) (type number : ℕ) (t : Track) (left : List ℕ) → start ≤ length l
    → IsTrack n anchor number (drop start l) t left
    → replied (read_after (length l) n anchor type t left) ≡ end_checked (type_phased type) (track_heterozygous n anchor t) l (length l - length left)
unfolding end_checked end_replied
after_ends l start n anchor type number t left a w =
    through (read_phases (type_phased type) (length l) (track_heterozygous n anchor t) left)
    ∙ ap (λ (bs : List ℕ). end_replied (length l) (read_phases (type_phased type) (length l) (track_heterozygous n anchor t) bs))
    (sym (rest_place l start (track_bytes n t) left a w.written).1)
  where
    through : (m : Out Phases) → replied (bind m (λ p left₁. ended (length l) (record { main = t; phases = p }) left₁)) ≡ end_replied (length l) m
    through (refused why) = refl
    through (ok p []) = refl
    through (ok p (b ∷ left₁)) = refl
