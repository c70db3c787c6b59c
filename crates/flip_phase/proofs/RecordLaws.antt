-- A record that stands at a place: where its phase track stands, and that turning it flips the record's phases.
-- Assumes nothing.
use mathlib.Core.Path.{◌≡◌, refl, sym, ap, ◌∙◌, subst}
use Prim.Native.Nat.{ℕ, ◌+◌, ◌-◌, ◌≤◌}
use native.Mathlib.Omega.{arith}
use mathlib.Core.Bool.{Bool, true, false}
use mathlib.Core.List.{List, ◌++◌, append_assoc}
use lib.ListN.{length, take, drop, length-append, length-take}
use lib.Seq.{take_at, drop_at}
use Rattle.format.specs.Limits.{most_samples}
use Rattle.format.specs.Track.{track_bytes}
use Rattle.format.specs.Phase.{PhaseTrack, PhasesFit, PhasesObey, Phases, no_phases, phased, has_phases, phases_bytes}
use Rattle.format.specs.Phase.{phase_track_bytes, flip_phase_track}
use Rattle.format.specs.Body.{type_leans, type_phased, body_leans, body_bytes, track_heterozygous}
use Rattle.format.proofs.BodyLaws.{body_leans_typed, body_phased}
use Rattle.head_places.specs.declared.Place.{Place}
use Rattle.flip_phase.specs.Turned.{TrackThere, track_turned}
use Rattle.flip_phase.specs.OneRecord.{RecordThere}
use Rattle.flip_phase.proofs.TrackLaws.{track_flips}

module _ {n : ℕ} {p : Place} {row file : List ℕ} (w : RecordThere n p row file) where
  abbrev main_bytes : List ℕ
  main_bytes = track_bytes n w.body.main

  -- ---- the file cut where the record ends

  pub record_inside : p.end ≤ length file
  record_inside =
      omega (
        arith,
        ap length w.is,
        length-append w.before (body_bytes n w.body ++ w.after),
        length-append (body_bytes n w.body) w.after,
        w.start_is,
        w.end_is,
      )

  cut_is : take p.end file ≡ w.before ++ body_bytes n w.body
  cut_is =
      ap (take p.end) (w.is ∙ sym (append_assoc w.before (body_bytes n w.body) w.after))
      ∙ take_at (w.before ++ body_bytes n w.body) w.after p.end
      (length-append w.before (body_bytes n w.body) ∙ omega (arith, w.start_is, w.end_is))

  pub cut_end : p.end ≡ length (take p.end file)
  cut_end = omega (arith, length-take p.end file, record_inside)

  pub cut_start : p.start ≤ length (take p.end file)
  cut_start = omega (arith, ap length cut_is, length-append w.before (body_bytes n w.body), w.start_is)

  pub body_there : drop p.start (take p.end file) ≡ main_bytes ++ phases_bytes w.body.phases
  body_there = ap (drop p.start) cut_is ∙ drop_at w.before (body_bytes n w.body) p.start w.start_is

  -- where the main track ends
  pub main_ends : length (take p.end file) - length (phases_bytes w.body.phases) ≡ p.start + length main_bytes
  main_ends =
      omega (
        arith,
        ap length cut_is,
        length-append w.before (body_bytes n w.body),
        length-append main_bytes (phases_bytes w.body.phases),
        w.start_is,
      )

  -- ---- its phase track

  -- it has one where its type says so
  pub record Phased : Type 0 where
    pub track : PhaseTrack
    pub are : w.body.phases ≡ phased track

  pub is_phased : type_phased p.record_type ≡ true → Phased
  is_phased e = go w.body.phases refl (sym (body_phased n (take n row) w.body w.fits) ∙ sym (ap type_phased w.type_is) ∙ e)
    where
      go : (q : Phases) → w.body.phases ≡ q → has_phases w.body.phases ≡ true → Phased
      go no_phases a b = let z : ◌≡◌ {A = Bool} false true = sym (ap has_phases a) ∙ b in let y : ◌≡◌ {A = ℕ} 0 1 = cc in absurd (omega arith)
      go (phased t) a b = record { track = t; are = a }

  -- a row of n samples has at most n heterozygous
  pub leans_is : type_leans p.record_type ≡ body_leans w.body
  leans_is = ap type_leans w.type_is ∙ body_leans_typed n (take n row) w.body w.fits

  module _ (x : Phased) (h at : ℕ) (few : h ≤ most_samples) (e : h ≡ track_heterozygous n (take n row) w.body.main)
      (d : at ≡ p.start + length main_bytes) where
    abbrev pub track_there : TrackThere h at file
    track_there = record {
      few = few;
      before = w.before ++ main_bytes;
      track = x.track;
      after = w.after;
      fits = subst (λ (k : ℕ). PhasesFit k x.track) (sym e)
          (subst (λ (q : Phases). PhasesObey (track_heterozygous n (take n row) w.body.main) q) x.are w.fits.1);
      at_is = length-append w.before main_bytes ∙ omega (arith, w.start_is, d);
      is = w.is ∙ ap (λ (q : Phases). w.before ++ ((main_bytes ++ phases_bytes q) ++ w.after)) x.are ∙ (simp append_assoc);
    }

    pub record_turns : track_turned h at file ≡ w.before ++ ((main_bytes ++ phase_track_bytes (flip_phase_track true x.track)) ++ w.after)
    record_turns =
        let new : List ℕ = phase_track_bytes (flip_phase_track true x.track) in
        track_flips track_there
        ∙ append_assoc w.before main_bytes (new ++ w.after)
        ∙ ap (◌++◌ w.before) (sym (append_assoc main_bytes new w.after))
