-- A record whose phases are read too: its tracks into the row, then its phases into the output.
-- Assumes nothing.
use Rattle.std.specs.Prelude.{Result, Ok, Err}
use mathlib.Core.Path.{◌≡◌, refl, sym, ap, ap₂, ◌∙◌}
use Prim.Native.Nat.{ℕ, ◌-◌, ◌≤◌}
use native.Mathlib.Omega.{arith}
use mathlib.Core.Bool.{Bool, true, false}
use mathlib.Core.List.{List, [], ◌∷◌, ◌++◌}
use lib.ListN.{get_or, length, take, drop, replicate, length-append}
use lib.Seq.{take_at, length-take-le}
use mir.Syntax.{w8}
use mir.Val.{Fits as Bounded}
use Rattle.format.specs.declared.Refusal.{Refusal}
use Rattle.format.specs.Base.{pick, Out, ok, refused, bind, map_out}
use Rattle.format.specs.Track.{kind, Track, track_bytes, read_kind, track_categories}
use Rattle.format.specs.Phase.{heterozygous_count, PhaseTrack, read_phase_track, Phases, no_phases, phased, read_phases, phases_over}
use Rattle.format.specs.Body.{kind_of, type_phased, Body, track_heterozygous, ended, read_body}
use Rattle.format.proofs.Rules.{Holds}
use Rattle.format.proofs.TrackLaws.{IsTrack}
use Rattle.base_cursor.specs.declared.Cursor.{Cursor}
use Rattle.read_phase.specs.Phases.{PhasesThere, track_put, phases_put}
use Rattle.read_list.specs.Entries.{list_left}
use Rattle.read_record.specs.Recorded.{after_replied, main_replied, tracks_read, AfterThere, after_put}
use Rattle.read_record.specs.Recorded.{phased_left, phased_replied, phased_recorded}
use Rattle.read_record.proofs.EndLaws.{rest_place}
use Rattle.read_record.proofs.TracksLaws.{was_read, own_length}

-- ---- the ways out of `put_after`

pub put_phased : (n type : ℕ) (l : List ℕ) (at : ℕ) (row output : List ℕ) (b : Bool) → b ≡ type_phased type → b ≡ true
    → (new : List ℕ) → new ≡ phases_put n l at row output → new ≡ after_put n type l at row output
put_phased n type l at row output b q t new e = rw (← q, t) e

pub put_none : (n type : ℕ) (l : List ℕ) (at : ℕ) (row output : List ℕ) (b : Bool) → b ≡ type_phased type → b ≡ false
    → (new : List ℕ) → new ≡ replicate n 0 ++ drop n output → new ≡ after_put n type l at row output
put_none n type l at row output b q t new e = rw (← q, t) e

pub there_phased : (n type : ℕ) (l : List ℕ) (at : ℕ) (row : List ℕ) (b : Bool) → b ≡ type_phased type → b ≡ true
    → AfterThere n type l at row → PhasesThere n l at row
there_phased n type l at row b q t h = h.there (sym q ∙ t)

pub there_inside : (n type : ℕ) (l : List ℕ) (at : ℕ) (row : List ℕ) → AfterThere n type l at row → at ≤ length l
there_inside n type l at row h = h.inside

pub ruleset after_laws = (put_phased, put_none, there_phased, there_inside)

-- ---- the ways out of `read_phased`

module _ (l : List ℕ) (start n type : ℕ) (row : List ℕ) (known : (i : ℕ) → Bounded w8 (get_or l i 0)) (h : n ≤ length row) (a : start ≤ length l)
    (r : Result Cursor Refusal) (new : List ℕ) (told : list_left r new ≡ tracks_read n type l start row) where
  abbrev main_read : Out Track
  main_read = read_kind (length l) n (take n row) (kind (kind_of type)) (drop start l)

  abbrev phases_read : Track → List ℕ → Out Phases
  phases_read t left = read_phases (type_phased type) (length l) (track_heterozygous n (take n row) t) left

  abbrev ended_body : Track → Out Phases → Out Body
  ended_body t m = bind m (λ p left₁. ended (length l) (record { main = t; phases = p }) left₁)

  abbrev whole : Out Track → Out Body
  whole m = bind m (λ t left. ended_body t (phases_read t left))

  abbrev Left : Out Track → Type 0
  Left m = list_left r new ≡ main_replied (length l) n type row m

  pub phased_refused : (why : Refusal) → r ≡ Err why → (output : List ℕ)
      → phased_left (Err why) new output ≡ phased_recorded n type l start row output
  unfolding phased_recorded read_body tracks_read
  phased_refused why q output = through main_read told
    where
      after : (t : Track) (left : List ℕ) (m : Out Body) → list_left r new ≡ after_replied (length l) n row t left m
          → phased_left (Err why) new output ≡ phased_replied n row output m
      after t left (ok body left₁) e = absurd (let z : ◌≡◌ {A = ℕ} 0 1 = cc in omega arith)
      after t left (refused because) e = cc

      through : (m : Out Track) → Left m → phased_left (Err why) new output ≡ phased_replied n row output (whole m)
      through (refused because) e = cc
      through (ok t left) e = after t left (ended_body t (phases_read t left)) e

  -- an accepted record: its main track, what it left, and its phases
  record Accepting (c : Cursor) : Type 0 where
    t : Track
    left : List ℕ
    p : Phases
    is_track : main_read ≡ ok t left
    are_phases : phases_read t left ≡ ok p []
    past : c.at ≡ length l - length left
    rest : drop c.at l ≡ left
    row_is : new ≡ track_categories n (take n row) t ++ drop n row
    own : take n new ≡ track_categories n (take n row) t
    long : n ≤ length new

  module _ (c : Cursor) (q : r ≡ Ok c) where
    accepting : Accepting c
    unfolding tracks_read
    accepting = through main_read refl told (was_read l start n type (take n row) known)
      where
        after : (t : Track) (left : List ℕ) → main_read ≡ ok t left → IsTrack n (take n row) (kind_of type) (drop start l) t left
            → (m : Out Phases) → phases_read t left ≡ m → list_left r new ≡ after_replied (length l) n row t left (ended_body t m) → Accepting c
        after t left is w (refused because) d e = absurd (let z : ◌≡◌ {A = ℕ} 0 1 = cc in omega arith)
        after t left is w (ok p (b ∷ left₁)) d e = absurd (let z : ◌≡◌ {A = ℕ} 0 1 = cc in omega arith)
        after t left is w (ok p []) d e =
            let there : c.at ≡ length l - length left = cc in
            let s : new ≡ track_categories n (take n row) t ++ drop n row = cc in
            let categories : List ℕ = track_categories n (take n row) t in
            let count : length categories ≡ n = own_length l start n type row h t left w in
            record {
              t = t;
              left = left;
              p = p;
              is_track = is;
              are_phases = d;
              past = there;
              rest = ap (λ (i : ℕ). drop i l) there ∙ (rest_place l start (track_bytes n t) left a w.written).1;
              row_is = s;
              own = ap (take n) s ∙ take_at categories (drop n row) n count;
              long = omega (arith, ap length s, length-append categories (drop n row), count);
            }

        through : (m : Out Track) → main_read ≡ m → Left m → Holds (IsTrack n (take n row) (kind_of type) (drop start l)) m → Accepting c
        through (refused because) d e w = absurd (let z : ◌≡◌ {A = ℕ} 0 1 = cc in omega arith)
        through (ok t left) d e w = after t left d w (phases_read t left) refl e

    abbrev is : Accepting c
    is = accepting

    pub tracks_inside : c.at ≤ length l
    tracks_inside = omega (arith, is.past)

    -- the phase track over the row as it now is
    now_read : read_phases (type_phased type) (length l) (heterozygous_count (take n new)) (drop c.at l) ≡ ok is.p []
    now_read =
        ap (λ (own : List ℕ). read_phases (type_phased type) (length l) (heterozygous_count own) (drop c.at l)) is.own
        ∙ ap (read_phases (type_phased type) (length l) (track_heterozygous n (take n row) is.t)) is.rest
        ∙ is.are_phases

    -- what is there, by whether the type has such a track
    there : (b : Bool) (m : Out PhaseTrack) (bs : List ℕ) (p : Phases) → pick b (map_out phased m) (ok no_phases bs) ≡ ok p [] → b ≡ true
        → (t : PhaseTrack) × (m ≡ ok t [])
    there true (ok t left) bs p e u = (t, let z : left ≡ [] = cc in rw z refl)
    there true (refused why) bs p e u = absurd (let z : ◌≡◌ {A = ℕ} 0 1 = cc in omega arith)
    there false m bs p e u = absurd (let z : ◌≡◌ {A = ℕ} 0 1 = cc in omega arith)

    pub tracks_there : AfterThere n type l c.at new
    tracks_there = record {
      inside = tracks_inside;
      there = λ u.
          let m : Out PhaseTrack = read_phase_track (length l) (heterozygous_count (take n new)) (drop c.at l) in
          let f = there (type_phased type) m (drop c.at l) is.p now_read u in
          record { track = f.0; left = []; reads = f.1 };
    }

    -- the phases that are put are those of the body
    put_is : (output : List ℕ) → after_put n type l c.at new output ≡ phases_over (track_categories n (take n row) is.t) is.p ++ drop n output
    unfolding phases_put
    put_is output =
        go (type_phased type) (read_phase_track (length l) (heterozygous_count (take n new)) (drop c.at l)) is.p now_read
        ∙ ap (λ (own : List ℕ). phases_over own is.p ++ drop n output) is.own
      where
        go : (b : Bool) (m : Out PhaseTrack) (p : Phases) → pick b (map_out phased m) (ok no_phases (drop c.at l)) ≡ ok p []
            → pick b (track_put n new output m) (replicate n 0 ++ drop n output) ≡ phases_over (take n new) p ++ drop n output
        go true (ok t left) p e = let z : phased t ≡ p = cc in rw (← z) refl
        go true (refused why) p e = absurd (let z : ◌≡◌ {A = ℕ} 0 1 = cc in omega arith)
        go false m p e =
            let z : no_phases ≡ p = cc in
            let count : length (take n new) ≡ n = length-take-le n new is.long in
            rw (← z, count) refl

    pub phased_accepted : (output last : List ℕ) → last ≡ after_put n type l c.at new output
        → phased_left (Ok tt) new last ≡ phased_recorded n type l start row output
    unfolding phased_recorded read_body
    phased_accepted output last g =
        ap₂ (phased_left (Ok tt)) is.row_is (g ∙ put_is output)
        ∙ sym (ap (λ (m : Out Track). phased_replied n row output (whole m)) is.is_track
        ∙ ap (λ (m : Out Phases). phased_replied n row output (ended_body is.t m)) is.are_phases)

pub ruleset phased_laws = (phased_refused, tracks_inside, tracks_there, phased_accepted)
