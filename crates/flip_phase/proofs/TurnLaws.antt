-- One record's turn: what each way through it leaves of the file and of the row.
-- Assumes nothing.
use mathlib.Core.Path.{◌≡◌, refl, sym, ap, ap₂, ◌∙◌}
use Prim.Native.Nat.{ℕ, ◌≤◌}
use native.Mathlib.Omega.{arith}
use mathlib.Core.Bool.{Bool, true, false, ◌&&◌}
use mathlib.Core.List.{List, ◌++◌, map}
use lib.ListN.{length, take, length-take, length-map, length-replicate}
use Rattle.format.specs.Limits.{most_samples}
use Rattle.format.specs.Track.{Track, plain, one_bit, leaning, sparse, Fits, track_bytes, apply, track_categories}
use Rattle.format.specs.PairCode.{category_of}
use Rattle.format.specs.Phase.{heterozygous_count, Phases, no_phases, phased, has_phases, phases_bytes, flip_phases}
use Rattle.format.specs.Body.{type_leans, type_phased, body_bytes, body_categories, track_heterozygous}
use Rattle.format.specs.File.{next_anchor}
use Rattle.format.proofs.Rules.{both, never_both}
use Rattle.format.proofs.CategoryLaws.{exchange_all_length}
use Rattle.format.proofs.RowLaws.{apply_length}
use Rattle.format.proofs.BodyLaws.{body_phased}
use Rattle.format.proofs.PhaseLaws.{heterozygous_count_most}
use Rattle.format.proofs.PhaseFlipLaws.{flip_phases_none}
use Rattle.head_places.specs.declared.Place.{Place}
use Rattle.flip_phase.specs.declared.Main.{Main}
use Rattle.flip_phase.specs.Turned.{TrackThere, track_turned}
use Rattle.flip_phase.specs.OneRecord.{turn_phases, RecordThere, CountHeld, Turned, MainPassed, MainRead, Passed}
use Rattle.flip_phase.proofs.RecordLaws.{Phased, is_phased, leans_is, track_there, record_turns}

-- ---- H is at most the number of samples

categories_length : (n : ℕ) (anchor : List ℕ) (t : Track) → Fits n anchor t → length anchor ≡ n → length (track_categories n anchor t) ≡ n
categories_length n anchor (plain categories) f e = f.0
categories_length n anchor (one_bit c bits es) f e = apply_length es (map (category_of c) bits) ∙ length-map bits (category_of c) ∙ f.0
categories_length n anchor (leaning inverted es) f e = exchange_all_length inverted (apply es anchor) ∙ apply_length es anchor ∙ e
categories_length n anchor (sparse category es) f e = apply_length es _ ∙ length-replicate n category

module _ {n : ℕ} {p : Place} {row file : List ℕ} (w : RecordThere n p row file) where
  few_heterozygous : track_heterozygous n (take n row) w.body.main ≤ most_samples
  few_heterozygous =
      let whole : length (take n row) ≡ n = omega (arith, length-take n row, w.room) in
      omega (
        arith,
        heterozygous_count_most (track_categories n (take n row) w.body.main),
        categories_length n (take n row) w.body.main w.fits.0 whole,
        w.few,
      )

  -- ---- its phase track turned, or not

  module _ (own turn : Bool) (t : turn ≡ own && type_phased p.record_type) where
    module _ (q : turn ≡ true) where
      its_track : Phased w
      its_track = is_phased w (both own (type_phased p.record_type) (sym t ∙ q)).1

      own_is : own ≡ true
      own_is = (both own (type_phased p.record_type) (sym t ∙ q)).0

      module _ (main : Main) (m : MainPassed n p row file main) where
        pub turn_there : TrackThere main.count main.end.at file
        turn_there = track_there w its_track main.count main.end.at (omega (arith, m.count_is w, few_heterozygous)) (m.count_is w) (m.end_is w)

        turned_there : (later : List ℕ) → later ≡ track_turned main.count main.end.at file
            → later ≡ w.before ++ (body_bytes n (turn_phases own w.body) ++ w.after)
        turned_there later e =
            e
            ∙ record_turns w its_track main.count main.end.at (omega (arith, m.count_is w, few_heterozygous)) (m.count_is w) (m.end_is w)
            ∙ ap₂ (λ (b : Bool) (ps : Phases). w.before ++ ((track_bytes n w.body.main ++ phases_bytes (flip_phases b ps)) ++ w.after))
            (sym own_is) (sym its_track.are)

    kept_there : turn ≡ false → file ≡ w.before ++ (body_bytes n (turn_phases own w.body) ++ w.after)
    kept_there q =
        w.is
        ∙ ap (λ (ps : Phases). w.before ++ ((track_bytes n w.body.main ++ phases_bytes ps) ++ w.after)) (sym (go own w.body.phases without))
      where
        without : own && has_phases w.body.phases ≡ false
        without = ap (λ (b : Bool). own && b) (sym (body_phased n (take n row) w.body w.fits) ∙ sym (ap type_phased w.type_is)) ∙ sym t ∙ q

        go : (own : Bool) (ps : Phases) → own && has_phases ps ≡ false → flip_phases own ps ≡ ps
        go false ps e = flip_phases_none ps
        go true no_phases e = refl
        go true (phased track) e = never_both refl e

-- ---- the ways through

module _ (n : ℕ) (p : Place) (row file : List ℕ) (own leant_on turn : Bool) (t : turn ≡ own && type_phased p.record_type)
    (leans : Bool) (l : leans ≡ type_leans p.record_type) where
  -- a record that leans: the row stays, since the next one leans on the same
  module _ (y : leans ≡ true) (h : ℕ) (c : CountHeld n p row h) where
    pub count_there : h ≡ heterozygous_count (take n row)
    count_there = c.counted (sym l ∙ y)

    leaner_passed : (later : List ℕ) → Turned n p row own file later → Passed n p row own leant_on file later row h
    leaner_passed later turned = record {
      turned = turned;
      front = λ b w. ap (λ (b : Bool). next_anchor b (take n row) (body_categories n (take n row) w.body)) (sym y ∙ l ∙ leans_is w);
      rest = refl;
      count = λ b. count_there;
    }

    pub leaner_turned : turn ≡ true → (main : Main) → MainPassed n p row file main → (later : List ℕ)
        → later ≡ track_turned main.count main.end.at file → Passed n p row own leant_on file later row h
    leaner_turned q main m later e = leaner_passed later (record { turned = λ w. turned_there w own turn t q main m later e })

    pub leaner_kept : turn ≡ false → Passed n p row own leant_on file file row h
    leaner_kept q = leaner_passed file (record { turned = λ w. kept_there w own turn t q })

  module _ (y : leans ≡ false) where
    pub stands_there : type_leans p.record_type ≡ false
    stands_there = sym l ∙ y

    -- any other, read into the row: the next one leans on this one
    module _ (there : RecordThere n p row file) (row₁ : List ℕ) (main : Main) (m : MainRead n p row file row₁ main) where
      standing_passed : (later : List ℕ) → Turned n p row own file later → Passed n p row own leant_on file later row₁ main.count
      standing_passed later turned = record {
        turned = turned;
        front = λ b w. m.front w ∙ ap (λ (b : Bool). next_anchor b (take n row) (body_categories n (take n row) w.body)) (sym y ∙ l ∙ leans_is w);
        rest = m.rest;
        count = λ b. m.passed.count_is there ∙ ap heterozygous_count (sym (m.front there));
      }

      pub standing_turned : turn ≡ true → (later : List ℕ) → later ≡ track_turned main.count main.end.at file
          → Passed n p row own leant_on file later row₁ main.count
      standing_turned q later e = standing_passed later (record { turned = λ w. turned_there w own turn t q main m.passed later e })

      pub standing_kept : turn ≡ false → Passed n p row own leant_on file file row₁ main.count
      standing_kept q = standing_passed file (record { turned = λ w. kept_there w own turn t q })

    -- none leans on it
    pub standing_left : turn ≡ false → leant_on ≡ false → (h : ℕ) → Passed n p row own leant_on file file row h
    standing_left q b h = record {
      turned = record { turned = λ w. kept_there w own turn t q };
      front = λ a w. never_both a b;
      rest = refl;
      count = λ a. never_both a b;
    }

pub leans_there : (type : ℕ) (leans : Bool) → leans ≡ type_leans type → leans ≡ true → type_leans type ≡ true
leans_there type leans l y = sym l ∙ y

pub turns_if : (own : Bool) (type : ℕ) (b : Bool) → own ≡ true → b ≡ type_phased type → b ≡ own && type_phased type
turns_if own type b e d = d ∙ ap (λ (z : Bool). z && type_phased type) (sym e)

pub turns_not : (own : Bool) (type : ℕ) → own ≡ false → false ≡ own && type_phased type
turns_not own type e = ap (λ (z : Bool). z && type_phased type) (sym e)

pub ruleset turn_laws = (turn_there, leans_there, count_there, leaner_turned, leaner_kept, stands_there, standing_turned, standing_kept, standing_left)

pub ruleset turns_laws = (turns_if, turns_not)
