-- The main track of a record that stands at a place, as code passes it: where it ends, and how many of its samples are heterozygous.
-- Assumes nothing.
use Rattle.std.specs.Prelude.{Result, Ok, Err}
use mathlib.Core.Path.{◌≡◌, refl, sym, ap, ap₂, ◌∙◌, subst}
use Prim.Native.Nat.{ℕ, ◌^◌, ◌<◌}
use native.Mathlib.Omega.{arith}
use mathlib.Core.Bool.{Bool, true, false}
use mathlib.Core.List.{List, ◌++◌}
use lib.ListN.{length, take, drop}
use lib.Seq.{take_at, drop_at}
use Rattle.format.specs.declared.Refusal.{Refusal}
use Rattle.format.specs.Base.{Out, ok, map_out}
use Rattle.format.specs.Difflist.{Entry, number_width, read_list}
use Rattle.format.specs.Track.{kind, Track, plain, one_bit, leaning, sparse, track_kind, track_leans, off_anchor, rule, Fits, track_bytes, read_kind}
use Rattle.format.specs.Track.{apply, track_categories}
use Rattle.format.specs.Phase.{heterozygous_count, phases_bytes}
use Rattle.format.specs.declared.Kind.{Kind}
use Rattle.format.specs.Body.{kind_of, type_leans, body_categories, track_heterozygous}
use Rattle.format.proofs.Rules.{never_both}
use Rattle.format.proofs.DifflistLaws.{list_read_back}
use Rattle.format.proofs.TrackLaws.{wide_enough, track_read_back}
use Rattle.format.proofs.BodyLaws.{body_kind}
use Rattle.format.proofs.RowLaws.{body_row}
use Rattle.format.proofs.PhaseFlipLaws.{heterozygous_exchange}
use Rattle.base_cursor.specs.declared.Cursor.{Cursor}
use Rattle.base_cursor.specs.Steps.{before}
use Rattle.read_list.specs.declared.ListRule.TheVariants.{OffRow}
use Rattle.read_list.specs.Entries.{list_left}
use Rattle.read_list.specs.Listed.{list_at}
use Rattle.read_calls.specs.Counted.{count_replied, counted}
use Rattle.read_record.specs.Rows.{wiped, stored, kind_categories, tracked}
use Rattle.head_places.specs.declared.Place.{Place}
use Rattle.flip_phase.specs.declared.Main.{Main}
use Rattle.flip_phase.specs.OneRecord.{RecordThere, MainPassed, MainRead}
use Rattle.flip_phase.proofs.RecordLaws.{record_inside, cut_end, cut_start, body_there, main_ends, leans_is}

-- ---- a record that leans

module _ {n : ℕ} {p : Place} {row file : List ℕ} (w : RecordThere n p row file) where
  abbrev cut : List ℕ
  cut = take p.end file

  abbrev left : List ℕ
  left = phases_bytes w.body.phases

  -- its main track is a list
  record Leaner : Type 0 where
    pub inverted : Bool
    pub entries : List Entry
    pub is : w.body.main ≡ leaning inverted entries

  leaner : type_leans p.record_type ≡ true → Leaner
  leaner e = go w.body.main refl (sym (leans_is w) ∙ e)
    where
      go : (t : Track) → w.body.main ≡ t → track_leans w.body.main ≡ true → Leaner
      go (leaning inverted es) a b = record { inverted = inverted; entries = es; is = a }
      go (plain categories) a b = never_both b (ap track_leans a)
      go (one_bit c bits es) a b = never_both b (ap track_leans a)
      go (sparse category es) a b = never_both b (ap track_leans a)

  list_there : (x : Leaner) → list_at OffRow n cut p.start row ≡ ok x.entries left
  unfolding track_bytes
  list_there x =
      let few : n < 2 ^ 32 = omega (arith, w.few) in
      ap (read_list (rule n (off_anchor (take n row))) (number_width n) (length cut))
      (body_there w ∙ ap (λ (t : Track). track_bytes n t ++ left) x.is)
      ∙ list_read_back (rule n (off_anchor (take n row))) (number_width n) (length cut) x.entries left few (wide_enough n w.few)
      (subst (Fits n (take n row)) x.is w.fits.0)

  counted_there : (x : Leaner) → counted OffRow (take n row) n cut p.start
      ≡ Ok (before (length cut) left, heterozygous_count (apply x.entries (take n row)))
  unfolding counted
  counted_there x = ap (count_replied (length cut) (take n row)) (list_there x)

  own_count : (x : Leaner) → heterozygous_count (apply x.entries (take n row)) ≡ track_heterozygous n (take n row) w.body.main
  own_count x =
      sym (heterozygous_exchange x.inverted (apply x.entries (take n row)))
      ∙ ap (track_heterozygous n (take n row)) (sym x.is)

-- the cursor and the count of a list that was counted
abbrev next_of : Result (Cursor × ℕ) Refusal → ℕ
next_of (Ok (c, h)) = c.at
next_of (Err why) = 0

abbrev count_of : Result (Cursor × ℕ) Refusal → ℕ
count_of (Ok (c, h)) = h
count_of (Err why) = 0

abbrev is_counted : Result (Cursor × ℕ) Refusal → Bool
is_counted (Ok (c, h)) = true
is_counted (Err why) = false

module _ (n : ℕ) (p : Place) (row file : List ℕ) (e : type_leans p.record_type ≡ true) (got : Result (Cursor × ℕ) Refusal)
    (d : got ≡ counted OffRow (take n row) n (take p.end file) p.start) where
  pub counted_main : (next : Cursor) (h : ℕ) → got ≡ Ok (next, h) → (main : Main) → main ≡ record { end = next; count = h }
      → MainPassed n p row file main
  counted_main next h q main m = record {
    end_is = λ w. ap (λ (z : Main). z.end.at) m ∙ ap next_of (sym q ∙ d ∙ counted_there w (leaner w e)) ∙ main_ends w;
    count_is = λ w. ap (λ (z : Main). z.count) m ∙ ap count_of (sym q ∙ d ∙ counted_there w (leaner w e)) ∙ own_count w (leaner w e);
  }

  -- an accepted record is not refused
  pub not_refused : (why : Refusal) → got ≡ Err why → (main : Main) → MainPassed n p row file main
  not_refused why q main =
      let never : RecordThere n p row file → ⊥ = λ w. never_both (ap is_counted (d ∙ counted_there w (leaner w e))) (ap is_counted q) in
      record { end_is = λ w. absurd (never w); count_is = λ w. absurd (never w) }

pub ruleset leaning_laws = (record_inside, cut_end, cut_start, counted_main, not_refused)

-- ---- any other record

-- an answer that is not refused is left as it is
unwiped : (n : ℕ) (r : Result Cursor Refusal) (row₁ : List ℕ) (c : Cursor) (x : List ℕ) → wiped n (list_left r row₁) ≡ list_left (Ok c) x
    → (r ≡ Ok c) × (row₁ ≡ x)
unwiped n (Ok d) row₁ c x e = (cc, cc)
unwiped n (Err why) row₁ c x e = let z : ◌≡◌ {A = ℕ} 0 1 = cc in absurd (omega arith)

abbrev at_of : Result Cursor Refusal → ℕ
at_of (Ok c) = c.at
at_of (Err why) = 0

abbrev is_listed : Result Cursor Refusal → Bool
is_listed (Ok c) = true
is_listed (Err why) = false

module _ (n : ℕ) (p : Place) (row file : List ℕ) (s : type_leans p.record_type ≡ false) (number : ℕ) (k : number ≡ kind_of p.record_type) where
  kind_is : (w : RecordThere n p row file) → number ≡ track_kind w.body.main
  kind_is w = k ∙ ap kind_of w.type_is ∙ body_kind n (take n row) w.body w.fits

  module _ (kind₁ : Kind) (numbered : kind₁ ≡ kind number) (r : Result Cursor Refusal) (row₁ : List ℕ)
      (given : wiped n (list_left r row₁) ≡ tracked kind₁ n (take p.end file) p.start row) where
    d : wiped n (list_left r row₁) ≡ tracked (kind number) n (take p.end file) p.start row
    d = rw numbered at given

    left_there : (w : RecordThere n p row file)
        → (r ≡ Ok (before (length (take p.end file)) (phases_bytes w.body.phases)))
        × (row₁ ≡ body_categories n (take n row) w.body ++ drop n row)
    unfolding kind_categories
    left_there w =
        let cut : List ℕ = take p.end file in
        let t : Track = w.body.main in
        unwiped n r row₁ _ _
        (d
        ∙ ap₂ (λ (j : ℕ) (bs : List ℕ). stored (length cut) n row
        (map_out (track_categories n (take n row)) (read_kind (length cut) n (take n row) (kind j) bs)))
        (kind_is w) (body_there w)
        ∙ ap (λ (o : Out Track). stored (length cut) n row (map_out (track_categories n (take n row)) o))
        (track_read_back (length cut) n (take n row) t (phases_bytes w.body.phases) w.few w.fits.0))

    counted_row : (w : RecordThere n p row file) → length (body_categories n (take n row) w.body) ≡ n
    counted_row w = (body_row n (take n row) w.body w.fits (λ q. never_both q (sym (leans_is w) ∙ s))).0

    front_is : (w : RecordThere n p row file) → take n row₁ ≡ body_categories n (take n row) w.body
    front_is w = ap (take n) (left_there w).1 ∙ take_at (body_categories n (take n row) w.body) (drop n row) n (counted_row w)

    rest_is : RecordThere n p row file → drop n row₁ ≡ drop n row
    rest_is w = ap (drop n) (left_there w).1 ∙ drop_at (body_categories n (take n row) w.body) (drop n row) n (counted_row w)

    module _ (w : RecordThere n p row file) (count : ℕ) (c : count ≡ heterozygous_count (take n row₁)) (main : Main) where
      pub read_main : (next : Cursor) → r ≡ Ok next → main ≡ record { end = next; count = count } → MainRead n p row file row₁ main
      read_main next q m = record {
        passed = record {
          end_is = λ w. ap (λ (z : Main). z.end.at) m ∙ ap at_of (sym q ∙ (left_there w).0) ∙ main_ends w;
          count_is = λ w. ap (λ (z : Main). z.count) m ∙ c ∙ ap heterozygous_count (front_is w);
        };
        front = front_is;
        rest = rest_is w;
      }

      pub not_unread : (why : Refusal) → r ≡ Err why → MainRead n p row file row₁ main
      not_unread why q = never_both (ap is_listed (left_there w).0) (ap is_listed q)

pub ruleset standing_laws = (record_inside, cut_end, cut_start, read_main, not_unread)
