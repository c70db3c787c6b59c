-- A record that leans on none, checked and then read straight into an output, its phases too: each way out of the code.
-- Assumes nothing.
use Rattle.std.specs.Prelude.{Result, Ok, Err, ⊤}
use mathlib.Core.Path.{◌≡◌, sym, ap, ◌∙◌}
use Prim.Native.Nat.{ℕ, ◌≤◌}
use native.Mathlib.Omega.{arith}
use mathlib.Core.Bool.{true, false}
use mathlib.Core.List.{List, []}
use lib.ListN.{get_or, length, take, drop}
use mir.Syntax.{w8}
use mir.Val.{Fits as Bounded}
use Rattle.format.specs.declared.Refusal.{Refusal}
use Rattle.format.specs.Base.{Out, ok, refused, bind, map_out}
use Rattle.format.specs.declared.Kind.{Kind}
use Rattle.format.specs.Track.{kind, Track, read_kind, track_categories}
use Rattle.format.specs.Body.{kind_of, type_leans, Body, read_after, read_body, body_categories, body_reading}
use Rattle.format.proofs.RowLaws.{row_anchor_unused, reading_anchor_unused, read_alike}
use Rattle.base_cursor.specs.declared.Cursor.{Cursor}
use Rattle.read_list.specs.Entries.{ListLeft, list_left, Lists}
use Rattle.read_record.specs.Rows.{wiped, stored, kind_categories, tracked}
use Rattle.read_record.specs.Recorded.{replied, main_replied, after_replied, tracks_read, record_left, record_replied, recorded}
use Rattle.read_record.specs.Recorded.{AfterThere, after_put, phased_left, phased_replied, phased_recorded}
use Rattle.read_record.proofs.TracksLaws.{body_accepted}
use Rattle.read_record.proofs.PhasedLaws.{tracks_there, phased_accepted}
use Rattle.read_check.specs.Checked.{body_checked}
use Rattle.read_check.specs.Straight.{untouched, straight_tracks, straight_replied, straight, straight_phased_replied, straight_phased}

-- ---- the record over what the output holds: it leans on none, so it is read alike over nothing

module _ (l : List ℕ) (start n type : ℕ) (output : List ℕ) (stands : type_leans type ≡ false) where
  abbrev anchor : List ℕ
  anchor = take n output

  abbrev read : Out Body
  read = read_body (length l) n anchor type (drop start l)

  -- what is left where it was refused, or read in place
  kept : (why : Refusal) → read ≡ refused why → record_left (Err why) output ≡ straight n type l start output
  unfolding straight
  kept why e =
      ap (λ (m : Out Body). straight_replied n output (map_out (body_categories n anchor) m)) (sym e)
      ∙ ap (straight_replied n output) (read_alike body_categories n (row_anchor_unused n) (length l) anchor [] type (drop start l) stands)

  in_place : (new : List ℕ) → record_left (Ok tt) new ≡ recorded n type l start output → record_left (Ok tt) new ≡ straight n type l start output
  unfolding straight recorded
  in_place new d =
      go read d ∙ ap (straight_replied n output) (read_alike body_categories n (row_anchor_unused n) (length l) anchor [] type (drop start l) stands)
    where
      go : (m : Out Body) → record_left (Ok tt) new ≡ record_replied n output m
          → record_left (Ok tt) new ≡ straight_replied n output (map_out (body_categories n anchor) m)
      go (ok body left) e = e
      go (refused why) e = absurd (let z : ◌≡◌ {A = ℕ} 0 1 = cc in omega arith)

  module _ (phases : List ℕ) where
    abbrev phased_over : Out Body → Type 0
    phased_over m = straight_phased_replied n output phases (map_out (body_reading n anchor) m) ≡ straight_phased n type l start output phases

    over_nothing : phased_over read
    unfolding straight_phased
    over_nothing =
        ap (straight_phased_replied n output phases)
        (read_alike body_reading n (reading_anchor_unused n) (length l) anchor [] type (drop start l) stands)

    kept_phased : (why : Refusal) → read ≡ refused why → phased_left (Err why) output phases ≡ straight_phased n type l start output phases
    kept_phased why e =
        ap (λ (m : Out Body). straight_phased_replied n output phases (map_out (body_reading n anchor) m)) (sym e) ∙ over_nothing

    in_place_phased : (new last : List ℕ) → phased_left (Ok tt) new last ≡ phased_recorded n type l start output phases
        → phased_left (Ok tt) new last ≡ straight_phased n type l start output phases
    unfolding phased_recorded
    in_place_phased new last d = go read d ∙ over_nothing
      where
        go : (m : Out Body) → phased_left (Ok tt) new last ≡ phased_replied n output phases m
            → phased_left (Ok tt) new last ≡ straight_phased_replied n output phases (map_out (body_reading n anchor) m)
        go (ok body left) e = e
        go (refused why) e = absurd (let z : ◌≡◌ {A = ℕ} 0 1 = cc in omega arith)

-- ---- the ways out of `straight_tracks`: `got` is what the check told

module _ (l : List ℕ) (start n type : ℕ) (output : List ℕ) (got : Result ⊤ Refusal) (checked : got ≡ body_checked n type l start output) where
  abbrev main_track : Out Track
  main_track = read_kind (length l) n (take n output) (kind (kind_of type)) (drop start l)

  abbrev after_main : Track → List ℕ → Out Body
  after_main track left = read_after (length l) n (take n output) type track left

  abbrev left_of : Out Track → ListLeft
  left_of m = untouched output (main_replied (length l) n type output m)

  pub check_refused : (why : Refusal) → got ≡ Err why → list_left (Err why) output ≡ straight_tracks n type l start output
  unfolding straight_tracks tracks_read body_checked read_body
  check_refused why q = go main_track (sym checked ∙ q)
    where
      after : (t : Track) (left : List ℕ) (m : Out Body) → replied m ≡ Err why
          → list_left (Err why) output ≡ untouched output (after_replied (length l) n output t left m)
      after t left (ok body left₁) e = absurd (let z : ◌≡◌ {A = ℕ} 0 1 = cc in omega arith)
      after t left (refused because) e = cc

      go : (m : Out Track) → replied (bind m after_main) ≡ Err why → list_left (Err why) output ≡ left_of m
      go (refused because) e = cc
      go (ok t left) e = after t left (after_main t left) e

  module _ (q : got ≡ Ok tt) (number : ℕ) (is : number ≡ kind_of type) (k : Kind) (numbered : k ≡ kind number) where
    -- accepted: so is its main track
    pub main_lists : true ≡ true → Lists (tracked k n l start output)
    unfolding kind_categories body_checked read_body
    main_lists u = rw (numbered, is) (go main_track (sym checked ∙ q))
      where
        go : (m : Out Track) → replied (bind m after_main) ≡ Ok tt → Lists (stored (length l) n output (map_out (track_categories n (take n output)) m))
        go (ok t left) e = tt
        go (refused why) e = absurd (let z : ◌≡◌ {A = ℕ} 0 1 = cc in omega arith)

    -- and what that then gave is what reading all tracks gives
    pub track_given : (r : Result Cursor Refusal) (new : List ℕ) → wiped n (list_left r new) ≡ tracked k n l start output
        → list_left r new ≡ straight_tracks n type l start output
    unfolding straight_tracks tracks_read kind_categories body_checked read_body
    track_given r new told = go main_track (sym checked ∙ q) (rw (numbered, is) at told)
      where
        after : (r : Result Cursor Refusal) (t : Track) (left : List ℕ) (m : Out Body) → replied m ≡ Ok tt
            → wiped n (list_left r new) ≡ stored (length l) n output (ok (track_categories n (take n output) t) left)
            → list_left r new ≡ untouched output (after_replied (length l) n output t left m)
        after (Ok c) t left (ok body left₁) e d = d
        after (Err why) t left (ok body left₁) e d = absurd (let z : ◌≡◌ {A = ℕ} 0 1 = cc in omega arith)
        after r t left (refused why) e d = absurd (let z : ◌≡◌ {A = ℕ} 0 1 = cc in omega arith)

        go : (m : Out Track) → replied (bind m after_main) ≡ Ok tt
            → wiped n (list_left r new) ≡ stored (length l) n output (map_out (track_categories n (take n output)) m) → list_left r new ≡ left_of m
        go (refused why) e d = absurd (let z : ◌≡◌ {A = ℕ} 0 1 = cc in omega arith)
        go (ok t left) e d = after r t left (after_main t left) e d

pub ruleset tracks_laws = (check_refused, track_given)

-- ---- the ways out of `read_straight` and `read_straight_phased`

module _ (l : List ℕ) (start n type : ℕ) (output : List ℕ) (r : Result Cursor Refusal) (new : List ℕ)
    (told : list_left r new ≡ straight_tracks n type l start output) where
  -- refused: the record is, and the output is as it was
  unread : (why : Refusal) → r ≡ Err why → (new ≡ output) × (read_body (length l) n (take n output) type (drop start l) ≡ refused why)
  unfolding straight_tracks tracks_read read_body
  unread why q = go (read_kind (length l) n (take n output) (kind (kind_of type)) (drop start l)) told
    where
      after : (t : Track) (left : List ℕ) (m : Out Body) → list_left r new ≡ untouched output (after_replied (length l) n output t left m)
          → (new ≡ output) × (m ≡ refused why)
      after t left (ok body left₁) e = absurd (let z : ◌≡◌ {A = ℕ} 0 1 = cc in omega arith)
      after t left (refused because) e = (cc, cc)

      go : (m : Out Track) → list_left r new ≡ untouched output (main_replied (length l) n type output m)
          → (new ≡ output) × (bind m (λ track left. read_after (length l) n (take n output) type track left) ≡ refused why)
      go (refused because) e = (cc, cc)
      go (ok t left) e = after t left (read_after (length l) n (take n output) type t left) e

  -- accepted: the tracks were read
  all_read : (c : Cursor) → r ≡ Ok c → list_left r new ≡ tracks_read n type l start output
  unfolding straight_tracks
  all_read c q = go (tracks_read n type l start output) told
    where
      go : (o : ListLeft) → list_left r new ≡ untouched output o → list_left r new ≡ o
      go (list_left (Ok c₁) row) e = e
      go (list_left (Err why) row) e = absurd (let z : ◌≡◌ {A = ℕ} 0 1 = cc in omega arith)

  module _ (stands : type_leans type ≡ false) where
    pub straight_refused : (why : Refusal) → r ≡ Err why → record_left (Err why) new ≡ straight n type l start output
    straight_refused why q = let x = unread why q in rw x.0 (kept l start n type output stands why x.1)

    pub straight_accepted : (c : Cursor) → r ≡ Ok c → record_left (Ok tt) new ≡ straight n type l start output
    straight_accepted c q = in_place l start n type output stands new (body_accepted l start n type output r new (all_read c q) c q)

    pub phased_kept : (phases : List ℕ) (why : Refusal) → r ≡ Err why
        → phased_left (Err why) new phases ≡ straight_phased n type l start output phases
    phased_kept phases why q = let x = unread why q in rw x.0 (kept_phased l start n type output stands phases why x.1)

  module _ (known : (i : ℕ) → Bounded w8 (get_or l i 0)) (h : n ≤ length output) (a : start ≤ length l) (c : Cursor) (d : r ≡ Ok c) where
    pub straight_there : AfterThere n type l c.at new
    straight_there = tracks_there l start n type output known h a r new (all_read c d) c d

    pub phased_read : type_leans type ≡ false → (phases last : List ℕ) → last ≡ after_put n type l c.at new phases
        → phased_left (Ok tt) new last ≡ straight_phased n type l start output phases
    phased_read stands phases last g =
        in_place_phased l start n type output stands phases new last
        (phased_accepted l start n type output known h a r new (all_read c d) c d phases last g)

-- room in an output that was read into
pub straight_room : (n : ℕ) (output output₁ : List ℕ) → n ≤ length output → length output₁ ≡ length output → n ≤ length output₁
straight_room n output output₁ h e = omega arith

pub ruleset straight_laws = (straight_refused, straight_accepted)

pub ruleset straight_phased_laws = (straight_room, straight_there, phased_kept, phased_read)
