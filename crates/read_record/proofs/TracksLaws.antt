-- A record's tracks read into a row: the main one, what follows it, and the row after a refusal.
-- Assumes nothing.
use Rattle.std.specs.Prelude.{Result, Ok, Err, ⊤}
use mathlib.Core.Path.{◌≡◌, refl, sym, ap, ap₂, ◌∙◌}
use Prim.Native.Nat.{ℕ, ◌-◌, ◌≤◌}
use native.Mathlib.Omega.{arith}
use mathlib.Core.List.{List, [], ◌∷◌, ◌++◌, map}
use lib.ListN.{get_or, length, take, drop, replicate, length-map, length-replicate}
use lib.Seq.{length-take-le, take_at}
use mir.Syntax.{w8}
use mir.Val.{Fits as Bounded}
use Rattle.format.specs.declared.Refusal.{Refusal}
use Rattle.format.specs.Base.{Out, ok, refused, bind, map_out}
use Rattle.format.specs.PairCode.{category_of}
use Rattle.format.specs.declared.Kind.{Kind}
use Rattle.format.specs.Track.{kind, Track, plain, one_bit, leaning, sparse, Fits, apply, read_kind, track_categories}
use Rattle.format.specs.Phase.{heterozygous_count, Phases, read_phases}
use Rattle.format.specs.Body.{kind_of, type_phased, Body, track_heterozygous, ended, read_after, read_body}
use Rattle.format.specs.Reply.{emptied}
use Rattle.format.proofs.Rules.{Holds, below_drop}
use Rattle.format.proofs.CategoryLaws.{exchange_all_length}
use Rattle.format.proofs.RowLaws.{apply_length}
use Rattle.format.proofs.TrackLaws.{IsTrack, track_as_written}
use Rattle.base_cursor.specs.declared.Cursor.{Cursor}
use Rattle.base_cursor.specs.Steps.{cursor_at}
use Rattle.base_cursor.proofs.ByteLaws.{bytes_of}
use Rattle.read_list.specs.Entries.{list_left}
use Rattle.read_record.specs.Rows.{wiped, stored, kind_categories, tracked}
use Rattle.read_record.specs.Recorded.{replied, end_checked, after_replied, main_replied, tracks_read}
use Rattle.read_record.specs.Recorded.{record_left, record_replied, recorded}
use Rattle.read_record.proofs.RowLaws.{rest_of}
use Rattle.read_record.proofs.EndLaws.{after_ends}

-- ---- the main track over any anchor, and what is left after it

module _ (l : List ℕ) (start n type : ℕ) (anchor : List ℕ) (known : (i : ℕ) → Bounded w8 (get_or l i 0)) where
  abbrev track : Out Track
  track = read_kind (length l) n anchor (kind (kind_of type)) (drop start l)

  pub was_read : Holds (IsTrack n anchor (kind_of type) (drop start l)) track
  was_read = track_as_written (length l) n anchor (kind_of type) (drop start l) (below_drop 256 start l (bytes_of l (λ i. (known i).fits)))

pub categories_length : (n : ℕ) (anchor : List ℕ) (t : Track) → length anchor ≡ n → Fits n anchor t → length (track_categories n anchor t) ≡ n
categories_length n anchor (plain categories) e f = f.0
categories_length n anchor (one_bit c bits es) e f = apply_length es (map (category_of c) bits) ∙ length-map bits (category_of c) ∙ f.0
categories_length n anchor (leaning inverted es) e f = exchange_all_length inverted (apply es anchor) ∙ apply_length es anchor ∙ e
categories_length n anchor (sparse category es) e f = apply_length es (replicate n category) ∙ length-replicate n category

-- the row of a main track that was read
pub own_length : (l : List ℕ) (start n type : ℕ) (row : List ℕ) → n ≤ length row → (t : Track) (left : List ℕ)
    → IsTrack n (take n row) (kind_of type) (drop start l) t left → length (track_categories n (take n row) t) ≡ n
own_length l start n type row h t left w = categories_length n (take n row) t (length-take-le n row h) w.fits

-- ---- the ways out of `put_tracks`: k is the kind of the record's type, r what its main track gave

module _ (l : List ℕ) (start n type : ℕ) (row : List ℕ) (known : (i : ℕ) → Bounded w8 (get_or l i 0)) (h : n ≤ length row) (a : start ≤ length l)
    (number : ℕ) (is : number ≡ kind_of type) (k : Kind) (numbered : k ≡ kind number) (r : Result Cursor Refusal) (new : List ℕ)
    (told : wiped n (list_left r new) ≡ tracked k n l start row) where
  abbrev read : Out Track
  read = read_kind (length l) n (take n row) (kind (kind_of type)) (drop start l)

  abbrev Told : Result Cursor Refusal → Out Track → Type 0
  Told r m = wiped n (list_left r new) ≡ stored (length l) n row (map_out (track_categories n (take n row)) m)

  was_told : Told r read
  unfolding kind_categories
  was_told = rw (numbered, is) at told

  abbrev IsRead : Out Track → Type 0
  IsRead m = Holds (IsTrack n (take n row) (kind_of type) (drop start l)) m

  is_read : IsRead read
  is_read = was_read l start n type (take n row) known

  -- a refusal leaves the same, before and after the record is put into the row
  zeros_alike : emptied n new ≡ emptied n row
  zeros_alike = through r read was_told is_read
    where
      through : (r : Result Cursor Refusal) (m : Out Track) → Told r m → IsRead m → emptied n new ≡ emptied n row
      through (Err why) (refused because) p w = cc
      through (Err why) (ok t left) p w = absurd (let z : ◌≡◌ {A = ℕ} 0 1 = cc in omega arith)
      through (Ok c) (refused why) p w = absurd (let z : ◌≡◌ {A = ℕ} 0 1 = cc in omega arith)
      through (Ok c) (ok t left) p w =
          let s : new ≡ track_categories n (take n row) t ++ drop n row = cc in
          rw (s, rest_of n (track_categories n (take n row) t) row (own_length l start n type row h t left w))

  pub main_refused : (why : Refusal) → r ≡ Err why → wiped n (list_left (Err why) new) ≡ tracks_read n type l start row
  unfolding tracks_read
  main_refused why q = through r read was_told q
    where
      through : (r : Result Cursor Refusal) (m : Out Track) → Told r m → r ≡ Err why
          → list_left (Err why) (emptied n new) ≡ main_replied (length l) n type row m
      through (Err why₁) (refused because) p e = let z : emptied n new ≡ emptied n row = zeros_alike in cc
      through (Err why₁) (ok t left) p e = absurd (let z : ◌≡◌ {A = ℕ} 0 1 = cc in omega arith)
      through (Ok c) m p e = absurd (let z : ◌≡◌ {A = ℕ} 0 1 = cc in omega arith)

  module _ (c : Cursor) (q : r ≡ Ok c) where
    pub main_inside : c.at ≤ length l
    main_inside = through r read was_told q
      where
        through : (r : Result Cursor Refusal) (m : Out Track) → Told r m → r ≡ Ok c → c.at ≤ length l
        through (Ok c₁) (ok t left) p e = let z : c.at ≡ length l - length left = cc in omega (arith, z)
        through (Ok c₁) (refused because) p e = absurd (let z : ◌≡◌ {A = ℕ} 0 1 = cc in omega arith)
        through (Err why) m p e = absurd (let z : ◌≡◌ {A = ℕ} 0 1 = cc in omega arith)

    module _ (reply : Result ⊤ Refusal) (ends : reply ≡ end_checked (type_phased type) (heterozygous_count (take n new)) l c.at) where
      -- the main track that was read, with what follows it
      record Main (m : Out Track) : Type 0 where
        t : Track
        left : List ℕ
        is_track : m ≡ ok t left
        past : c.at ≡ length l - length left
        row_is : new ≡ track_categories n (take n row) t ++ drop n row
        ends_as : reply ≡ replied (read_after (length l) n (take n row) type t left)

      main : Main read
      main = through r read was_told is_read q
        where
          through : (r : Result Cursor Refusal) (m : Out Track) → Told r m → IsRead m → r ≡ Ok c → Main m
          through (Ok c₁) (refused because) p w e = absurd (let z : ◌≡◌ {A = ℕ} 0 1 = cc in omega arith)
          through (Err why) m p w e = absurd (let z : ◌≡◌ {A = ℕ} 0 1 = cc in omega arith)
          through (Ok c₁) (ok t left) p w e =
              let there : c.at ≡ length l - length left = cc in
              let s : new ≡ track_categories n (take n row) t ++ drop n row = cc in
              let own : take n new ≡ track_categories n (take n row) t
              = ap (take n) s ∙ take_at (track_categories n (take n row) t) (drop n row) n (own_length l start n type row h t left w) in
              record {
                t = t;
                left = left;
                is_track = refl;
                past = there;
                row_is = s;
                ends_as = ends ∙ rw (own, there) (sym (after_ends l start n (take n row) type (kind_of type) t left a w));
              }

      pub end_refused : (why : Refusal) → reply ≡ Err why → wiped n (list_left (Err why) new) ≡ tracks_read n type l start row
      unfolding tracks_read
      end_refused why e =
          rw main.is_track (through (read_after (length l) n (take n row) type main.t main.left) (sym main.ends_as ∙ e))
        where
          through : (m : Out Body) → replied m ≡ Err why → list_left (Err why) (emptied n new) ≡ after_replied (length l) n row main.t main.left m
          through (ok body left) d = absurd (let z : ◌≡◌ {A = ℕ} 0 1 = cc in omega arith)
          through (refused because) d = let z : emptied n new ≡ emptied n row = zeros_alike in cc

      pub end_accepted : reply ≡ Ok tt → wiped n (list_left (Ok c) new) ≡ tracks_read n type l start row
      unfolding tracks_read
      end_accepted e =
          rw main.is_track (through (read_after (length l) n (take n row) type main.t main.left) (sym main.ends_as ∙ e))
        where
          through : (m : Out Body) → replied m ≡ Ok tt → list_left (Ok c) new ≡ after_replied (length l) n row main.t main.left m
          through (ok body left) d = ap₂ (λ (i : ℕ) (x : List ℕ). list_left (Ok (cursor_at i)) x) main.past main.row_is
          through (refused because) d = absurd (let z : ◌≡◌ {A = ℕ} 0 1 = cc in omega arith)

pub ruleset put_laws = (main_refused, main_inside, end_refused, end_accepted)

-- ---- the ways out of `read_tracks`: r is what `put_tracks` gave

module _ (l : List ℕ) (start n type : ℕ) (row : List ℕ) (r : Result Cursor Refusal) (new : List ℕ)
    (told : wiped n (list_left r new) ≡ tracks_read n type l start row) where
  pub tracks_refused : (why : Refusal) → r ≡ Err why → (last : List ℕ) → last ≡ emptied n new → list_left (Err why) last ≡ tracks_read n type l start row
  tracks_refused why e last g = rw g (rw e at told)

  pub tracks_accepted : (c : Cursor) → r ≡ Ok c → list_left (Ok c) new ≡ tracks_read n type l start row
  tracks_accepted c e = rw e at told

pub ruleset tracks_laws = (tracks_refused, tracks_accepted)

-- ---- the ways out of `read_body`

module _ (l : List ℕ) (start n type : ℕ) (row : List ℕ) (r : Result Cursor Refusal) (new : List ℕ)
    (told : list_left r new ≡ tracks_read n type l start row) where
  abbrev main_read : Out Track
  main_read = read_kind (length l) n (take n row) (kind (kind_of type)) (drop start l)

  abbrev whole : Out Track → Out Body
  whole m = bind m (λ t left. read_after (length l) n (take n row) type t left)

  -- the categories of a body that was read are those of the main track
  abbrev Left : Out Track → Type 0
  Left m = list_left r new ≡ main_replied (length l) n type row m

  pub body_refused : (why : Refusal) → r ≡ Err why → record_left (Err why) new ≡ recorded n type l start row
  unfolding recorded read_body tracks_read
  body_refused why q = through main_read told
    where
      after : (t : Track) (left : List ℕ) (m : Out Body) → list_left r new ≡ after_replied (length l) n row t left m
          → record_left (Err why) new ≡ record_replied n row m
      after t left (ok body left₁) e = absurd (let z : ◌≡◌ {A = ℕ} 0 1 = cc in omega arith)
      after t left (refused because) e = cc

      through : (m : Out Track) → Left m → record_left (Err why) new ≡ record_replied n row (whole m)
      through (refused because) e = cc
      through (ok t left) e = after t left (read_after (length l) n (take n row) type t left) e

  pub body_accepted : (c : Cursor) → r ≡ Ok c → record_left (Ok tt) new ≡ recorded n type l start row
  unfolding recorded read_body tracks_read
  body_accepted c q = through main_read told
    where
      ended_body : Track → Out Phases → Out Body
      ended_body t m = bind m (λ p left₁. ended (length l) (record { main = t; phases = p }) left₁)

      after : (t : Track) (left : List ℕ) (m : Out Phases) → list_left r new ≡ after_replied (length l) n row t left (ended_body t m)
          → record_left (Ok tt) new ≡ record_replied n row (ended_body t m)
      after t left (ok p []) e = cc
      after t left (ok p (b ∷ left₁)) e = absurd (let z : ◌≡◌ {A = ℕ} 0 1 = cc in omega arith)
      after t left (refused because) e = absurd (let z : ◌≡◌ {A = ℕ} 0 1 = cc in omega arith)

      through : (m : Out Track) → Left m → record_left (Ok tt) new ≡ record_replied n row (whole m)
      through (refused because) e = absurd (let z : ◌≡◌ {A = ℕ} 0 1 = cc in omega arith)
      through (ok t left) e = after t left (read_phases (type_phased type) (length l) (track_heterozygous n (take n row) t) left) e

pub ruleset body_laws = (body_refused, body_accepted)
