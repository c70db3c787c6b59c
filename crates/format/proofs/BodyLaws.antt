-- A record's body: accepted exactly when it is a body that fits, written out, with nothing left.
-- Assumes nothing.
use mathlib.Core.Path.{◌≡◌, refl, sym, ap, ap₂, ◌∙◌, subst}
use Prim.Native.Nat.{ℕ, ◌+◌, ◌/◌, ◌%◌, ◌≤◌, ◌<◌}
use native.Mathlib.Omega.{arith}
use mathlib.Core.Logic.{◌↔◌}
use mathlib.Core.Bool.{Bool, true, false}
use mathlib.Core.List.{List, [], ◌∷◌, ◌++◌, append-nil}
use lib.Dec.{ltb}
use borrow.Author.Tests.{ltb-true, eqb-true, eqb-false}
use Rattle.format.specs.Base.{pick, Bytes, Out, ok, bind}
use Rattle.format.specs.Limits.{most_samples}
use Rattle.format.specs.Track.{leans, Track, track_kind, track_bytes, read_track}
use Rattle.format.specs.Phase.{Phases, has_phases, phases_bytes, read_phases}
use Rattle.format.specs.Body.{kind_of, type_leans, type_phased, Body, body_type, body_leans, body_bytes, BodyFits, track_heterozygous}
use Rattle.format.specs.Body.{ended, read_after, read_body}
use Rattle.format.specs.Layout.{bits_allowed}
use Rattle.format.proofs.Rules.{Holds, by_bind, below_after, both}
use Rattle.format.proofs.TrackLaws.{track_kind_small, leans_track, IsTrack, track_read_back, track_as_written}
use Rattle.format.proofs.PhaseLaws.{IsPhases, phases_read_back, phases_as_written}

-- ---- its type

-- a kind with bit 4 set or not: the kind, and the bit
kind_with : (kind : ℕ) (b : Bool) → kind < 8 → kind_of (kind + pick b 16 0) ≡ kind
kind_with kind true l = let e : (kind + 16) % 8 ≡ kind = omega arith in e
kind_with kind false l = let e : (kind + 0) % 8 ≡ kind = omega arith in e

bit_with : (kind : ℕ) (b : Bool) → kind < 8 → type_phased (kind + pick b 16 0) ≡ b
bit_with kind true l = let e : (kind + 16) / 16 % 2 ≡ 1 = omega arith in rw e refl
bit_with kind false l = let e : (kind + 0) / 16 % 2 ≡ 0 = omega arith in rw e refl

-- the kind of the type of a body that fits is its main track's
pub body_kind : (N : ℕ) (anchor : List ℕ) (body : Body) → BodyFits N anchor body → kind_of (body_type body) ≡ track_kind body.main
body_kind N anchor body f = kind_with (track_kind body.main) (has_phases body.phases) (track_kind_small N anchor body.main f.0)

-- and bit 4 of its type says whether it has a phase track
pub body_phased : (N : ℕ) (anchor : List ℕ) (body : Body) → BodyFits N anchor body → type_phased (body_type body) ≡ has_phases body.phases
body_phased N anchor body f = bit_with (track_kind body.main) (has_phases body.phases) (track_kind_small N anchor body.main f.0)

-- it leans exactly where its type does
pub body_leans_typed : (N : ℕ) (anchor : List ℕ) (body : Body) → BodyFits N anchor body → type_leans (body_type body) ≡ body_leans body
body_leans_typed N anchor body f = ap leans (body_kind N anchor body f) ∙ leans_track body.main

-- ---- its bytes

-- the tracks after the main one, written out, are read as themselves
after_read_back : (end N : ℕ) (anchor : List ℕ) (body : Body) → BodyFits N anchor body
    → read_after end N anchor (body_type body) body.main (phases_bytes body.phases) ≡ ok body []
after_read_back end N anchor body f =
    let H : ℕ = track_heterozygous N anchor body.main in
    let q : read_phases (has_phases body.phases) end H (phases_bytes body.phases) ≡ ok body.phases []
    = rw append-nil at (phases_read_back end H body.phases [] f.1) in
    simp (body_phased N anchor body f, q)

-- a body that fits, written out, is read as itself
pub body_read_back : (end N : ℕ) (anchor : List ℕ) (body : Body) → N ≤ most_samples → BodyFits N anchor body
    → read_body end N anchor (body_type body) (body_bytes N body) ≡ ok body []
unfolding read_body
body_read_back end N anchor body l f =
    let t : Track = body.main in
    let q : read_track end N anchor (track_kind t) (body_bytes N body) ≡ ok t (phases_bytes body.phases)
    = track_read_back end N anchor t (phases_bytes body.phases) l f.0 in
    ap (λ (k : ℕ). bind (read_track end N anchor k (body_bytes N body)) (λ track left. read_after end N anchor (body_type body) track left))
    (body_kind N anchor body f)
    ∙ ap (λ (m : Out Track). bind m (λ track left. read_after end N anchor (body_type body) track left)) q
    ∙ after_read_back end N anchor body f

-- what was read is of the type's kind, has a phase track if the type says so, fits, and is all that was there
pub record IsBody (N : ℕ) (anchor : List ℕ) (type : ℕ) (bs : List ℕ) (body : Body) (left : List ℕ) : Type 0 where
  pub kind : track_kind body.main ≡ kind_of type
  pub phased : has_phases body.phases ≡ type_phased type
  pub fits : BodyFits N anchor body
  pub written : bs ≡ body_bytes N body
  pub ended : left ≡ []

-- it leans exactly where the type does
pub kept_leaning : {N : ℕ} {anchor : List ℕ} {type : ℕ} {bs : List ℕ} {body : Body} {left : List ℕ} → IsBody N anchor type bs body left
    → body_leans body ≡ type_leans type
kept_leaning {body = body} w = sym (leans_track body.main) ∙ ap leans w.kind

module _ (end N : ℕ) (anchor : List ℕ) (type : ℕ) (bs : List ℕ) (t : Track) (after : List ℕ) (o : IsTrack N anchor (kind_of type) bs t after) where
  abbrev H : ℕ
  H = track_heterozygous N anchor t

  -- where all tracks were read and nothing is left, a body was read
  ended_as_written : (p : Phases) (left : List ℕ) → IsPhases (type_phased type) H after p left
      → Holds (IsBody N anchor type bs) (ended end (record { main = t; phases = p }) left)
  ended_as_written p [] w = record {
    kind = o.kind;
    phased = w.has_is;
    fits = (o.fits, w.fits);
    written = o.written ∙ ap (◌++◌ (track_bytes N t)) (w.written ∙ append-nil (phases_bytes p));
    ended = refl;
  }
  ended_as_written p (b ∷ left) w = tt

  after_as_written : Bytes after → Holds (IsBody N anchor type bs) (read_after end N anchor type t after)
  after_as_written y =
      by_bind (IsPhases (type_phased type) H after) (IsBody N anchor type bs) (read_phases (type_phased type) end H after) _
      (phases_as_written (type_phased type) end H after y) (λ p left w. ended_as_written p left w)

-- whatever body was read fits, and the bytes are that body written out
pub body_as_written : (end N : ℕ) (anchor : List ℕ) (type : ℕ) (bs : List ℕ) → Bytes bs
    → Holds (IsBody N anchor type bs) (read_body end N anchor type bs)
unfolding read_body
body_as_written end N anchor type bs y =
    by_bind (IsTrack N anchor (kind_of type) bs) (IsBody N anchor type bs) (read_track end N anchor (kind_of type) bs) _
    (track_as_written end N anchor (kind_of type) bs y)
    (λ t left o. after_as_written end N anchor type bs t left o (below_after 256 (track_bytes N t) left (rw o.written at y)))

-- a record is accepted exactly when it is a body of its type that fits, written out: of the kind, and with a phase track if bit 4 says so
pub record_exactly : (end N : ℕ) (anchor : List ℕ) (type : ℕ) (bs : List ℕ) (body : Body) → N ≤ most_samples → Bytes bs
    → (read_body end N anchor type bs ≡ ok body [])
    ↔ ((track_kind body.main ≡ kind_of type) × (has_phases body.phases ≡ type_phased type) × BodyFits N anchor body × (bs ≡ body_bytes N body))
unfolding read_body
record_exactly end N anchor type bs body l y = (
  λ e.
      let w : IsBody N anchor type bs body [] = subst (Holds (IsBody N anchor type bs)) e (body_as_written end N anchor type bs y) in
      (w.kind, w.phased, w.fits, w.written),
  λ h.
      let q : read_track end N anchor (kind_of type) bs ≡ ok body.main (phases_bytes body.phases)
      = ap₂ (read_track end N anchor) (sym h.0) h.3 ∙ track_read_back end N anchor body.main (phases_bytes body.phases) l h.2.0 in
      let a : read_after end N anchor type body.main (phases_bytes body.phases) ≡ ok body []
      = ap (λ (b : Bool). bind (read_phases b end (track_heterozygous N anchor body.main) (phases_bytes body.phases))
      (λ phases left. ended end (record { main = body.main; phases = phases }) left))
      (sym h.1 ∙ sym (body_phased N anchor body h.2))
      ∙ after_read_back end N anchor body h.2 in
      simp q a,
)

-- ---- the type of a body that was read

-- of a type whose bits are allowed all are told by the kind and by bit 4
pub type_whole : (type : ℕ) → bits_allowed type ≡ true → kind_of type + pick (type_phased type) 16 0 ≡ type
type_whole type h = go (type_phased type) refl
  where
    low : type % 16 < 8
    low = ltb-true (type % 16) 8 (both (ltb (type % 16) 8) (ltb type 32) h).0

    high : type < 32
    high = ltb-true type 32 (both (ltb (type % 16) 8) (ltb type 32) h).1

    go : (t : Bool) → type_phased type ≡ t → kind_of type + pick t 16 0 ≡ type
    go true e = let q : type / 16 % 2 ≡ 1 = eqb-true (type / 16 % 2) 1 e in omega (arith, low, high)
    go false e = let q : type / 16 % 2 ≡ 1 → ⊥ = eqb-false (type / 16 % 2) 1 e in omega (arith, low, high)

-- such a type is that of the body that was read
pub type_as_read : {N : ℕ} {anchor : List ℕ} {type : ℕ} {bs : List ℕ} {body : Body} {left : List ℕ} → bits_allowed type ≡ true
    → IsBody N anchor type bs body left → body_type body ≡ type
type_as_read {type = type} h w = ap₂ (λ (k : ℕ) (p : Bool). k + pick p 16 0) w.kind w.phased ∙ type_whole type h
