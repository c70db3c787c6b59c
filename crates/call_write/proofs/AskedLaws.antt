-- What a kind and a pair code ask for.
-- Assumes nothing.
use Rattle.std.specs.Prelude.{Option, Some, None, Result, Ok, Err, OkIff}
use Rattle.std.specs.Result.{result_ok}
use mathlib.Core.Path.{◌≡◌, refl}
use Prim.Native.Nat.{ℕ, ◌<◌}
use native.Mathlib.Omega.{arith}
use mathlib.Core.Bool.{Bool, true, false}
use mathlib.Core.List.{List, []}
use lib.ListN.{length, length-replicate}
use lib.Dec.{eqb}
use borrow.Author.Tests.{ne_eqb}
use Rattle.format.specs.Base.{pick, Out, ok, bind, map_out, need}
use Rattle.format.specs.PairCode.{Coded, coded, not_coded, code_numbered}
use Rattle.format.specs.declared.Kind.{Kind}
use Rattle.format.specs.declared.Kind.TheVariants.{Array, Paired, AgainstAnchor, AgainstCategory, NoKind}
use Rattle.format.specs.Track.{kind, leans_kind, leans, Track, track_bytes}
use Rattle.format.specs.Writer.{pair_track, kind_track}
use Rattle.format.proofs.Rules.{Holds}
use Rattle.write_parts.specs.declared.Base.TheVariants as base
use Rattle.call_write.specs.Asked.{asked_code, asked_kind, asked_for, asked_bytes, HasBase}
use Rattle.call_write.specs.Checked.{allowed}
use Rattle.call_write.specs.declared.Asked.{Asked}
use Rattle.call_write.specs.declared.Asked.TheVariants as asked

-- ---- pair codes

-- a number past a byte is no pair code
pub code_past : {E : Type 0} (code : ℕ) (byte : Result ℕ E) → OkIff byte (code < 256) code → None ≡ result_ok byte → None ≡ asked_code (code_numbered code)
unfolding code_numbered
code_past code (Ok b) h e = let z : ◌≡◌ {A = ℕ} 0 1 = cc in absurd (omega arith)
code_past code (Err why) h e =
    simp (
      ne_eqb code 1 (λ e. h (omega arith)),
      ne_eqb code 2 (λ e. h (omega arith)),
      ne_eqb code 3 (λ e. h (omega arith)),
      ne_eqb code 5 (λ e. h (omega arith)),
      ne_eqb code 6 (λ e. h (omega arith)),
      ne_eqb code 9 (λ e. h (omega arith)),
    )

-- ---- the track's bytes are what is asked for

module _ (anchor categories : List ℕ) where
  abbrev bytes_of : Option Asked → Out (List ℕ)
  bytes_of o = bind (allowed o) (λ b left. ok (asked_bytes b anchor categories) [])

  abbrev track_of : Out Track → Out (List ℕ)
  track_of m = map_out (track_bytes (length categories)) m

  -- of a kind whose pair code has to be 0
  code_0_asked : (t : Bool) (track : Track) (a : Asked) → track_of (ok track []) ≡ bytes_of (Some a)
      → track_of (need t 19 0 (ok track [])) ≡ bytes_of (pick t (Some a) None)
  code_0_asked true track a e = e
  code_0_asked false track a e = refl

  pub track_asked : (k : Kind) (code : ℕ)
      → map_out (track_bytes (length categories)) (kind_track k code anchor categories)
      ≡ bind (allowed (asked_kind k code)) (λ b left. ok (asked_bytes b anchor categories) [])
  unfolding kind_track track_bytes
  track_asked Array code = code_0_asked (eqb code 0) _ asked.Array refl
  track_asked Paired code = go (code_numbered code)
    where
      go : (c : Coded) → track_of (pair_track categories c) ≡ bytes_of (asked_code c)
      go (coded c) = refl
      go not_coded = refl
  track_asked (AgainstAnchor inverted) code = code_0_asked (eqb code 0) _ (asked.List (base.Anchor inverted)) refl
  track_asked (AgainstCategory category) code = code_0_asked (eqb code 0) _ (asked.List (base.Category category)) refl
  track_asked NoKind code = refl

-- ---- a list has a base for every sample

module _ (anchor categories : List ℕ) where
  -- where the anchor is as long as the kind wants
  abbrev Based : Kind → Asked → List ℕ → Type 0
  Based k a left = length anchor ≡ pick (leans_kind k) (length categories) 0 → HasBase a anchor categories

  code_0_base : (k : Kind) (t : Bool) (a : Asked) → Based k a [] → Holds (Based k) (allowed (pick t (Some a) None))
  code_0_base k true a h = h
  code_0_base k false a h = tt

  has_base : (k : Kind) (code : ℕ) → Holds (Based k) (allowed (asked_kind k code))
  has_base Array code = code_0_base Array (eqb code 0) asked.Array (λ e. tt)
  has_base Paired code = go (code_numbered code)
    where
      go : (c : Coded) → Holds (Based Paired) (allowed (asked_code c))
      go (coded c) = λ e. tt
      go not_coded = tt
  has_base (AgainstAnchor inverted) code = code_0_base (AgainstAnchor inverted) (eqb code 0) (asked.List (base.Anchor inverted)) (λ e. e)
  has_base (AgainstCategory category) code =
      code_0_base (AgainstCategory category) (eqb code 0) (asked.List (base.Category category))
      (λ e. length-replicate (length categories) category)
  has_base NoKind code = tt

  pub asked_has_base : (number code : ℕ)
      → Holds (λ (a : Asked) (left : List ℕ). length anchor ≡ pick (leans number) (length categories) 0 → HasBase a anchor categories)
      (allowed (asked_for number code))
  asked_has_base number code = has_base (kind number) code
