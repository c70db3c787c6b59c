-- What both calls share: the format's writer is the checks, then the bytes if there is room; and the reply.
-- Assumes nothing.
use Rattle.std.specs.Prelude.{Option, Some, None, Ok, Err}
use mathlib.Core.Path.{◌≡◌, refl, sym, ap, ◌∙◌, subst}
use Prim.Native.Nat.{ℕ, suc, ◌≤◌, ◌<◌}
use native.Mathlib.Omega.{arith}
use native.Mathlib.Nat.{zero-add}
use mathlib.Core.Bool.{Bool}
use mathlib.Core.List.{List, [], ◌∷◌}
use lib.ListN.{length, length-append}
use lib.Dec.{eqb, ltb, leb}
use borrow.Author.Tests.{ltb-true, leb-true, le-leb, lt-leb, eqb-true}
use Rattle.format.specs.declared.Refusal.{Refusal}
use Rattle.format.specs.Base.{pick, Below, Out, ok, refused, refusal, bind, map_out, need}
use Rattle.format.specs.Limits.{most_samples}
use Rattle.format.specs.Varint.{varint_bytes}
use Rattle.format.specs.Packed.{two}
use Rattle.format.specs.Difflist.{Entry, number_width, list_parts}
use Rattle.format.specs.Track.{kind, leans, Track, track_bytes}
use Rattle.format.specs.Layout.{from_1_to}
use Rattle.format.specs.Writer.{kind_track, need_categories, with_track, within}
use Rattle.format.specs.Reply.{write_left, written}
use Rattle.format.proofs.Rules.{Holds, by_need, by_bind, need_then}
use Rattle.format.proofs.VarintLaws.{varint_length}
use Rattle.format.proofs.PackedLaws.{packed_length}
use Rattle.format.proofs.OffsetsLaws.{from_1_to_most, from_1_to_positive}
use Rattle.write_parts.specs.Rows.{listed_entries}
use Rattle.write_bytes.specs.Written.{Wrote}
use Rattle.write_bytes.proofs.WrittenLaws.{wrote_front}
use Rattle.call_write.specs.Asked.{asked_for, asked_bytes, HasBase, AskedFits}
use Rattle.call_write.specs.Checked.{allowed, check_categories, kind_checks, kind_out}
use Rattle.call_write.specs.declared.Asked.{Asked}
use Rattle.call_write.specs.declared.Asked.TheVariants as asked
use Rattle.call_write.proofs.AskedLaws.{track_asked, asked_has_base}

-- ---- steps put together

pub bind_alike : {A B : Type 0} (m : Out A) (f g : A → List ℕ → Out B) → ((a : A) (left : List ℕ) → f a left ≡ g a left) → bind m f ≡ bind m g
bind_alike (ok a left) f g e = e a left
bind_alike (refused why) f g e = refl

pub bind_bind : {A B C : Type 0} (m : Out A) (f : A → List ℕ → Out B) (g : B → List ℕ → Out C)
    → bind (bind m f) g ≡ bind m (λ a left. bind (f a left) g)
bind_bind (ok a left) f g = refl
bind_bind (refused why) f g = refl

bind_map : {A B C : Type 0} (g : A → B) (m : Out A) (f : B → Out C) → bind m (λ a left. f (g a)) ≡ bind (map_out g m) (λ b left. f b)
bind_map g (ok a left) f = refl
bind_map g (refused why) f = refl

categories_bind : {A B : Type 0} (i : ℕ) (categories : List ℕ) (m : Out A) (f : A → List ℕ → Out B)
    → bind (need_categories i categories m) f ≡ need_categories i categories (bind m f)
unfolding need_categories
categories_bind i [] m f = refl
categories_bind i (c ∷ categories) m f = need_then (ltb c 4) 20 i _ f ∙ ap (need (ltb c 4) 20 i) (categories_bind (suc i) categories m f)

-- 20, then what comes next
pub categories_then : {A B : Type 0} (a : A) (categories anchor : List ℕ) (f : A → List ℕ → Out B)
    → need_categories 0 categories (need_categories 0 anchor (f a [])) ≡ bind (check_categories a categories anchor) f
categories_then a categories anchor f =
    sym (categories_bind 0 categories _ f ∙ ap (need_categories 0 categories) (categories_bind 0 anchor (ok a []) f))

-- ---- 4, 19, 10: the track's bytes are what is asked for

module _ {B : Type 0} (categories : List ℕ) (number code : ℕ) (anchor : List ℕ) (f : List ℕ → Out B) where
  abbrev there : Bool
  there = eqb (length anchor) (pick (leans number) (length categories) 0)

  abbrev others : List ℕ → Out B
  others bytes = need there 10 0 (f bytes)

  allowed_then : (o : Option Asked)
      → bind (bind (allowed o) (λ b left. ok (asked_bytes b anchor categories) [])) (λ bytes left. others bytes)
      ≡ bind (bind (allowed o) (λ b left. need there 10 0 (ok b []))) (λ b left. f (asked_bytes b anchor categories))
  allowed_then (Some a) = sym (need_then there 10 0 _ _)
  allowed_then None = refl

  pub kind_then : with_track categories number code anchor (λ (track : Track). f (track_bytes (length categories) track))
      ≡ bind (kind_out categories number code anchor) (λ a left. f (asked_bytes a anchor categories))
  unfolding kind_checks
  kind_then =
      ap (need (from_1_to most_samples (length categories)) 4 0)
      (bind_map (track_bytes (length categories)) (kind_track (kind number) code anchor categories) others
      ∙ ap (λ (m : Out (List ℕ)). bind m (λ bytes left. others bytes)) (track_asked anchor categories (kind number) code)
      ∙ allowed_then (asked_for number code))
      ∙ sym (need_then (from_1_to most_samples (length categories)) 4 0 _ _)

-- ---- what the checks leave known

pub record KindFits (categories anchor : List ℕ) (a : Asked) (left : List ℕ) : Type 0 where
  pub has_base : HasBase a anchor categories
  pub some : 1 ≤ length categories
  pub few : length categories ≤ most_samples

module _ (categories : List ℕ) (number code : ℕ) (anchor : List ℕ) where
  pub kind_fits : Holds (KindFits categories anchor) (kind_out categories number code anchor)
  unfolding kind_checks
  kind_fits =
      by_need _ (from_1_to most_samples (length categories)) _ _ _ (λ sized.
      by_bind (λ (b : Asked) (left : List ℕ). length anchor ≡ pick (leans number) (length categories) 0 → HasBase b anchor categories) _
      (allowed (asked_for number code)) _ (asked_has_base anchor categories number code) (λ a left based.
      by_need _ (eqb (length anchor) (pick (leans number) (length categories) 0)) _ _ _ (λ there.
      record {
        has_base = based (eqb-true (length anchor) _ there);
        some = from_1_to_positive most_samples (length categories) sized;
        few = from_1_to_most most_samples (length categories) sized;
      })))

by_categories : {A : Type 0} (Q : A → List ℕ → Type 0) (i : ℕ) (categories : List ℕ) (next : Out A) → (Below 4 categories → Holds Q next)
    → Holds Q (need_categories i categories next)
unfolding need_categories
by_categories Q i [] next h = h tt
by_categories Q i (c ∷ categories) next h = by_need Q (ltb c 4) _ _ _ (λ t. by_categories Q (suc i) categories next (λ g. h (ltb-true c 4 t, g)))

record_some : (a : Asked) (anchor categories : List ℕ) → 1 ≤ length categories → 1 ≤ length (asked_bytes a anchor categories)
record_some asked.Array anchor categories h = omega (arith, packed_length two (length categories) categories refl)
record_some (asked.Pair p) anchor categories h = omega arith
record_some (asked.List b) anchor categories h =
    let es : List Entry = listed_entries b anchor categories in
    omega (arith, varint_length (length es), length-append (varint_bytes (length es)) (list_parts (number_width (length categories)) es))

-- a record that passed the checks of both calls: it fits, and has a byte at least
pub record Passed (categories anchor : List ℕ) (a : Asked) (left : List ℕ) : Type 0 where
  pub fits : AskedFits a anchor categories
  pub some : 1 ≤ length (asked_bytes a anchor categories)

pub categories_fit : (a : Asked) (categories anchor left : List ℕ) → KindFits categories anchor a left
    → Holds (Passed categories anchor) (check_categories a categories anchor)
categories_fit a categories anchor left k =
    by_categories _ 0 categories _ (λ small.
    by_categories _ 0 anchor _ (λ lent.
    record {
      fits = record { has_base = k.has_base; few = k.few; small = small };
      some = record_some a anchor categories k.some;
    }))

-- ---- the reply: `out` is the checks, then the bytes if there is room

pub bytes_fit : (Q : Asked → List ℕ → Type 0) (checks : Out Asked) (bytes : Asked → List ℕ) (room : ℕ) (out : Out (List ℕ))
    → out ≡ bind checks (λ a left. within room (bytes a)) → Holds Q checks → ((a : Asked) (left : List ℕ) → Q a left → 1 ≤ length (bytes a))
    → Holds (λ (bs left : List ℕ). (1 ≤ length bs) × (length bs ≤ room)) out
bytes_fit Q checks bytes room out e h some =
    let R : List ℕ → List ℕ → Type 0 = λ bs left. (1 ≤ length bs) × (length bs ≤ room) in
    subst (Holds R) (sym e)
    (by_bind Q R checks _ h (λ a left q. by_need R (leb (length (bytes a)) room) _ _ _ (λ t. (some a left q, leb-true (length (bytes a)) room t))))

module _ (checks : Out Asked) (bytes : Asked → List ℕ) (output : List ℕ) (out : Out (List ℕ))
    (is : out ≡ bind checks (λ a left. within (length output) (bytes a))) where
  pub reply_refused : (why : Refusal) → checks ≡ refused why → write_left (Err why) output ≡ written out output
  reply_refused why e = simp (is, e)

  module _ (a : Asked) (left : List ℕ) (e : checks ≡ ok a left) where
    pub reply_short : length output < length (bytes a) → write_left (Err (refusal 10 0)) output ≡ written out output
    reply_short h = simp (is, e, lt-leb (length (bytes a)) (length output) h)

    pub reply_written : length (bytes a) ≤ length output → (count : ℕ) (after : List ℕ) → Wrote output 0 (bytes a) count after
        → write_left (Ok count) after ≡ written out output
    reply_written h count after w =
        let n : count ≡ length (bytes a) = w.place ∙ zero-add (length (bytes a)) in
        rw (n, wrote_front h w) (simp (is, e, le-leb (length (bytes a)) (length output) h))
