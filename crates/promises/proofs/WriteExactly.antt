-- The writer: accepted exactly when what it is lent is in order and the output has room for the record of these categories; and what it then gives.
-- Assumes nothing.
use mathlib.Core.Path.{◌≡◌, refl, sym, ap, ◌∙◌, subst}
use Prim.Native.Nat.{ℕ, zero, suc, ◌≤◌, ◌<◌}
use mathlib.Core.Bool.{Bool, true, false, ◌&&◌, ◌||◌}
use mathlib.Core.Logic.{◌↔◌}
use mathlib.Core.List.{List, [], ◌∷◌, ◌++◌}
use lib.ListN.{length, drop}
use lib.Dec.{eqb, ltb, leb, lit<}
use native.Mathlib.Omega.{arith}
use borrow.Author.Tests.{ltb-true, leb-true, eqb-true, lt-ltb, le-leb, eq-eqb, ne_eqb}
use Rattle.format.specs.Base.{pick, Below, Out, ok, refused, bind, need}
use Rattle.format.specs.Limits.{most_samples}
use Rattle.format.specs.Classes.{writer_numbers, among}
use Rattle.format.specs.PairCode.{code_1, code_2, code_3, code_5, code_6, code_9, Coded, coded, not_coded, code_numbered}
use Rattle.format.specs.declared.Kind.{Kind}
use Rattle.format.specs.declared.Kind.TheVariants.{Array, Paired, AgainstAnchor, AgainstCategory, NoKind}
use Rattle.format.specs.Track.{kind, leans, Track, track_kind, Fits, track_bytes}
use Rattle.format.specs.Track.{track_categories}
use Rattle.format.specs.Layout.{from_1_to}
use Rattle.format.specs.Writer.{pair_track, kind_track, track_for, need_categories, with_track, write_record, track_code, cleared}
use Rattle.format.specs.Reply.{is_accepted, refusal_of, given, write_call}
use Rattle.format.proofs.Rules.{Holds, by_need, never_both}
use Rattle.format.proofs.PairLaws.{IsCode, code_as_written}
use Rattle.format.proofs.OffsetsLaws.{from_1_to_most, from_1_to_positive}
use Rattle.format.proofs.WriterLaws.{Writes, track_for_writes}
use Rattle.format.proofs.WriteBackLaws.{lent_for, track_back}
use Rattle.format.proofs.CallRefusals.{write_refusals}
use Rattle.promises.proofs.CallLaws.{accepted, passed}

-- ---- what the writer is asked for

-- The record of a kind and a pair code that stands for the categories over an anchor: 01, "A listed sample's bit may be either; the writer clears it."
pub record RecordFor (categories : List ℕ) (number code : ℕ) (anchor : List ℕ) (track : Track) : Type 0 where
  pub kind_is : track_kind track ≡ number
  pub code_is : track_code track ≡ code
  pub fits : Fits (length categories) anchor track
  pub stands_for : track_categories (length categories) anchor track ≡ categories
  pub bits_clear : cleared track ≡ track

-- 01: "category count outside 1 to 65,536" (4), "kind or pair code not allowed" (19: there is no such record), "anchor not as long as the categories in
-- kinds 2 and 3, or not empty in another" (10), "category above 3" (20), "output shorter than the record" (10)
pub record MayWrite (categories : List ℕ) (number code : ℕ) (anchor output : List ℕ) (track : Track) : Type 0 where
  pub some : 1 ≤ length categories
  pub few : length categories ≤ most_samples
  pub is_record : RecordFor categories number code anchor track
  pub anchor_count : length anchor ≡ pick (leans number) (length categories) 0
  pub categories_small : Below 4 categories
  pub anchor_small : Below 4 anchor
  pub room : length (track_bytes (length categories) track) ≤ length output

-- 01: "main-track kinds 0, 1, 2, 3, 4, 6, 7"; "a pair code (0 unless kind 1)"; "Code and pair: 1 is 0,1; 2 is 0,2; 3 is 0,3; 5 is 1,2; 6 is 1,3; 9 is 2,3."
abbrev pub kind_and_code_allowed : ℕ → ℕ → Bool
kind_and_code_allowed number code =
    pick (eqb number 1) (among (1 ∷ 2 ∷ 3 ∷ 5 ∷ 6 ∷ 9 ∷ []) code) (among (0 ∷ 2 ∷ 3 ∷ 4 ∷ 6 ∷ 7 ∷ []) number && eqb code 0)

-- ---- refusal 20: passed exactly when each category is below 4

pub categories_exactly : {A : Type 0} (i : ℕ) (categories : List ℕ) (next : Out A) (a : A) (left : List ℕ)
    → (need_categories i categories next ≡ ok a left) ↔ (Below 4 categories × (next ≡ ok a left))
unfolding need_categories
categories_exactly i [] next a left = (λ e. (tt, e), λ h. h.1)
categories_exactly i (c ∷ categories) next a left = (
  λ e.
      let t = passed (ltb c 4) 20 i (need_categories (suc i) categories next) a left e in
      let r = (categories_exactly (suc i) categories next a left).0 t.1 in
      ((ltb-true c 4 t.0, r.0), r.1),
  λ h. simp (lt-ltb c 4 h.0.0) ((categories_exactly (suc i) categories next a left).1 (h.0.1, h.1)),
)

-- ---- the track

-- it has the code that was asked for
code_kept : (k : Kind) (code : ℕ) (anchor categories : List ℕ)
    → Holds (λ (t : Track) (left : List ℕ). track_code t ≡ code) (kind_track k code anchor categories)
unfolding kind_track
code_kept Array code anchor categories = by_need _ (eqb code 0) 19 0 _ (λ t. sym (eqb-true code 0 t))
code_kept Paired code anchor categories = go (code_numbered code) (code_as_written code)
  where
    go : (found : Coded) → IsCode code found → Holds (λ (t : Track) (left : List ℕ). track_code t ≡ code) (pair_track categories found)
    go (coded c) e = sym e
    go not_coded e = tt
code_kept (AgainstAnchor inverted) code anchor categories = by_need _ (eqb code 0) 19 0 _ (λ t. sym (eqb-true code 0 t))
code_kept (AgainstCategory base) code anchor categories = by_need _ (eqb code 0) 19 0 _ (λ t. sym (eqb-true code 0 t))
code_kept NoKind code anchor categories = tt

-- 19 is given for the others, kind by kind and code by code
zero_code : {A : Type 0} (b : Bool) (a : A) → is_accepted (need b 19 0 (ok a [])) ≡ b
zero_code true a = refl
zero_code false a = refl

allowed_kinds : (number code : ℕ) (anchor categories : List ℕ) → is_accepted (track_for number code anchor categories) ≡ kind_and_code_allowed number code
unfolding kind_track code_numbered
allowed_kinds zero code anchor categories = zero_code (eqb code 0) _
allowed_kinds (suc zero) code anchor categories = go (eqb code 1) (eqb code 2) (eqb code 3) (eqb code 5) (eqb code 6) (eqb code 9)
  where
    go : (a b c d e f : Bool)
        → is_accepted (pair_track categories (pick a (coded code_1) (pick b (coded code_2) (pick c (coded code_3) (pick d (coded code_5)
        (pick e (coded code_6) (pick f (coded code_9) not_coded)))))))
        ≡ a || (b || (c || (d || (e || (f || false)))))
    go true b c d e f = refl
    go false true c d e f = refl
    go false false true d e f = refl
    go false false false true e f = refl
    go false false false false true f = refl
    go false false false false false true = refl
    go false false false false false false = refl
allowed_kinds (suc (suc zero)) code anchor categories = zero_code (eqb code 0) _
allowed_kinds (suc (suc (suc zero))) code anchor categories = zero_code (eqb code 0) _
allowed_kinds (suc (suc (suc (suc zero)))) code anchor categories = zero_code (eqb code 0) _
allowed_kinds (suc (suc (suc (suc (suc zero))))) code anchor categories = refl
allowed_kinds (suc (suc (suc (suc (suc (suc zero)))))) code anchor categories = zero_code (eqb code 0) _
allowed_kinds (suc (suc (suc (suc (suc (suc (suc zero))))))) code anchor categories = zero_code (eqb code 0) _
allowed_kinds (suc (suc (suc (suc (suc (suc (suc (suc n)))))))) code anchor categories =
    let none : (k : ℕ) → k < 8 → eqb (suc (suc (suc (suc (suc (suc (suc (suc n)))))))) k ≡ false = λ k l. ne_eqb _ k (λ e. omega arith) in
    simp (none 0 (lit< tt), none 1 (lit< tt), none 2 (lit< tt), none 3 (lit< tt), none 4 (lit< tt), none 6 (lit< tt), none 7 (lit< tt))

-- an anchor that is lent only where the kind leans
only_lent : (b : Bool) (n : ℕ) (anchor : List ℕ) → length anchor ≡ pick b n 0 → pick b anchor [] ≡ anchor
only_lent true n anchor e = refl
only_lent false n [] e = refl
only_lent false n (a ∷ anchor) e = absurd (omega arith)

module _ (categories : List ℕ) (number code : ℕ) (anchor : List ℕ) where
  abbrev n : ℕ
  n = length categories

  module _ (lent : length anchor ≡ pick (leans number) n 0) where
    lent_count : leans number ≡ true → length anchor ≡ n
    lent_count t = lent ∙ ap (λ (b : Bool). pick b n 0) t

    -- a track that stands for the categories, written again
    back : (t : Track) → track_kind t ≡ number → track_code t ≡ code → Fits n anchor t → track_categories n anchor t ≡ categories
        → track_for number code anchor categories ≡ ok (cleared t) []
    back t k c f s =
        let again : track_for (track_kind t) (track_code t) (lent_for t anchor) (track_categories n anchor t) ≡ ok (cleared t) []
        = track_back n anchor t f (λ u. lent_count (sym (ap leans k) ∙ u)) (ap length s) in
        sym (ap (λ (x : List ℕ). track_for number code x categories) (only_lent (leans number) n anchor lent))
        ∙ sym (ap (λ (x : ℕ). track_for x code (pick (leans x) anchor []) categories) k)
        ∙ sym (ap (λ (x : ℕ). track_for (track_kind t) x (lent_for t anchor) categories) c)
        ∙ sym (ap (track_for (track_kind t) (track_code t) (lent_for t anchor)) s)
        ∙ again

    found : (t : Track) → RecordFor categories number code anchor t → track_for number code anchor categories ≡ ok t []
    found t r = back t r.kind_is r.code_is r.fits r.stands_for ∙ ap (λ (x : Track). ok x []) r.bits_clear

    made : Below 4 categories → (t : Track) (left : List ℕ) → track_for number code anchor categories ≡ ok t left → RecordFor categories number code anchor t
    made b t left e =
        let w : Writes number anchor categories t left
        = subst (Holds (Writes number anchor categories)) e (track_for_writes number code anchor categories b lent_count) in
        let c : track_code t ≡ code
        = subst (Holds (λ (x : Track) (rest : List ℕ). track_code x ≡ code)) e (code_kept (kind number) code anchor categories) in
        let same : track_for number code anchor categories ≡ ok (cleared t) [] = back t w.kind_is c w.fits w.stands_for in
        record { kind_is = w.kind_is; code_is = c; fits = w.fits; stands_for = w.stands_for; bits_clear = cc }

    -- there is such a record exactly when document 01 allows the kind and the code
    pub record_for_exactly : Below 4 categories → ((t : Track) × RecordFor categories number code anchor t) ↔ (kind_and_code_allowed number code ≡ true)
    record_for_exactly b = (
      λ h. sym (allowed_kinds number code anchor categories) ∙ ap is_accepted (found h.0 h.1),
      λ t. there (track_for number code anchor categories) refl (allowed_kinds number code anchor categories ∙ t),
    )
      where
        there : (m : Out Track) → track_for number code anchor categories ≡ m → is_accepted m ≡ true → (t : Track) × RecordFor categories number code anchor t
        there (ok t left) e a = (t, made b t left e)
        there (refused why) e a = never_both a refl

  -- ---- 4, 19 and the anchor's 10: what comes after them is reached exactly with such a record

  pub record Reaches (t : Track) : Type 0 where
    pub some : 1 ≤ n
    pub few : n ≤ most_samples
    pub lent : length anchor ≡ pick (leans number) n 0
    pub is_record : Below 4 categories → RecordFor categories number code anchor t

  pub track_passes : (t : Track) (next : Track → Out (List ℕ)) → 1 ≤ n → n ≤ most_samples → length anchor ≡ pick (leans number) n 0
      → RecordFor categories number code anchor t
      → with_track categories number code anchor next ≡ next t
  track_passes t next some few lent r =
      simp (le-leb 1 n some, le-leb n most_samples few, found lent t r) (simp (eq-eqb (length anchor) (pick (leans number) n 0) lent))

  pub track_reached : (next : Track → Out (List ℕ)) (bs left : List ℕ) → with_track categories number code anchor next ≡ ok bs left
      → (t : Track) × Reaches t × (next t ≡ ok bs left)
  track_reached next bs left e =
      let a = passed (from_1_to most_samples n) 4 0 _ bs left e in
      go (track_for number code anchor categories) refl a.0 a.1
    where
      go : (m : Out Track) → track_for number code anchor categories ≡ m → from_1_to most_samples n ≡ true
          → bind m (λ t left₁. need (eqb (length anchor) (pick (leans number) n 0)) 10 0 (next t)) ≡ ok bs left
          → (t : Track) × Reaches t × (next t ≡ ok bs left)
      go (refused why) q sized e = let z : ◌≡◌ {A = ℕ} 0 1 = cc in absurd (omega arith)
      go (ok t left₁) q sized e =
          let b = passed (eqb (length anchor) (pick (leans number) n 0)) 10 0 (next t) bs left e in
          let lent : length anchor ≡ pick (leans number) n 0 = eqb-true (length anchor) (pick (leans number) n 0) b.0 in
          let reaches : Reaches t
          = record {
            some = from_1_to_positive most_samples n sized;
            few = from_1_to_most most_samples n sized;
            lent = lent;
            is_record = λ small. made lent small t left₁ q;
          } in
          (t, reaches, b.1)

  module _ (output : List ℕ) where
    write_passes : (t : Track) → MayWrite categories number code anchor output t
        → write_record categories number code anchor (length output) ≡ ok (track_bytes n t) []
    unfolding write_record
    write_passes t m =
        track_passes t _ m.some m.few m.anchor_count m.is_record
        ∙ (categories_exactly 0 categories _ (track_bytes n t) []).1 (
          m.categories_small,
          (categories_exactly 0 anchor _ (track_bytes n t) []).1 (m.anchor_small, simp (le-leb (length (track_bytes n t)) (length output) m.room)),
        )

    may_write : (bs left : List ℕ) → write_record categories number code anchor (length output) ≡ ok bs left
        → (t : Track) × MayWrite categories number code anchor output t
    unfolding write_record
    may_write bs left e =
        let a = track_reached _ bs left e in
        let t : Track = a.0 in
        let r : Reaches t = a.1 in
        let c = (categories_exactly 0 categories _ bs left).0 a.2 in
        let d = (categories_exactly 0 anchor _ bs left).0 c.1 in
        let f = passed (leb (length (track_bytes n t)) (length output)) 10 0 _ bs left d.1 in (
          t,
          record {
            some = r.some;
            few = r.few;
            is_record = r.is_record c.0;
            anchor_count = r.lent;
            categories_small = c.0;
            anchor_small = d.0;
            room = leb-true (length (track_bytes n t)) (length output) f.0;
          },
        )

    -- DEMAND 2 of the writer: accepted exactly when there are 1 to 65,536 categories, all below 4 as the anchor's are, the anchor is as long as the kind
    -- asks, and there is a record for them that the output has room for
    pub write_exactly : ((write_call categories number code anchor output).verdict.refusal.number ≡ 0)
        ↔ ((t : Track) × MayWrite categories number code anchor output t)
    unfolding write_call
    write_exactly = (
      λ e.
          let a = accepted writer_numbers refl (write_record categories number code anchor (length output))
          (write_refusals categories number code anchor (length output)) e in
          may_write a.0 a.1 a.2,
      λ h. ap (λ (out : Out (List ℕ)). (refusal_of out).number) (write_passes h.0 h.1),
    )

    -- and then it gives that record, and the count of its bytes
    pub write_gives : (t : Track) → MayWrite categories number code anchor output t
        → ((write_call categories number code anchor output).count ≡ length (track_bytes n t))
        × ((write_call categories number code anchor output).output ≡ track_bytes n t ++ drop (length (track_bytes n t)) output)
    unfolding write_call
    write_gives t m = (
      ap (given length 0) (write_passes t m),
      ap (given (λ (bs : List ℕ). bs ++ drop (length bs) output) output) (write_passes t m),
    )
