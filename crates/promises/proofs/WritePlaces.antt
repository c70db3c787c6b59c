-- Where the writers refuse: 4, 10 and 19 at 0; 20 at the index of the first category above 3; 22 at that of the first phase that is not allowed.
-- Assumes nothing.
use mathlib.Core.Path.{◌≡◌, refl, subst}
use Prim.Native.Nat.{ℕ, suc, ◌+◌, ◌<◌}
use mathlib.Core.Bool.{true, false}
use mathlib.Core.List.{List, [], ◌∷◌}
use lib.ListN.{length, take, get_or}
use lib.Dec.{eqb, ltb, leb}
use native.Mathlib.Omega.{arith}
use borrow.Author.Tests.{ltb-true, lt-ltb}
use Rattle.format.specs.declared.Refusal.{Refusal}
use Rattle.format.specs.Base.{pick, Below, Out, ok, refused, refusal}
use Rattle.format.specs.Limits.{most_samples}
use Rattle.format.specs.Classes.{among}
use Rattle.format.specs.PairCode.{Coded, coded, not_coded, code_numbered}
use Rattle.format.specs.declared.Kind.{Kind}
use Rattle.format.specs.declared.Kind.TheVariants.{Array, Paired, AgainstAnchor, AgainstCategory, NoKind}
use Rattle.format.specs.Track.{kind, leans, Track, track_bytes}
use Rattle.format.specs.Body.{body_bytes}
use Rattle.format.specs.Layout.{from_1_to}
use Rattle.format.specs.Writer.{pair_track, kind_track, track_for, need_categories, with_track, within, write_record, phase_allowed, need_phases}
use Rattle.format.specs.Writer.{phased_body, write_phased}
use Rattle.format.specs.Phase.{first_of, rest_of}
use Rattle.format.specs.Reply.{refusal_of, write_call, write_phased_call}
use Rattle.format.specs.Variant.{file_variant}
use Rattle.format.proofs.Rules.{never_both, split}
use Rattle.format.proofs.Refuses.{RefusalIs, is_need, is_then}
use Rattle.format.proofs.PhaseWriterLaws.{AllAllowed}
use Rattle.promises.proofs.PhasedWriteExactly.{first_at, rest_at}

-- the first category above 3 of a buffer
pub record FirstAbove (categories : List ℕ) (index : ℕ) : Type 0 where
  pub there : index < length categories
  pub above : 3 < get_or categories index 0
  pub first : Below 4 (take index categories)

-- 01: "20 (categories, then anchor; the index counts within its own buffer)"
pub data AboveThree (categories anchor : List ℕ) (index : ℕ) : Type 0 where
  in_categories : FirstAbove categories index → AboveThree categories anchor index
  in_anchor : Below 4 categories → FirstAbove anchor index → AboveThree categories anchor index

pub record WritePlaceIs (categories anchor : List ℕ) (why : Refusal) : Type 0 where
  pub at_zero : among (4 ∷ 10 ∷ 19 ∷ []) why.number ≡ true → why.place ≡ 0
  pub at_index : why.number ≡ 20 → AboveThree categories anchor why.place
  -- 02, Ask 2: the variant is 0 "from a writer"
  pub names_zero : why.variant ≡ file_variant 0

-- 02, Ask 1: "a phase above 2 or a nonzero one outside category 1, at its index": the first such
pub record FirstNotAllowed (categories phases : List ℕ) (index : ℕ) : Type 0 where
  pub there : index < length categories
  pub not_allowed : phase_allowed (get_or categories index 0) (get_or phases index 0) ≡ false
  pub first : AllAllowed (take index categories) phases

pub record PhasedPlaceIs (categories phases anchor : List ℕ) (why : Refusal) : Type 0 where
  pub as_before : WritePlaceIs categories anchor why
  pub at_phase : why.number ≡ 22 → FirstNotAllowed categories phases why.place

-- ---- 20 and 22, at an index from i on

categories_places : {A : Type 0} (P : Refusal → Type 0) (i : ℕ) (categories : List ℕ) (next : Out A)
    → ((j : ℕ) → FirstAbove categories j → P (refusal 20 (i + j))) → (Below 4 categories → RefusalIs P next)
    → RefusalIs P (need_categories i categories next)
unfolding need_categories
categories_places P i [] next h k = k tt
categories_places P i (c ∷ categories) next h k =
    is_need P (ltb c 4) 20 i _
    (λ t.
    let high : 3 < c = split c 3 (λ l. never_both (lt-ltb c 4 (omega arith)) t) (λ l. l) in
    let same : i + 0 ≡ i = omega arith in
    subst (λ (n : ℕ). P (refusal 20 n)) same (h 0 (record { there = omega arith; above = high; first = tt })))
    (λ t.
    categories_places P (suc i) categories next
    (λ j f.
    let same : i + suc j ≡ suc i + j = omega arith in
    subst (λ (n : ℕ). P (refusal 20 n)) same
    (h (suc j) (record { there = omega (arith, f.there); above = f.above; first = (ltb-true c 4 t, f.first) })))
    (λ b. k (ltb-true c 4 t, b)))

phases_places : {A : Type 0} (P : Refusal → Type 0) (i : ℕ) (categories phases : List ℕ) (next : Out A)
    → ((j : ℕ) → FirstNotAllowed categories phases j → P (refusal 22 (i + j))) → RefusalIs P next
    → RefusalIs P (need_phases i categories phases next)
unfolding need_phases
phases_places P i [] phases next h k = k
phases_places P i (c ∷ categories) phases next h k =
    is_need P (phase_allowed c (first_of phases)) 22 i _
    (λ t.
    let same : i + 0 ≡ i = omega arith in
    subst (λ (n : ℕ). P (refusal 22 n)) same (h 0 (record { there = omega arith; not_allowed = rw first_at at t; first = tt })))
    (λ t.
    phases_places P (suc i) categories (rest_of phases) next
    (λ j f.
    let same : i + suc j ≡ suc i + j = omega arith in
    subst (λ (n : ℕ). P (refusal 22 n)) same
    (h (suc j) (record { there = omega (arith, f.there); not_allowed = rw rest_at at f.not_allowed; first = (t, f.first) }))) k)

-- ---- what both writers check

module _ (categories : List ℕ) (number code : ℕ) (anchor : List ℕ) (P : Refusal → Type 0)
    (zeroth : (n : ℕ) → among (4 ∷ 10 ∷ 19 ∷ []) n ≡ true → P (refusal n 0)) where
  track_places : (k : Kind) → RefusalIs P (kind_track k code anchor categories)
  unfolding kind_track
  track_places Array = is_need P (eqb code 0) 19 0 _ (λ t. zeroth 19 refl) (λ t. tt)
  track_places Paired = go (code_numbered code)
    where
      go : (found : Coded) → RefusalIs P (pair_track categories found)
      go (coded c) = tt
      go not_coded = zeroth 19 refl
  track_places (AgainstAnchor inverted) = is_need P (eqb code 0) 19 0 _ (λ t. zeroth 19 refl) (λ t. tt)
  track_places (AgainstCategory base) = is_need P (eqb code 0) 19 0 _ (λ t. zeroth 19 refl) (λ t. tt)
  track_places NoKind = zeroth 19 refl

  with_track_places : (next : Track → Out (List ℕ)) → ((track : Track) → RefusalIs P (next track))
      → RefusalIs P (with_track categories number code anchor next)
  with_track_places next h =
      let n : ℕ = length categories in
      is_need P (from_1_to most_samples n) 4 0 _ (λ t. zeroth 4 refl) (λ t.
      is_then P (track_for number code anchor categories) _ (track_places (kind number)) (λ track left.
      is_need P (eqb (length anchor) (pick (leans number) n 0)) 10 0 _ (λ u. zeroth 10 refl) (λ u. h track)))

  both_places : (next : Out (List ℕ)) → ((j : ℕ) → AboveThree categories anchor j → P (refusal 20 j)) → RefusalIs P next
      → RefusalIs P (need_categories 0 categories (need_categories 0 anchor next))
  both_places next h k =
      categories_places P 0 categories _ (λ j f. counted j (in_categories f)) (λ b.
      categories_places P 0 anchor _ (λ j f. counted j (in_anchor b f)) (λ c. k))
    where
      -- from the buffer's start
      counted : (j : ℕ) → AboveThree categories anchor j → P (refusal 20 (0 + j))
      counted j a = let same : j ≡ 0 + j = omega arith in subst (λ (i : ℕ). P (refusal 20 i)) same (h j a)

  within_places : (room : ℕ) (bs : List ℕ) → RefusalIs P (within room bs)
  within_places room bs = is_need P (leb (length bs) room) 10 0 _ (λ v. zeroth 10 refl) (λ v. tt)

-- a refusal at 0, and one at an index
at_zeroth : (categories anchor : List ℕ) (n : ℕ) → (n ≡ 20 → ⊥) → WritePlaceIs categories anchor (refusal n 0)
at_zeroth categories anchor n e = record { at_zero = λ t. refl; at_index = λ q. absurd (e q); names_zero = refl }

at_index_of : (categories anchor : List ℕ) (j : ℕ) → AboveThree categories anchor j → WritePlaceIs categories anchor (refusal 20 j)
at_index_of categories anchor j a = record { at_zero = λ t. never_both t refl; at_index = λ q. a; names_zero = refl }

refusal_place : {A : Type 0} (P : Refusal → Type 0) → P (refusal 0 0) → (out : Out A) → RefusalIs P out → P (refusal_of out)
refusal_place P none (ok a left) r = none
refusal_place P none (refused why) r = r

not_among : {n : ℕ} (class : List ℕ) → among class n ≡ true → (k : ℕ) → among class k ≡ false → n ≡ k → ⊥
not_among class t k f e = never_both (subst (λ (i : ℕ). among class i ≡ true) e t) f

module _ (categories : List ℕ) (number code : ℕ) (anchor : List ℕ) where
  -- 01, Replies: 4 "with place 0", 10 and 19 at "0", 20 at "its index"
  pub write_place : (output : List ℕ) → WritePlaceIs categories anchor (write_call categories number code anchor output).verdict.refusal
  unfolding write_call write_record
  write_place output =
      let P : Refusal → Type 0 = WritePlaceIs categories anchor in
      let zeroth : (n : ℕ) → among (4 ∷ 10 ∷ 19 ∷ []) n ≡ true → P (refusal n 0)
      = λ n t. at_zeroth categories anchor n (not_among (4 ∷ 10 ∷ 19 ∷ []) t 20 refl) in
      refusal_place P (at_zeroth categories anchor 0 (λ e. omega arith)) (write_record categories number code anchor (length output))
      (with_track_places categories number code anchor P zeroth _ (λ track.
      both_places categories number code anchor P zeroth _ (at_index_of categories anchor)
      (within_places categories number code anchor P zeroth (length output) (track_bytes (length categories) track))))

  -- 02, Ask 1: of a phased record, 10 also at 0, and 22 "at its index"
  pub write_phased_place : (phases output : List ℕ)
      → PhasedPlaceIs categories phases anchor (write_phased_call categories phases number code anchor output).verdict.refusal
  unfolding write_phased_call write_phased
  write_phased_place phases output =
      let P : Refusal → Type 0 = PhasedPlaceIs categories phases anchor in
      let zeroth : (n : ℕ) → among (4 ∷ 10 ∷ 19 ∷ []) n ≡ true → P (refusal n 0)
      = λ n t. record {
        as_before = at_zeroth categories anchor n (not_among (4 ∷ 10 ∷ 19 ∷ []) t 20 refl);
        at_phase = λ q. absurd (not_among (4 ∷ 10 ∷ 19 ∷ []) t 22 refl q);
      } in
      let none : P (refusal 0 0) = record { as_before = at_zeroth categories anchor 0 (λ e. omega arith); at_phase = λ q. absurd (omega arith) } in
      refusal_place P none (write_phased categories phases number code anchor (length output))
      (with_track_places categories number code anchor P zeroth _ (λ track.
      is_need P (eqb (length phases) (length categories)) 10 0 _ (λ t. zeroth 10 refl) (λ t.
      both_places categories number code anchor P zeroth _
      (λ j a. record { as_before = at_index_of categories anchor j a; at_phase = λ q. absurd (omega arith) })
      (phases_places P 0 categories phases _ (λ j f. counted j f)
      (within_places categories number code anchor P zeroth (length output) (body_bytes (length categories) (phased_body categories phases track)))))))
    where
      counted : (j : ℕ) → FirstNotAllowed categories phases j → PhasedPlaceIs categories phases anchor (refusal 22 (0 + j))
      counted j f =
          let same : j ≡ 0 + j = omega arith in
          subst (λ (i : ℕ). PhasedPlaceIs categories phases anchor (refusal 22 i)) same (
          record {
            as_before = record { at_zero = λ t. never_both t refl; at_index = λ q. absurd (omega arith); names_zero = refl };
            at_phase = λ q. f;
          })
