-- The phases that the writer is given: allowed phases make a track that fits, and are what it is read as.
-- Assumes nothing.
use mathlib.Core.Path.{◌≡◌, refl, sym, ap, ap₂, ◌∙◌}
use Prim.Native.Nat.{ℕ, suc, ◌<◌}
use mathlib.Core.Bool.{Bool, true, false}
use mathlib.Core.List.{List, [], ◌∷◌}
use lib.ListN.{length}
use native.Mathlib.Omega.{arith}
use borrow.Author.Tests.{ltb-true, lt-ltb, eqb-true}
use Rattle.format.specs.Base.{pick, Below, Out}
use Rattle.format.specs.Phase.{heterozygous, heterozygous_count, PhaseTrack, some_unphased, PhasesFit, first_of, rest_of, spread, gathered}
use Rattle.format.specs.Writer.{phase_allowed, need_phases, phases_for}
use Rattle.format.proofs.Rules.{Holds, by_test, by_need}
use Rattle.format.proofs.PhaseLaws.{first_below, rest_below}

-- ---- refusal 22

-- every sample's phase is allowed for its category
abbrev pub AllAllowed : List ℕ → List ℕ → Type 0
AllAllowed [] phases = Unit {0}
AllAllowed (category ∷ categories) phases = (phase_allowed category (first_of phases) ≡ true) × AllAllowed categories (rest_of phases)

-- what comes after the rule may take it as kept
pub by_phases : {A : Type 0} (Q : A → List ℕ → Type 0) (i : ℕ) (categories phases : List ℕ) (next : Out A) → (AllAllowed categories phases → Holds Q next)
    → Holds Q (need_phases i categories phases next)
unfolding need_phases
by_phases Q i [] phases next h = h tt
by_phases Q i (category ∷ categories) phases next h =
    by_need Q (phase_allowed category (first_of phases)) _ _ _ (λ t. by_phases Q (suc i) categories (rest_of phases) next (λ g. h (t, g)))

-- allowed phases pass
pub phases_pass : {A : Type 0} (i : ℕ) (categories phases : List ℕ) (next : Out A) → AllAllowed categories phases
    → need_phases i categories phases next ≡ next
unfolding need_phases
phases_pass i [] phases next h = refl
phases_pass i (category ∷ categories) phases next h = simp h.0 (phases_pass (suc i) categories (rest_of phases) next h.1)

-- ---- the track that phases make

-- it has a phase for each heterozygous call
pub gathered_length : (row phases : List ℕ) → length (gathered row phases) ≡ heterozygous_count row
unfolding gathered heterozygous_count
gathered_length [] phases = refl
gathered_length (category ∷ row) phases = go (heterozygous category) (gathered_length row (rest_of phases))
  where
    go : (t : Bool) → length (gathered row (rest_of phases)) ≡ heterozygous_count row
        → length (pick t (first_of phases ∷ gathered row (rest_of phases)) (gathered row (rest_of phases)))
        ≡ pick t (suc (heterozygous_count row)) (heterozygous_count row)
    go true e = ap suc e
    go false e = e

-- what is allowed of a call by its category: any phase of a heterozygous one, none of another
allowed_small : (category phase : ℕ) → phase_allowed category phase ≡ true → heterozygous category ≡ true → phase < 3
allowed_small category phase h t = ltb-true phase 3 (simp t at h)

allowed_none : (category phase : ℕ) → phase_allowed category phase ≡ true → heterozygous category ≡ false → phase ≡ 0
allowed_none category phase h t = eqb-true phase 0 (simp t at h)

gathered_below : (categories phases : List ℕ) → AllAllowed categories phases → Below 3 (gathered categories phases)
unfolding gathered
gathered_below [] phases h = tt
gathered_below (category ∷ categories) phases h =
    by_test (Below 3) (heterozygous category)
    (λ t. (allowed_small category (first_of phases) h.0 t, gathered_below categories (rest_of phases) h.1))
    (λ t. gathered_below categories (rest_of phases) h.1)

-- 02, Ask 1: "a writer, which stores presence bits only if a call is unphased": its track fits
pub phases_fit : (categories phases : List ℕ) → AllAllowed categories phases → PhasesFit (heterozygous_count categories) (phases_for categories phases)
phases_fit categories phases h =
    record { count = gathered_length categories phases; small = gathered_below categories phases h; all_phased = λ q. q }

-- ---- there and back

-- a list with an element is its first and its rest
first_and_rest : (phases : List ℕ) (n : ℕ) → length phases ≡ suc n → first_of phases ∷ rest_of phases ≡ phases
first_and_rest [] n e = absurd (omega arith)
first_and_rest (phase ∷ phases) n e = refl

rest_length : (phases : List ℕ) (n : ℕ) → length phases ≡ suc n → length (rest_of phases) ≡ n
rest_length [] n e = absurd (omega arith)
rest_length (phase ∷ phases) n e = omega arith

-- allowed phases are read as themselves
pub spread_gathered : (categories phases : List ℕ) → AllAllowed categories phases → length phases ≡ length categories
    → spread categories (gathered categories phases) ≡ phases
unfolding spread gathered
spread_gathered [] [] h e = refl
spread_gathered [] (phase ∷ phases) h e = absurd (omega arith)
spread_gathered (category ∷ categories) phases h e =
    go (heterozygous category) (allowed_none category (first_of phases) h.0)
    (spread_gathered categories (rest_of phases) h.1 (rest_length phases (length categories) e))
    ∙ first_and_rest phases (length categories) e
  where
    go : (t : Bool) → (t ≡ false → first_of phases ≡ 0)
        → spread categories (gathered categories (rest_of phases)) ≡ rest_of phases
        → (let gs : List ℕ = pick t (first_of phases ∷ gathered categories (rest_of phases)) (gathered categories (rest_of phases)) in
        pick t (first_of gs ∷ spread categories (rest_of gs)) (0 ∷ spread categories gs))
        ≡ first_of phases ∷ rest_of phases
    go true none e = ap (◌∷◌ (first_of phases)) e
    go false none e = ap₂ ◌∷◌ (sym (none refl)) e

-- what a track is read as gathers to the track's phases
pub gathered_spread : (row phases : List ℕ) → length phases ≡ heterozygous_count row → gathered row (spread row phases) ≡ phases
unfolding spread gathered heterozygous_count
gathered_spread [] [] e = refl
gathered_spread [] (phase ∷ phases) e = absurd (omega arith)
gathered_spread (category ∷ row) phases e =
    go (heterozygous category) e (gathered_spread row (rest_of phases)) (gathered_spread row phases)
  where
    go : (t : Bool) → length phases ≡ pick t (suc (heterozygous_count row)) (heterozygous_count row)
        → (length (rest_of phases) ≡ heterozygous_count row → gathered row (spread row (rest_of phases)) ≡ rest_of phases)
        → (length phases ≡ heterozygous_count row → gathered row (spread row phases) ≡ phases)
        → (let ss : List ℕ = pick t (first_of phases ∷ spread row (rest_of phases)) (0 ∷ spread row phases) in
        pick t (first_of ss ∷ gathered row (rest_of ss)) (gathered row (rest_of ss)))
        ≡ phases
    go true e k l =
        ap (◌∷◌ (first_of phases)) (k (rest_length phases (heterozygous_count row) e)) ∙ first_and_rest phases (heterozygous_count row) e
    go false e k l = l e

-- the track that the writer makes of what a track is read as is that track, if presence bits are stored just where a call is unphased
pub phases_for_spread : (row : List ℕ) (t : PhaseTrack) → PhasesFit (heterozygous_count row) t → t.presence_stored ≡ some_unphased t.phases
    → phases_for row (spread row t.phases) ≡ t
phases_for_spread row t f e =
    ap (λ (ps : List ℕ). track (some_unphased ps) ps) (gathered_spread row t.phases f.count) ∙ ap (λ (b : Bool). track b t.phases) (sym e)
  where
    track : Bool → List ℕ → PhaseTrack
    track b ps = record { presence_stored = b; phases = ps }

-- what a track is read as is allowed
pub spread_allowed : (row phases : List ℕ) → Below 3 phases → AllAllowed row (spread row phases)
unfolding spread
spread_allowed [] phases h = tt
spread_allowed (category ∷ row) phases h =
    go (heterozygous category) refl (spread_allowed row (rest_of phases) (rest_below phases h)) (spread_allowed row phases h)
  where
    go : (t : Bool) → heterozygous category ≡ t → AllAllowed row (spread row (rest_of phases)) → AllAllowed row (spread row phases)
        → AllAllowed (category ∷ row) (pick t (first_of phases ∷ spread row (rest_of phases)) (0 ∷ spread row phases))
    go true q k l = (simp q (lt-ltb (first_of phases) 3 (first_below phases h)), k)
    go false q k l = (simp q, l)
