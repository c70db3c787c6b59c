-- The flip of a phase track: it obeys as before, is as long, twice is none, and exchanges readings 1 and 2.
-- Assumes nothing.
use mathlib.Core.Path.{◌≡◌, refl, sym, ap, ap₂, ◌∙◌}
use Prim.Native.Nat.{ℕ, zero, suc, ◌+◌, ◌-◌, ◌<◌}
use mathlib.Core.Bool.{Bool, true, false, not, ◌||◌}
use mathlib.Core.List.{List, [], ◌∷◌, map}
use lib.ListN.{length, replicate, length-append, length-map}
use lib.Dec.{eqb, lit<}
use native.Mathlib.Omega.{arith}
use Rattle.format.specs.Base.{pick, Below}
use Rattle.format.specs.Packed.{one, packed}
use Rattle.format.specs.Category.{exchange_if, exchange_all, just_one}
use Rattle.format.specs.Phase.{heterozygous, heterozygous_count, is_phased, PhaseTrack, some_unphased, PhasesFit, presence_bits, phase_bits}
use Rattle.format.specs.Phase.{first_bits, phase_track_bytes, first_of, rest_of, ones, spread, exchange_phase, exchange_phases, flip_phase_track}
use Rattle.format.specs.Phase.{Phases, no_phases, phased, has_phases, PhasesObey, phases_bytes, phases_over, flip_phases}
use Rattle.format.proofs.CategoryLaws.{exchange_one, exchange_eqb, exchange_all_length}
use Rattle.format.proofs.PackedLaws.{packed_length}
use Rattle.format.proofs.PhaseLaws.{ones_of_presence}

-- ---- the calls that can be phased

-- the exchange makes no call heterozygous, and none that was other
heterozygous_kept : (b : Bool) (category : ℕ) → heterozygous (exchange_if b category) ≡ heterozygous category
heterozygous_kept b category = ap (eqb (exchange_if b category)) (sym (exchange_one b)) ∙ exchange_eqb b category 1

-- so H stays
pub heterozygous_exchange : (b : Bool) (row : List ℕ) → heterozygous_count (exchange_all b row) ≡ heterozygous_count row
unfolding heterozygous_count
heterozygous_exchange b [] = refl
heterozygous_exchange b (category ∷ row) =
    ap₂ (λ (t : Bool) (n : ℕ). pick t (suc n) n) (heterozygous_kept b category) (heterozygous_exchange b row)

-- and so does what each sample of a row is read as
spread_exchange : (b : Bool) (row phases : List ℕ) → spread (exchange_all b row) phases ≡ spread row phases
unfolding spread
spread_exchange b [] phases = refl
spread_exchange b (category ∷ row) phases =
    ap (λ (t : Bool). pick t (first_of phases ∷ spread (exchange_all b row) (rest_of phases)) (0 ∷ spread (exchange_all b row) phases))
    (heterozygous_kept b category)
    ∙ ap₂ (λ (xs ys : List ℕ). pick (heterozygous category) (first_of phases ∷ xs) (0 ∷ ys)) (spread_exchange b row (rest_of phases))
    (spread_exchange b row phases)

pub phases_over_exchange : (b : Bool) (row : List ℕ) (p : Phases) → phases_over (exchange_all b row) p ≡ phases_over row p
phases_over_exchange b row no_phases = ap (λ (n : ℕ). replicate n 0) (exchange_all_length b row)
phases_over_exchange b row (phased t) = spread_exchange b row t.phases

-- ---- one phase

abbrev turned : Bool → ℕ → ℕ
turned m phase = pick m (exchange_phase phase) phase

-- a call that is phased stays phased
phased_kept : (m : Bool) (phase : ℕ) → is_phased (turned m phase) ≡ is_phased phase
phased_kept false phase = refl
phased_kept true zero = refl
phased_kept true (suc zero) = refl
phased_kept true (suc (suc zero)) = refl
phased_kept true (suc (suc (suc n))) = refl

turned_below : (m : Bool) (phase : ℕ) → phase < 3 → turned m phase < 3
turned_below false phase h = h
turned_below true zero h = h
turned_below true (suc zero) h = lit< tt
turned_below true (suc (suc zero)) h = lit< tt
turned_below true (suc (suc (suc n))) h = h

turned_twice : (a b : Bool) (phase : ℕ) → turned a (turned b phase) ≡ turned (just_one a b) phase
turned_twice false b phase = refl
turned_twice true false phase = refl
turned_twice true true zero = refl
turned_twice true true (suc zero) = refl
turned_twice true true (suc (suc zero)) = refl
turned_twice true true (suc (suc (suc n))) = refl

turned_zero : (m : Bool) → turned m 0 ≡ 0
turned_zero true = refl
turned_zero false = refl

-- ---- the phases of a track

-- no exchange leaves them
pub exchange_phases_none : (phases : List ℕ) → exchange_phases false phases ≡ phases
exchange_phases_none [] = refl
exchange_phases_none (phase ∷ phases) = ap (◌∷◌ phase) (exchange_phases_none phases)

-- two exchanges are one where just one of them is made
pub exchange_phases_twice : (a b : Bool) (phases : List ℕ) → exchange_phases a (exchange_phases b phases) ≡ exchange_phases (just_one a b) phases
exchange_phases_twice a b [] = refl
exchange_phases_twice a b (phase ∷ phases) = ap₂ ◌∷◌ (turned_twice a b phase) (exchange_phases_twice a b phases)

pub exchange_phases_length : (m : Bool) (phases : List ℕ) → length (exchange_phases m phases) ≡ length phases
exchange_phases_length m phases = length-map phases (turned m)

pub exchange_phases_below : (m : Bool) (phases : List ℕ) → Below 3 phases → Below 3 (exchange_phases m phases)
exchange_phases_below m [] h = tt
exchange_phases_below m (phase ∷ phases) h = (turned_below m phase h.0, exchange_phases_below m phases h.1)

-- the presence bits stay
pub presence_kept : (m : Bool) (phases : List ℕ) → presence_bits (exchange_phases m phases) ≡ presence_bits phases
presence_kept m [] = refl
presence_kept m (phase ∷ phases) = ap₂ (λ (t : Bool) (bits : List ℕ). pick t 1 0 ∷ bits) (phased_kept m phase) (presence_kept m phases)

pub some_unphased_kept : (m : Bool) (phases : List ℕ) → some_unphased (exchange_phases m phases) ≡ some_unphased phases
unfolding some_unphased
some_unphased_kept m [] = refl
some_unphased_kept m (phase ∷ phases) = ap₂ (λ (t u : Bool). not t || u) (phased_kept m phase) (some_unphased_kept m phases)

-- and the phase bits are as many
phase_bits_count : (m : Bool) (phases : List ℕ) → length (phase_bits (exchange_phases m phases)) ≡ length (phase_bits phases)
phase_bits_count m phases =
    sym (ones_of_presence (exchange_phases m phases)) ∙ ap ones (presence_kept m phases) ∙ ones_of_presence phases

-- each phase bit turns
pub phase_bits_turn : (phases : List ℕ) → Below 3 phases
    → phase_bits (exchange_phases true phases) ≡ map (λ (bit : ℕ). 1 - bit) (phase_bits phases)
unfolding phase_bits
phase_bits_turn [] h = refl
phase_bits_turn (zero ∷ phases) h = phase_bits_turn phases h.1
phase_bits_turn (suc zero ∷ phases) h = ap (◌∷◌ 1) (phase_bits_turn phases h.1)
phase_bits_turn (suc (suc zero) ∷ phases) h = ap (◌∷◌ 0) (phase_bits_turn phases h.1)
phase_bits_turn (suc (suc (suc n)) ∷ phases) h = absurd (omega (arith, h.0))

-- ---- a track

-- a flipped track fits as before
pub flip_phase_track_fits : (H : ℕ) (t : PhaseTrack) (m : Bool) → PhasesFit H t → PhasesFit H (flip_phase_track m t)
flip_phase_track_fits H t m f = record {
  count = exchange_phases_length m t.phases ∙ f.count;
  small = exchange_phases_below m t.phases f.small;
  all_phased = λ q. some_unphased_kept m t.phases ∙ f.all_phased q;
}

-- what stands before its phase bits stays
pub first_bits_kept : (m : Bool) (t : PhaseTrack) → first_bits (flip_phase_track m t) ≡ first_bits t
first_bits_kept m t =
    ap (λ (bits : List ℕ). pick t.presence_stored 1 0 ∷ pick t.presence_stored bits []) (presence_kept m t.phases)

-- its bytes are as many
pub flip_phase_track_length : (m : Bool) (t : PhaseTrack) → length (phase_track_bytes (flip_phase_track m t)) ≡ length (phase_track_bytes t)
unfolding phase_track_bytes
flip_phase_track_length m t =
    length-append (packed one (first_bits (flip_phase_track m t))) _
    ∙ ap₂ ◌+◌ (ap (λ (bits : List ℕ). length (packed one bits)) (first_bits_kept m t))
    (packed_length one _ (phase_bits (exchange_phases m t.phases)) (phase_bits_count m t.phases)
    ∙ sym (packed_length one _ (phase_bits t.phases) refl))
    ∙ sym (length-append (packed one (first_bits t)) _)

-- ---- a record's phases

-- a flip makes no phase track and takes none away
pub flip_phases_has : (m : Bool) (p : Phases) → has_phases (flip_phases m p) ≡ has_phases p
flip_phases_has m no_phases = refl
flip_phases_has m (phased t) = refl

-- flipped phases obey as before
pub flip_phases_obey : (H : ℕ) (p : Phases) (m : Bool) → PhasesObey H p → PhasesObey H (flip_phases m p)
flip_phases_obey H no_phases m f = tt
flip_phases_obey H (phased t) m f = flip_phase_track_fits H t m f

-- their bytes are as many
pub flip_phases_length : (m : Bool) (p : Phases) → length (phases_bytes (flip_phases m p)) ≡ length (phases_bytes p)
flip_phases_length m no_phases = refl
flip_phases_length m (phased t) = flip_phase_track_length m t

abbrev with_phases : PhaseTrack → List ℕ → Phases
with_phases t phases = phased (record { presence_stored = t.presence_stored; phases = phases })

-- two flips are one where just one of them is made
pub flip_phases_twice : (a b : Bool) (p : Phases) → flip_phases a (flip_phases b p) ≡ flip_phases (just_one a b) p
flip_phases_twice a b no_phases = refl
flip_phases_twice a b (phased t) = ap (with_phases t) (exchange_phases_twice a b t.phases)

-- the flip of no member leaves them
pub flip_phases_none : (p : Phases) → flip_phases false p ≡ p
flip_phases_none no_phases = refl
flip_phases_none (phased t) = ap (with_phases t) (exchange_phases_none t.phases)

-- ---- what a flipped record's samples are read as

zeros_kept : (m : Bool) (n : ℕ) → replicate n 0 ≡ exchange_phases m (replicate n 0)
zeros_kept m zero = refl
zeros_kept m (suc n) = ap₂ ◌∷◌ (sym (turned_zero m)) (zeros_kept m n)

first_turned : (m : Bool) (phases : List ℕ) → first_of (exchange_phases m phases) ≡ turned m (first_of phases)
first_turned m [] = sym (turned_zero m)
first_turned m (phase ∷ phases) = refl

rest_turned : (m : Bool) (phases : List ℕ) → rest_of (exchange_phases m phases) ≡ exchange_phases m (rest_of phases)
rest_turned m [] = refl
rest_turned m (phase ∷ phases) = refl

spread_turned : (m : Bool) (row phases : List ℕ) → spread row (exchange_phases m phases) ≡ exchange_phases m (spread row phases)
unfolding spread
spread_turned m [] phases = refl
spread_turned m (category ∷ row) phases =
    go (heterozygous category) (ap (spread row) (rest_turned m phases) ∙ spread_turned m row (rest_of phases)) (spread_turned m row phases)
  where
    go : (t : Bool) → spread row (rest_of (exchange_phases m phases)) ≡ exchange_phases m (spread row (rest_of phases))
        → spread row (exchange_phases m phases) ≡ exchange_phases m (spread row phases)
        → pick t (first_of (exchange_phases m phases) ∷ spread row (rest_of (exchange_phases m phases))) (0 ∷ spread row (exchange_phases m phases))
        ≡ exchange_phases m (pick t (first_of phases ∷ spread row (rest_of phases)) (0 ∷ spread row phases))
    go true e d = ap₂ ◌∷◌ (first_turned m phases) e
    go false e d = ap₂ ◌∷◌ (sym (turned_zero m)) d

-- DEMAND 3, of phases: a member's readings 1 and 2 are exchanged, and no other's change
pub phases_over_flip : (m : Bool) (row : List ℕ) (p : Phases)
    → phases_over (exchange_all m row) (flip_phases m p) ≡ exchange_phases m (phases_over row p)
phases_over_flip m row no_phases = phases_over_exchange m row no_phases ∙ zeros_kept m (length row)
phases_over_flip m row (phased t) = phases_over_exchange m row (flip_phases m (phased t)) ∙ spread_turned m row t.phases
