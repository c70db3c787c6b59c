-- The phase track, which may follow a record's main track: which heterozygous calls are phased, and which of those are swapped.
-- Assumes nothing.
use Rattle.std.specs.Prelude.{◌≡◌, ℕ, zero, suc, ◌+◌, ◌%◌, Bool, true, false, not, ◌||◌, List, [], ◌∷◌, ◌++◌, map, length, replicate, eqb}
use Rattle.format.specs.Base.{pick, Out, ok, bind, map_out, Below}
use Rattle.format.specs.Packed.{one, packed, read_packed}
use Rattle.format.specs.Track.{bit_number}

-- ---- the calls that can be phased

-- 01, Categories and kinds: "1 heterozygous". 02, Ask 1: "H is the number of samples in category 1."
abbrev pub heterozygous : ℕ → Bool
heterozygous category = eqb category 1

unfoldable pub heterozygous_count : List ℕ → ℕ
heterozygous_count [] = 0
heterozygous_count (category ∷ row) = pick (heterozygous category) (suc (heterozygous_count row)) (heterozygous_count row)

-- ---- what a track is

-- 02, Ask 1: "0 unphased, 1 unswapped, 2 swapped"
abbrev pub is_phased : ℕ → Bool
is_phased phase = not (eqb phase 0)

abbrev pub is_swapped : ℕ → Bool
is_swapped phase = eqb phase 2

-- the phase of each heterozygous call, in the samples' order; and whether presence bits are stored
pub record PhaseTrack : Type 0 where
  pub presence_stored : Bool
  pub phases : List ℕ

-- whether a call is unphased
unfoldable pub some_unphased : List ℕ → Bool
some_unphased [] = false
some_unphased (phase ∷ phases) = not (is_phased phase) || some_unphased phases

-- a track over H heterozygous calls obeys. 02, Ask 1: "if clear, all are phased"
pub record PhasesFit (H : ℕ) (t : PhaseTrack) : Type 0 where
  pub count : length t.phases ≡ H
  pub small : Below 3 t.phases
  pub all_phased : t.presence_stored ≡ false → some_unphased t.phases ≡ false

-- ---- its bytes

-- a presence bit for each call
abbrev pub presence_bits : List ℕ → List ℕ
presence_bits phases = map (λ (phase : ℕ). bit_number (is_phased phase)) phases

-- 02, Ask 1: "one per phased call, set meaning swapped"
unfoldable pub phase_bits : List ℕ → List ℕ
phase_bits [] = []
phase_bits (phase ∷ phases) = pick (is_phased phase) (bit_number (is_swapped phase) ∷ phase_bits phases) (phase_bits phases)

-- 02, Ask 1: "The track's first bit says whether H presence bits follow it at once; if clear, all are phased and the rest of its byte unused."
abbrev pub first_bits : PhaseTrack → List ℕ
first_bits t = bit_number t.presence_stored ∷ pick t.presence_stored (presence_bits t.phases) []

-- 02, Ask 1: "The phase bits begin at the next byte boundary"
unfoldable pub phase_track_bytes : PhaseTrack → List ℕ
phase_track_bytes t = packed one (first_bits t) ++ packed one (phase_bits t.phases)

-- ---- its reader

-- the first of some numbers, 0 where there are none; and the rest
abbrev pub first_of : List ℕ → ℕ
first_of [] = 0
first_of (n ∷ ns) = n

abbrev pub rest_of : List ℕ → List ℕ
rest_of [] = []
rest_of (n ∷ ns) = ns

-- how many bits stand before the phase bits, by the track's first bit
abbrev pub first_count : ℕ → List ℕ → ℕ
first_count H bs = suc (pick (eqb (first_of bs % 2) 1) H 0)

-- a presence bit for each of H calls, from the bits that stand before the phase bits: those that follow the first, or all set where it is clear
abbrev pub presence : ℕ → List ℕ → List ℕ
presence H first = pick (eqb (first_of first) 1) (rest_of first) (replicate H 1)

-- 02, Ask 1: "The reader finds P by counting ones in the presence bits."
unfoldable pub ones : List ℕ → ℕ
ones [] = 0
ones (bit ∷ bits) = bit + ones bits

-- the phases that presence bits and phase bits tell
unfoldable pub phases_told : List ℕ → List ℕ → List ℕ
phases_told [] bits = []
phases_told (zero ∷ present) bits = 0 ∷ phases_told present bits
phases_told (suc p ∷ present) [] = 0 ∷ phases_told present []
phases_told (suc p ∷ present) (bit ∷ bits) = suc bit ∷ phases_told present bits

abbrev pub track_told : ℕ → List ℕ → List ℕ → PhaseTrack
track_told H first bits = record { presence_stored = eqb (first_of first) 1; phases = phases_told (presence H first) bits }

-- 01, Replies: "first that the part fits (12), then its rule", which is 18 for unused bits, of either part
unfoldable pub read_phase_track : ℕ → ℕ → List ℕ → Out PhaseTrack
read_phase_track end H bs =
    bind (read_packed end one (first_count H bs) bs) (λ first left.
    map_out (track_told H first) (read_packed end one (ones (presence H first)) left))

-- ---- what it is read as

-- 02, Ask 1: "A new reading fills N bytes": each heterozygous sample's phase, 0 for every other
unfoldable pub spread : List ℕ → List ℕ → List ℕ
spread [] phases = []
spread (category ∷ row) phases = pick (heterozygous category) (first_of phases ∷ spread row (rest_of phases)) (0 ∷ spread row phases)

-- the other way: the phases of a row's heterozygous samples
unfoldable pub gathered : List ℕ → List ℕ → List ℕ
gathered [] phases = []
gathered (category ∷ row) phases = pick (heterozygous category) (first_of phases ∷ gathered row (rest_of phases)) (gathered row (rest_of phases))

-- ---- its flip

-- 02, Ask 1: "A flip turns each phase bit of a flipped variant, exchanging readings 1 and 2"
abbrev pub exchange_phase : ℕ → ℕ
exchange_phase zero = 0
exchange_phase (suc zero) = 2
exchange_phase (suc (suc zero)) = 1
exchange_phase (suc (suc (suc n))) = suc (suc (suc n))

abbrev pub exchange_phases : Bool → List ℕ → List ℕ
exchange_phases member phases = map (λ (phase : ℕ). pick member (exchange_phase phase) phase) phases

abbrev pub flip_phase_track : Bool → PhaseTrack → PhaseTrack
flip_phase_track member t = record { presence_stored = t.presence_stored; phases = exchange_phases member t.phases }

-- ---- a record's phase track, if it has one

pub data Phases : Type 0 where
  no_phases : Phases
  phased : PhaseTrack → Phases

abbrev pub has_phases : Phases → Bool
has_phases no_phases = false
has_phases (phased t) = true

abbrev pub PhasesObey : ℕ → Phases → Type 0
PhasesObey H no_phases = Unit {0}
PhasesObey H (phased t) = PhasesFit H t

abbrev pub phases_bytes : Phases → List ℕ
phases_bytes no_phases = []
phases_bytes (phased t) = phase_track_bytes t

-- whether the record's type says that there is one
abbrev pub read_phases : Bool → ℕ → ℕ → List ℕ → Out Phases
read_phases has end H bs = pick has (map_out phased (read_phase_track end H bs)) (ok no_phases bs)

-- what each sample of a row reads as; without a track all are unphased
abbrev pub phases_over : List ℕ → Phases → List ℕ
phases_over row no_phases = replicate (length row) 0
phases_over row (phased t) = spread row t.phases

abbrev pub flip_phases : Bool → Phases → Phases
flip_phases member no_phases = no_phases
flip_phases member (phased t) = phased (flip_phase_track member t)
