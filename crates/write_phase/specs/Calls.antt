-- The phase track as it is written, call by call.
-- Assumes nothing.
use Rattle.std.specs.Prelude.{◌≡◌, ℕ, suc, ◌≤◌, Bool, ◌&&◌, List, [], ◌∷◌, ◌++◌, length}
use Rattle.format.specs.Base.{pick}
use Rattle.format.specs.Limits.{most_samples}
use Rattle.format.specs.Packed.{one, packed}
use Rattle.format.specs.Track.{bit_number}
use Rattle.format.specs.Phase.{heterozygous, is_phased, is_swapped, some_unphased, first_of, rest_of, gathered, phase_track_bytes}
use Rattle.format.specs.Writer.{phase_allowed, phases_for}
use Rattle.write_bytes.specs.declared.Packing.{Packing}
use Rattle.write_phase.specs.declared.TrackPart.{TrackPart}
use Rattle.write_phase.specs.declared.TrackPart.TheVariants as part
use Rattle.write_phase.specs.declared.TrackSize.{TrackSize}

-- 02, Ask 1: 22, "a phase above 2 or a nonzero one outside category 1, at its index": the index of the first, else how many samples there are
unfoldable pub first_not_allowed : List ℕ → List ℕ → ℕ
first_not_allowed [] phases = 0
first_not_allowed (category ∷ categories) phases =
    pick (phase_allowed category (first_of phases)) (suc (first_not_allowed categories (rest_of phases))) 0

-- whether a part has a bit for a sample: a presence bit for each heterozygous call, a phase bit for each phased one
abbrev pub has_bit : TrackPart → ℕ → ℕ → Bool
has_bit part.PresenceBits category phase = heterozygous category
has_bit part.PhaseBits category phase = heterozygous category && is_phased phase

-- a call's bit
abbrev pub call_bit : TrackPart → ℕ → ℕ
call_bit part.PresenceBits phase = bit_number (is_phased phase)
call_bit part.PhaseBits phase = bit_number (is_swapped phase)

abbrev pub call_bits : TrackPart → ℕ → ℕ → List ℕ
call_bits p category phase = pick (has_bit p category phase) (call_bit p phase ∷ []) []

-- the bits of a row's calls
unfoldable pub calls_bits : TrackPart → List ℕ → List ℕ → List ℕ
calls_bits p [] phases = []
calls_bits p (category ∷ categories) phases = call_bits p category (first_of phases) ++ calls_bits p categories (rest_of phases)

-- 02, Ask 1: "The track's first bit says whether H presence bits follow it at once"
abbrev pub part_bits : TrackPart → List ℕ → List ℕ → List ℕ
part_bits part.PresenceBits categories phases = 1 ∷ calls_bits part.PresenceBits categories phases
part_bits part.PhaseBits categories phases = calls_bits part.PhaseBits categories phases

abbrev pub part_bytes : TrackPart → List ℕ → List ℕ → List ℕ
part_bytes p categories phases = packed one (part_bits p categories phases)

-- 02, Ask 1: "if clear, all are phased and the rest of its byte unused"
abbrev pub first_bytes : Bool → List ℕ → List ℕ → List ℕ
first_bytes stored categories phases = pick stored (part_bytes part.PresenceBits categories phases) (0 ∷ [])

-- where the packing of a part begins
abbrev pub begun : TrackPart → ℕ → Packing
begun part.PresenceBits at = record { scale = 2; byte = 1; at = at }
begun part.PhaseBits at = record { scale = 1; byte = 0; at = at }

-- the track's measure
pub record TrackSizeOf (categories phases : List ℕ) (r : TrackSize) : Type 0 where
  pub stored_is : r.stored ≡ some_unphased (gathered categories phases)
  pub bytes_are : r.bytes ≡ length (phase_track_bytes (phases_for categories phases))
  pub few : r.bytes ≤ most_samples
