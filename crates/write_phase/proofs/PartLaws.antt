-- A part of the track, packed call by call.
-- Assumes nothing.
use mathlib.Core.Path.{◌≡◌}
use Prim.Native.Nat.{ℕ, ◌+◌, ◌≤◌, ◌<◌}
use native.Mathlib.Omega.{arith}
use mathlib.Core.List.{List, ◌∷◌, ◌++◌}
use lib.ListN.{length, get_or}
use Rattle.format.specs.Packed.{one, packed}
use Rattle.format.proofs.Rules.{by_test}
use Rattle.write_bytes.specs.Written.{Wrote}
use Rattle.write_bytes.specs.InTurn.{last_byte, packed_from, PackingFits, PackedOn, PackingGoes}
use Rattle.write_bytes.specs.declared.Packing.{Packing}
use Rattle.write_bytes.proofs.InTurnLaws.{scale_of, goes_first, goes_room, goes_next, goes_small, goes_last, goes_end}
use Rattle.write_phase.specs.Calls.{has_bit, call_bits, calls_bits, part_bytes, begun}
use Rattle.write_phase.specs.declared.TrackPart.{TrackPart}
use Rattle.write_phase.specs.declared.TrackPart.TheVariants as part
use Rattle.write_phase.proofs.CallLaws.{left_at, calls_turn, calls_done}

-- ---- the loop

-- before sample i
pub record Going (p : TrackPart) (categories phases to₀ : List ℕ) (at : ℕ) (to : List ℕ) (packing : Packing) (i : ℕ) : Type 0 where
  pub each : length phases ≡ length categories
  pub goes : PackingGoes 2 (part_bytes p categories phases) to₀ at to packing (left_at p categories phases i)

-- the presence bits follow a first bit that is set
begun_goes : (p : TrackPart) (categories phases to : List ℕ) (at : ℕ) → at + length (part_bytes p categories phases) ≤ length to
    → PackingGoes 2 (part_bytes p categories phases) to at to (begun p at) (calls_bits p categories phases)
unfolding packed_from
begun_goes part.PresenceBits categories phases to at h =
    let bits : List ℕ = 1 ∷ calls_bits part.PresenceBits categories phases in
    let g : PackingGoes 2 (packed one bits) to at to (record { scale = 1; byte = 0; at = at }) bits = goes_first one bits to at h in
    record {
      fits = record { more = 6; is_scale = (scale_of one).1; most = 7; from_1 = scale_of one; some = omega arith; below = omega arith };
      room = g.room;
      keeps = g.keeps;
      ends = g.ends;
      same = g.same;
    }
begun_goes part.PhaseBits categories phases to at h = goes_first one (calls_bits part.PhaseBits categories phases) to at h

pub part_start : (p : TrackPart) (categories phases to : List ℕ) (at : ℕ) (packing : Packing) → packing ≡ begun p at → length phases ≡ length categories
    → at + length (part_bytes p categories phases) ≤ length to → Going p categories phases to at to packing 0
part_start p categories phases to at packing e l h = rw e (record { each = l; goes = begun_goes p categories phases to at h })

module _ {p : TrackPart} {categories phases to₀ : List ℕ} {at : ℕ} {to : List ℕ} {packing : Packing} {i : ℕ}
    (v : Going p categories phases to₀ at to packing i) where
  pub part_fits : PackingFits 2 packing.scale packing.byte
  part_fits = v.goes.fits

  module _ (h : i < length categories) where
    abbrev out : List ℕ
    out = call_bits p (get_or categories i 0) (get_or phases i 0)

    abbrev rest : List ℕ
    rest = left_at p categories phases (i + 1)

    turn : left_at p categories phases i ≡ out ++ rest
    turn = calls_turn p categories phases i v.each h

    one_bit : length out ≤ 1
    one_bit = by_test (λ (bits : List ℕ). length bits ≤ 1) (has_bit p (get_or categories i 0) (get_or phases i 0)) (λ t. omega arith) (λ t. omega arith)

    pub part_room : packing.at + length (call_bits p (get_or categories i 0) (get_or phases i 0)) ≤ length to
    part_room = goes_room v.goes out rest turn one_bit

    pub part_next : {r : Packing} {after : List ℕ} → PackedOn 2 to packing (call_bits p (get_or categories i 0) (get_or phases i 0)) r after
        → Going p categories phases to₀ at after r (i + 1)
    part_next w = record { each = v.each; goes = goes_next v.goes out rest turn w }

  pub last_small : packing.byte < 256
  last_small = goes_small v.goes

  module _ (h : length categories ≤ i) where
    pub last_room : packing.at + length (last_byte packing.scale packing.byte) ≤ length to
    last_room = goes_last v.goes (calls_done p categories phases i h)

    pub part_end : {r : ℕ} {after : List ℕ} → Wrote to packing.at (last_byte packing.scale packing.byte) r after
        → Wrote to₀ at (part_bytes p categories phases) r after
    part_end w = goes_end v.goes (calls_done p categories phases i h) w

pub ruleset part_laws = (part_start, part_fits, part_room, part_next, last_small, last_room, part_end)
