-- The track: its size, and its two parts one after another.
-- Assumes nothing.
use mathlib.Core.Path.{◌≡◌, refl, sym, ap, ◌∙◌}
use Prim.Native.Nat.{ℕ, suc, ◌+◌, ◌/◌, ◌≤◌}
use native.Mathlib.Omega.{arith}
use mathlib.Core.Bool.{Bool, true, false, not, ◌&&◌, ◌||◌}
use Rattle.std.specs.Int.{div_ceil}
use mathlib.Core.List.{List, [], ◌∷◌, ◌++◌}
use lib.ListN.{length, length-append, length-map}
use Rattle.format.specs.Base.{pick}
use Rattle.format.specs.Limits.{most_samples}
use Rattle.format.specs.Packed.{one, byte_of, packed_after, packed}
use Rattle.format.specs.Track.{bit_number}
use Rattle.format.specs.Phase.{heterozygous, is_phased, is_swapped, presence_bits, phase_bits, phase_track_bytes, some_unphased, first_of, rest_of, gathered}
use Rattle.format.specs.Writer.{phases_for}
use Rattle.format.proofs.Rules.{by_test}
use Rattle.format.proofs.PackedLaws.{packed_length}
use Rattle.write_bytes.specs.Written.{Wrote}
use Rattle.write_bytes.proofs.WrittenLaws.{wrote_both, wrote_length}
use Rattle.write_phase.specs.Calls.{calls_bits, part_bytes, first_bytes, TrackSizeOf}
use Rattle.write_phase.specs.declared.TrackPart.TheVariants as part

-- ---- the bits of a row's calls are those of its phases

presence_is : (categories phases : List ℕ) → calls_bits part.PresenceBits categories phases ≡ presence_bits (gathered categories phases)
unfolding calls_bits gathered
presence_is [] phases = refl
presence_is (c ∷ categories) phases = go (heterozygous c) (presence_is categories (rest_of phases))
  where
    go : (t : Bool) → calls_bits part.PresenceBits categories (rest_of phases) ≡ presence_bits (gathered categories (rest_of phases))
        → pick t (bit_number (is_phased (first_of phases)) ∷ []) [] ++ calls_bits part.PresenceBits categories (rest_of phases)
        ≡ presence_bits (pick t (first_of phases ∷ gathered categories (rest_of phases)) (gathered categories (rest_of phases)))
    go true e = ap (λ (bits : List ℕ). bit_number (is_phased (first_of phases)) ∷ bits) e
    go false e = e

phase_is : (categories phases : List ℕ) → calls_bits part.PhaseBits categories phases ≡ phase_bits (gathered categories phases)
unfolding calls_bits gathered phase_bits
phase_is [] phases = refl
phase_is (c ∷ categories) phases = go (heterozygous c) (is_phased (first_of phases)) refl (phase_is categories (rest_of phases))
  where
    go : (t u : Bool) → u ≡ is_phased (first_of phases)
        → calls_bits part.PhaseBits categories (rest_of phases) ≡ phase_bits (gathered categories (rest_of phases))
        → pick (t && u) (bit_number (is_swapped (first_of phases)) ∷ []) [] ++ calls_bits part.PhaseBits categories (rest_of phases)
        ≡ phase_bits (pick t (first_of phases ∷ gathered categories (rest_of phases)) (gathered categories (rest_of phases)))
    go false u q e = e
    go true true q e = simp (sym q) (ap (λ (bits : List ℕ). bit_number (is_swapped (first_of phases)) ∷ bits) e)
    go true false q e = simp (sym q) e

-- ---- presence bits are stored exactly if not all calls are phased

phased_most : (ps : List ℕ) → length (phase_bits ps) ≤ length ps
unfolding phase_bits
phased_most [] = omega arith
phased_most (p ∷ ps) =
    by_test (λ (bits : List ℕ). length bits ≤ suc (length ps)) (is_phased p) (λ t. omega (arith, phased_most ps)) (λ t. omega (arith, phased_most ps))

all_phased : (ps : List ℕ) → length (phase_bits ps) ≡ length ps → false ≡ some_unphased ps
unfolding phase_bits some_unphased
all_phased [] e = refl
all_phased (p ∷ ps) e = go (is_phased p) e (all_phased ps)
  where
    go : (t : Bool) → length (pick t (bit_number (is_swapped p) ∷ phase_bits ps) (phase_bits ps)) ≡ suc (length ps)
        → (length (phase_bits ps) ≡ length ps → false ≡ some_unphased ps) → false ≡ not t || some_unphased ps
    go true e f = f (omega arith)
    go false e f = absurd (omega (arith, phased_most ps))

not_all_phased : (ps : List ℕ) → (length (phase_bits ps) ≡ length ps → ⊥) → true ≡ some_unphased ps
unfolding phase_bits some_unphased
not_all_phased [] e = absurd (e refl)
not_all_phased (p ∷ ps) e = go (is_phased p) e (not_all_phased ps)
  where
    go : (t : Bool) → (length (pick t (bit_number (is_swapped p) ∷ phase_bits ps) (phase_bits ps)) ≡ suc (length ps) → ⊥)
        → ((length (phase_bits ps) ≡ length ps → ⊥) → true ≡ some_unphased ps) → true ≡ not t || some_unphased ps
    go true e f = f (λ q. e (ap suc q))
    go false e f = refl

-- ---- the bytes

module _ (categories phases : List ℕ) where
  abbrev first : Bool → List ℕ
  first stored = first_bytes stored categories phases

  abbrev second : List ℕ
  second = part_bytes part.PhaseBits categories phases

  track_is : (stored : Bool) → stored ≡ some_unphased (gathered categories phases)
      → phase_track_bytes (phases_for categories phases) ≡ first_bytes stored categories phases ++ part_bytes part.PhaseBits categories phases
  unfolding phase_track_bytes packed_after byte_of
  track_is stored e = rw e (go (some_unphased (gathered categories phases)))
    where
      go : (t : Bool)
          → packed one (bit_number t ∷ pick t (presence_bits (gathered categories phases)) []) ++ packed one (phase_bits (gathered categories phases))
          ≡ first_bytes t categories phases ++ part_bytes part.PhaseBits categories phases
      go true = simp (presence_is categories phases, phase_is categories phases)
      go false = simp (phase_is categories phases)

  -- ---- the size

  module _ (heterozygous phased : ℕ) (h : heterozygous ≡ length (calls_bits part.PresenceBits categories phases))
      (p : phased ≡ length (calls_bits part.PhaseBits categories phases)) (few : phased ≤ most_samples) where
    calls_are : heterozygous ≡ length (gathered categories phases)
    calls_are = h ∙ ap length (presence_is categories phases) ∙ length-map (gathered categories phases) _

    phased_are : phased ≡ length (phase_bits (gathered categories phases))
    phased_are = p ∙ ap length (phase_is categories phases)

    second_size : (phased + 7) / 8 ≡ length second
    second_size = ap (λ (n : ℕ). (n + 7) / 8) p ∙ sym (packed_length one _ (calls_bits part.PhaseBits categories phases) refl)

    pub size_all_phased : (bits : ℕ) → bits ≡ div_ceil phased 8 → phased ≡ heterozygous
        → TrackSizeOf categories phases (record { stored = false; bytes = 1 + bits })
    size_all_phased bits q e =
        let s : false ≡ some_unphased (gathered categories phases) = all_phased (gathered categories phases) (sym phased_are ∙ e ∙ calls_are) in
        record { stored_is = s; bytes_are = rw (track_is false s) (omega (arith, second_size)); few = omega arith }

    pub size_stored : (bits first_bits : ℕ) → bits ≡ div_ceil phased 8 → first_bits ≡ div_ceil (1 + heterozygous) 8 → (phased ≡ heterozygous → ⊥)
        → heterozygous ≤ most_samples → TrackSizeOf categories phases (record { stored = true; bytes = first_bits + bits })
    size_stored bits first_bits q r d most =
        let s : true ≡ some_unphased (gathered categories phases)
        = not_all_phased (gathered categories phases) (λ e. d (phased_are ∙ e ∙ sym calls_are)) in
        let n : length (first true) ≡ (suc heterozygous + 7) / 8
        = packed_length one (suc heterozygous) (1 ∷ calls_bits part.PresenceBits categories phases) (ap suc (sym h)) in
        record { stored_is = s; bytes_are = rw (track_is true s, length-append (first true) second) (omega (arith, second_size)); few = omega arith }

pub ruleset size_laws = (size_all_phased, size_stored)

-- ---- one part after the other

module _ (stored : Bool) (categories phases to : List ℕ) (at : ℕ) (s : stored ≡ some_unphased (gathered categories phases))
    (h : at + length (phase_track_bytes (phases_for categories phases)) ≤ length to) where
  both_room : at + (length (first_bytes stored categories phases) + length (part_bytes part.PhaseBits categories phases)) ≤ length to
  both_room = rw (track_is categories phases stored s, length-append (first_bytes stored categories phases) (part_bytes part.PhaseBits categories phases)) at h

  pub first_room : at + length (first_bytes stored categories phases) ≤ length to
  first_room = omega (arith, both_room)

  module _ (r : ℕ) (mid : List ℕ) (w : Wrote to at (first_bytes stored categories phases) r mid) where
    pub second_room : r + length (part_bytes part.PhaseBits categories phases) ≤ length mid
    second_room = omega (arith, both_room, w.place, wrote_length w)

    pub track_written : (t : ℕ) (after : List ℕ) → Wrote mid r (part_bytes part.PhaseBits categories phases) t after
        → Wrote to at (phase_track_bytes (phases_for categories phases)) t after
    track_written t after v = rw (track_is categories phases stored s) (wrote_both w v)

pub ruleset track_laws = (first_room, second_room, track_written)
