-- A phase track that is written out: where its phase bits stand, how many they are, and that turning them flips the track.
-- Assumes nothing.
use mathlib.Core.Path.{◌≡◌, refl, sym, ap, ap₂, ◌∙◌}
use Prim.Native.Nat.{ℕ, zero, suc, ◌+◌, ◌-◌, ◌/◌, ◌%◌, ◌≤◌, ◌<◌}
use native.Mathlib.Omega.{arith}
use mathlib.Core.Bool.{Bool, true, false, not, ◌||◌}
use mathlib.Core.List.{List, [], ◌∷◌, ◌++◌, map, append_assoc}
use lib.ListN.{length, take, drop, length-append, length-map}
use lib.Seq.{take_at, drop_at}
use lib.Dec.{eqb, lit<}
use mir.Syntax.{w64}
use mir.Val.{Fits}
use Rattle.format.specs.Base.{pick, Below}
use Rattle.format.specs.Limits.{most_samples}
use Rattle.format.specs.Packed.{one, packed}
use Rattle.format.specs.Track.{bit_number}
use Rattle.format.specs.Phase.{PhaseTrack, PhasesFit, some_unphased, is_phased, is_swapped, presence_bits, phase_bits, first_bits, first_of, ones}
use Rattle.format.specs.Phase.{phase_track_bytes, read_phase_track, flip_phase_track}
use Rattle.format.proofs.PackedLaws.{packed_length}
use Rattle.format.proofs.PhaseLaws.{phase_bits_below, ones_of_presence, first_bit_is, phase_track_read_back}
use Rattle.format.proofs.PhaseFlipLaws.{phase_bits_turn, first_bits_kept}
use Rattle.read_phase.specs.Phases.{byte_ones, stored_at}
use Rattle.read_phase.proofs.OnesLaws.{packed_ones}
use Rattle.flip_bytes.specs.Changed.{changed, complement, bits_complemented}
use Rattle.flip_bytes.proofs.ChangedLaws.{packed_changed}
use Rattle.flip_phase.specs.Turned.{TrackThere, turned_as, track_turned}

-- ---- its parts

-- the bytes before its phase bits
abbrev first : PhaseTrack → List ℕ
first t = packed one (first_bits t)

-- a presence bit for each call
presence_count : (phases : List ℕ) → length (presence_bits phases) ≡ length phases
presence_count phases = length-map phases (λ (phase : ℕ). bit_number (is_phased phase))

presence_below : (phases : List ℕ) → Below 2 (presence_bits phases)
presence_below [] = tt
presence_below (phase ∷ phases) = (go (is_phased phase), presence_below phases)
  where
    go : (b : Bool) → bit_number b < 2
    go true = lit< tt
    go false = lit< tt

-- where no call is unphased each has a phase bit
all_have_bits : (phases : List ℕ) → some_unphased phases ≡ false → length (phase_bits phases) ≡ length phases
unfolding some_unphased phase_bits
all_have_bits [] e = refl
all_have_bits (phase ∷ phases) e = go (is_phased phase) (λ k. all_have_bits phases k) e
  where
    go : (b : Bool) → (some_unphased phases ≡ false → length (phase_bits phases) ≡ length phases) → not b || some_unphased phases ≡ false
        → length (pick b (bit_number (is_swapped phase) ∷ phase_bits phases) (phase_bits phases)) ≡ suc (length phases)
    go true rest e = ap suc (rest e)
    go false rest e = let z : ◌≡◌ {A = ℕ} 0 1 = cc in absurd (omega arith)

-- how many bits stand before the phase bits, and how many bytes
module _ (H : ℕ) (t : PhaseTrack) (f : PhasesFit H t) where
  first_bits_count : length (first_bits t) ≡ suc (pick t.presence_stored H 0)
  first_bits_count = go t.presence_stored
    where
      go : (b : Bool) → suc (length (pick b (presence_bits t.phases) [])) ≡ suc (pick b H 0)
      go true = ap suc (presence_count t.phases ∙ f.count)
      go false = refl

  first_size : length (first t) ≡ (suc (pick t.presence_stored H 0) + 7) / 8
  first_size = packed_length one _ (first_bits t) first_bits_count

  -- P, as code counts it
  phased_count : pick t.presence_stored (byte_ones (first t) - 1) H ≡ length (phase_bits t.phases)
  unfolding ones
  phased_count = go t.presence_stored f.all_phased
    where
      go : (b : Bool) → (b ≡ false → some_unphased t.phases ≡ false)
          → pick b (byte_ones (packed one (bit_number b ∷ pick b (presence_bits t.phases) [])) - 1) H ≡ length (phase_bits t.phases)
      go true all =
          ap (λ (n : ℕ). n - 1) (packed_ones (1 ∷ presence_bits t.phases) (lit< tt, presence_below t.phases))
          ∙ omega (arith, ones_of_presence t.phases)
      go false all = sym (all_have_bits t.phases (all refl) ∙ f.count)

  some_ones : t.presence_stored ≡ true → 0 < byte_ones (first t)
  unfolding ones
  some_ones e =
      let q : first_bits t ≡ 1 ∷ presence_bits t.phases = ap (λ (b : Bool). bit_number b ∷ pick b (presence_bits t.phases) []) e in
      omega (arith, ap (λ (bits : List ℕ). byte_ones (packed one bits)) q ∙ packed_ones (1 ∷ presence_bits t.phases) (lit< tt, presence_below t.phases))

-- ---- its phase bits turned

complements : (bits : List ℕ) → Below 2 bits → map (λ (bit : ℕ). 1 - bit) bits ≡ map complement bits
complements [] h = refl
complements (zero ∷ bits) h = ap (◌∷◌ 1) (complements bits h.1)
complements (suc zero ∷ bits) h = ap (◌∷◌ 0) (complements bits h.1)
complements (suc (suc n) ∷ bits) h = absurd (omega (arith, h.0))

-- the flipped track has the same bytes before its phase bits, and those turned
flipped_bytes : (t : PhaseTrack) → Below 3 t.phases
    → phase_track_bytes (flip_phase_track true t) ≡ first t ++ packed one (map complement (phase_bits t.phases))
unfolding phase_track_bytes
flipped_bytes t h =
    ap₂ (λ (a b : List ℕ). packed one a ++ packed one b) (first_bits_kept true t)
    (phase_bits_turn t.phases h ∙ complements (phase_bits t.phases) (phase_bits_below t.phases))

module _ {H at : ℕ} {s : List ℕ} (w : TrackThere H at s) where
  abbrev t : PhaseTrack
  t = w.track

  abbrev bits : List ℕ
  bits = phase_bits t.phases

  -- what stands before its phase bits, and from them on
  apart : s ≡ (w.before ++ first t) ++ (packed one bits ++ w.after)
  unfolding phase_track_bytes
  apart = w.is ∙ simp append_assoc

  pub track_flips : track_turned H at s ≡ w.before ++ (phase_track_bytes (flip_phase_track true t) ++ w.after)
  unfolding track_turned
  track_flips =
      let rest : List ℕ = phase_track_bytes t ++ w.after in
      let taken : take at s ≡ w.before = ap (take at) w.is ∙ take_at w.before rest at w.at_is in
      let dropped : drop at s ≡ rest = ap (drop at) w.is ∙ drop_at w.before rest at w.at_is in
      ap₂ ◌++◌ taken
      (ap₂ (λ (x y : List ℕ). turned_as x (read_phase_track (length s) H y)) dropped dropped
      ∙ ap (turned_as rest) (phase_track_read_back (length s) H t w.after w.fits))

  turned_bits : bits_complemented (at + length (first t)) (length bits) s ≡ track_turned H at s
  turned_bits =
      let front : List ℕ = w.before ++ first t in
      let rest : List ℕ = packed one bits ++ w.after in
      let p : length front ≡ at + length (first t) = length-append w.before (first t) ∙ ap (λ (n : ℕ). n + length (first t)) w.at_is in
      ap (bits_complemented (at + length (first t)) (length bits)) apart
      ∙ ap₂ (λ (x y : List ℕ). x ++ changed 2 7 complement (length bits) y) (take_at front rest _ p) (drop_at front rest _ p)
      ∙ ap (◌++◌ front) (packed_changed 2 7 complement (length bits) bits w.after refl (phase_bits_below t.phases))
      ∙ (simp append_assoc)
      ∙ ap (λ (x : List ℕ). w.before ++ (x ++ w.after)) (sym (flipped_bytes t w.fits.small))
      ∙ sym track_flips

  -- ---- in the code's own terms

  module _ (stored : Bool) (e : stored ≡ stored_at s at) where
    -- its first bit
    stored_is : stored ≡ t.presence_stored
    unfolding phase_track_bytes
    stored_is =
        e
        ∙ ap (λ (x : List ℕ). eqb (first_of x % 2) 1) (ap (drop at) w.is ∙ drop_at w.before (phase_track_bytes t ++ w.after) at w.at_is)
        ∙ ap (λ (x : List ℕ). eqb (first_of x % 2) 1) (append_assoc (first t) (packed one bits) w.after)
        ∙ go t.presence_stored
      where
        go : (b : Bool) → eqb (first_of (packed one (bit_number b ∷ pick b (presence_bits t.phases) []) ++ (packed one bits ++ w.after)) % 2) 1 ≡ b
        go true = ap (λ (x : ℕ). eqb x 1) (first_bit_is 1 (presence_bits t.phases) (packed one bits ++ w.after) (lit< tt))
        go false = ap (λ (x : ℕ). eqb x 1) (first_bit_is 0 [] (packed one bits ++ w.after) (lit< tt))

    module _ (count : ℕ) (d : count ≡ suc (pick stored H 0)) where
      place_is : at + (count + 7) / 8 ≡ at + length (first t)
      place_is = ap (λ (n : ℕ). at + n) (ap (λ (n : ℕ). (n + 7) / 8) (d ∙ ap (λ (b : Bool). suc (pick b H 0)) stored_is) ∙ sym (first_size H t w.fits))

      inside : at + (count + 7) / 8 + length (packed one bits) ≤ length s
      inside = omega (
        arith,
        place_is,
        ap length apart,
        length-append (w.before ++ first t) (packed one bits ++ w.after),
        length-append w.before (first t),
        length-append (packed one bits) w.after,
        w.at_is,
      )

      count_small : count ≤ suc most_samples
      count_small = omega (arith, most stored, d, w.few)
        where
          most : (b : Bool) → pick b H 0 ≤ H
          most true = omega arith
          most false = omega arith

      pub count_fits : Fits w64 (count + 7)
      count_fits = omega (arith, count_small)

      pub place_inside : at + (count + 7) / 8 ≤ length s
      place_inside = omega (arith, inside)

      pub place_fits : Fits w64 (length s) → Fits w64 (at + (count + 7) / 8)
      place_fits l = omega (arith, place_inside)

      -- the bytes before the phase bits
      part_is : take (at + (count + 7) / 8 - at) (drop at s) ≡ first t
      unfolding phase_track_bytes
      part_is =
          let n : at + (count + 7) / 8 - at ≡ length (first t) = omega (arith, place_is) in
          ap₂ (λ (k : ℕ) (x : List ℕ). take k x) n (ap (drop at) w.is ∙ drop_at w.before (phase_track_bytes t ++ w.after) at w.at_is)
          ∙ ap (take (length (first t))) (append_assoc (first t) (packed one bits) w.after)
          ∙ take_at (first t) (packed one bits ++ w.after) (length (first t)) refl

      pub part_short : length (take (at + (count + 7) / 8 - at) (drop at s)) ≤ most_samples
      part_short = omega (arith, ap length part_is, place_is, count_small)

      pub part_ones : stored ≡ true → 0 < byte_ones (take (at + (count + 7) / 8 - at) (drop at s))
      part_ones q = rw part_is (some_ones H t w.fits (sym stored_is ∙ q))

      module _ (phased : ℕ) (g : phased ≡ pick stored (byte_ones (take (at + (count + 7) / 8 - at) (drop at s)) - 1) H) where
        phased_is : phased ≡ length bits
        phased_is =
            g
            ∙ ap₂ (λ (b : Bool) (x : List ℕ). pick b (byte_ones x - 1) H) stored_is part_is
            ∙ phased_count H t w.fits

        pub bits_inside : at + (count + 7) / 8 + (phased + 7) / 8 ≤ length s
        bits_inside = omega (arith, inside, phased_is, packed_length one (length bits) bits refl)

        pub bits_turned : (later : List ℕ) → later ≡ bits_complemented (at + (count + 7) / 8) phased s → later ≡ track_turned H at s
        bits_turned later e = e ∙ ap₂ (λ (p n : ℕ). bits_complemented p n s) place_is phased_is ∙ turned_bits

pub ruleset track_laws = (count_fits, place_inside, place_fits, part_short, part_ones, bits_inside, bits_turned)
