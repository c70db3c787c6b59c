-- The phase track: read back, as written; what a row's samples are read as.
-- Assumes nothing.
use mathlib.Core.Path.{◌≡◌, refl, sym, ap, ap₂, ◌∙◌}
use Prim.Native.Nat.{ℕ, zero, suc, ◌+◌, ◌%◌, ◌≤◌, ◌<◌}
use mathlib.Core.Bool.{Bool, true, false, not, ◌||◌}
use mathlib.Core.List.{List, [], ◌∷◌, ◌++◌, append_assoc}
use lib.ListN.{length, replicate, length-map, length-replicate}
use lib.Dec.{eqb, lit<}
use lib.Arith.{digits_mod}
use native.Mathlib.Nat.{zero-add, le_refl}
use native.Mathlib.Omega.{arith}
use Rattle.format.specs.Base.{pick, Below, Bytes, ok}
use Rattle.format.specs.Packed.{one, packed_after, packed, read_packed}
use Rattle.format.specs.Track.{bit_number}
use Rattle.format.specs.Phase.{heterozygous, heterozygous_count, is_phased, is_swapped, PhaseTrack, some_unphased, PhasesFit, presence_bits, phase_bits}
use Rattle.format.specs.Phase.{first_bits, phase_track_bytes, first_of, rest_of, first_count, presence, ones, phases_told}
use Rattle.format.specs.Phase.{track_told, read_phase_track, spread, Phases, no_phases, phased, has_phases, PhasesObey}
use Rattle.format.specs.Phase.{phases_bytes, read_phases, phases_over}
use Rattle.format.proofs.Rules.{Holds, by_test, by_bind, by_map, below_after, never_both}
use Rattle.format.proofs.PackedLaws.{packed_read_back, packed_as_written, ArePacked}
use Rattle.format.proofs.ColumnsLaws.{no_element}

-- ---- bits

-- a bit's number is 0 or 1
bit_below : (b : Bool) → bit_number b < 2
bit_below true = lit< tt
bit_below false = lit< tt

presence_bits_below : (phases : List ℕ) → Below 2 (presence_bits phases)
presence_bits_below [] = tt
presence_bits_below (phase ∷ phases) = (bit_below (is_phased phase), presence_bits_below phases)

pub phase_bits_below : (phases : List ℕ) → Below 2 (phase_bits phases)
unfolding phase_bits
phase_bits_below [] = tt
phase_bits_below (phase ∷ phases) =
    by_test (Below 2) (is_phased phase) (λ t. (bit_below (is_swapped phase), phase_bits_below phases)) (λ t. phase_bits_below phases)

-- all that stand before the phase bits are bits
first_bits_below : (t : PhaseTrack) → Below 2 (first_bits t)
first_bits_below t =
    (bit_below t.presence_stored, by_test (Below 2) t.presence_stored (λ q. presence_bits_below t.phases) (λ q. tt))

-- P is the number of phase bits
pub ones_of_presence : (phases : List ℕ) → ones (presence_bits phases) ≡ length (phase_bits phases)
unfolding ones phase_bits
ones_of_presence [] = refl
ones_of_presence (phase ∷ phases) = go (is_phased phase) (ones_of_presence phases)
  where
    go : (b : Bool) → ones (presence_bits phases) ≡ length (phase_bits phases)
        → bit_number b + ones (presence_bits phases) ≡ length (pick b (bit_number (is_swapped phase) ∷ phase_bits phases) (phase_bits phases))
    go true e = omega arith
    go false e = omega arith

-- the first bit of packed bits is the first byte's lowest
pub first_bit_is : (bit : ℕ) (bits left : List ℕ) → bit < 2 → first_of (packed one (bit ∷ bits) ++ left) % 2 ≡ bit
unfolding packed_after
first_bit_is bit bits left l = digits_mod _ l

-- ---- read back

-- the first bit tells how many stand before the phase bits
first_count_back : (H : ℕ) (t : PhaseTrack) (left : List ℕ) → length t.phases ≡ H
    → first_count H (packed one (first_bits t) ++ left) ≡ length (first_bits t)
first_count_back H t left e =
    ap (λ (n : ℕ). suc (pick (eqb n 1) H 0)) (first_bit_is (bit_number t.presence_stored) _ left (bit_below t.presence_stored))
    ∙ ap suc (go t.presence_stored)
  where
    go : (b : Bool) → pick (eqb (bit_number b) 1) H 0 ≡ length (pick b (presence_bits t.phases) [])
    go true = sym (length-map t.phases _ ∙ e)
    go false = refl

-- where all are phased every presence bit is set
all_present : (phases : List ℕ) → some_unphased phases ≡ false → replicate (length phases) 1 ≡ presence_bits phases
unfolding some_unphased
all_present [] h = refl
all_present (phase ∷ phases) h = go (is_phased phase) h (all_present phases)
  where
    go : (b : Bool) → not b || some_unphased phases ≡ false
        → (some_unphased phases ≡ false → replicate (length phases) 1 ≡ presence_bits phases)
        → 1 ∷ replicate (length phases) 1 ≡ bit_number b ∷ presence_bits phases
    go true h k = ap (◌∷◌ 1) (k h)
    go false h k = never_both refl h

presence_back : (H : ℕ) (t : PhaseTrack) → PhasesFit H t → presence H (first_bits t) ≡ presence_bits t.phases
presence_back H t f = go t.presence_stored f.all_phased
  where
    go : (b : Bool) → (b ≡ false → some_unphased t.phases ≡ false)
        → pick (eqb (bit_number b) 1) (pick b (presence_bits t.phases) []) (replicate H 1) ≡ presence_bits t.phases
    go true h = refl
    go false h = ap (λ (n : ℕ). replicate n 1) (sym f.count) ∙ all_present t.phases (h refl)

phases_told_back : (phases : List ℕ) → Below 3 phases → phases_told (presence_bits phases) (phase_bits phases) ≡ phases
unfolding phases_told phase_bits
phases_told_back [] h = refl
phases_told_back (zero ∷ phases) h = ap (◌∷◌ 0) (phases_told_back phases h.1)
phases_told_back (suc zero ∷ phases) h = ap (◌∷◌ 1) (phases_told_back phases h.1)
phases_told_back (suc (suc zero) ∷ phases) h = ap (◌∷◌ 2) (phases_told_back phases h.1)
phases_told_back (suc (suc (suc n)) ∷ phases) h = absurd (omega (arith, h.0))

track_told_back : (H : ℕ) (t : PhaseTrack) → PhasesFit H t → track_told H (first_bits t) (phase_bits t.phases) ≡ t
track_told_back H t f =
    ap₂ {C = PhaseTrack} (λ (b : Bool) (ps : List ℕ). record { presence_stored = b; phases = ps }) (go t.presence_stored)
    (ap (λ (present : List ℕ). phases_told present (phase_bits t.phases)) (presence_back H t f) ∙ phases_told_back t.phases f.small)
  where
    go : (b : Bool) → eqb (bit_number b) 1 ≡ b
    go true = refl
    go false = refl

-- a track that fits, written out, is read as itself
pub phase_track_read_back : (end H : ℕ) (t : PhaseTrack) (left : List ℕ) → PhasesFit H t
    → read_phase_track end H (phase_track_bytes t ++ left) ≡ ok t left
unfolding read_phase_track phase_track_bytes
phase_track_read_back end H t left f =
    let after : List ℕ = packed one (phase_bits t.phases) ++ left in
    let firsts : read_packed end one (first_count H (packed one (first_bits t) ++ after)) (packed one (first_bits t) ++ after) ≡ ok (first_bits t) after
    = packed_read_back end one _ (first_bits t) after (sym (first_count_back H t after f.count)) (first_bits_below t) in
    let bits : read_packed end one (ones (presence H (first_bits t))) after ≡ ok (phase_bits t.phases) left
    = packed_read_back end one _ (phase_bits t.phases) left
    (sym (ap ones (presence_back H t f) ∙ ones_of_presence t.phases)) (phase_bits_below t.phases) in
    rw (append_assoc, firsts) (rw bits (ap (λ (x : PhaseTrack). ok x left) (track_told_back H t f)))

-- ---- as written

-- what presence bits and phase bits tell: as many phases as presence bits, and those bits again
record Told (present bits phases : List ℕ) : Type 0 where
  count : length phases ≡ length present
  small : Below 3 phases
  presence_are : presence_bits phases ≡ present
  bits_are : phase_bits phases ≡ bits

told : (present bits : List ℕ) → Below 2 present → Below 2 bits → length bits ≡ ones present → Told present bits (phases_told present bits)
unfolding ones phases_told phase_bits
told [] bits p b e = record { count = refl; small = tt; presence_are = refl; bits_are = sym (no_element bits e) }
told (zero ∷ present) bits p b e =
    let h : Told present bits (phases_told present bits) = told present bits p.1 b (e ∙ zero-add (ones present)) in
    record { count = ap suc h.count; small = (lit< tt, h.small); presence_are = ap (◌∷◌ 0) h.presence_are; bits_are = h.bits_are }
told (suc zero ∷ present) [] p b e = absurd (omega arith)
told (suc zero ∷ present) (zero ∷ bits) p b e =
    let h : Told present bits (phases_told present bits) = told present bits p.1 b.1 (omega arith) in
    record { count = ap suc h.count; small = (lit< tt, h.small); presence_are = ap (◌∷◌ 1) h.presence_are; bits_are = ap (◌∷◌ 0) h.bits_are }
told (suc zero ∷ present) (suc zero ∷ bits) p b e =
    let h : Told present bits (phases_told present bits) = told present bits p.1 b.1 (omega arith) in
    record { count = ap suc h.count; small = (lit< tt, h.small); presence_are = ap (◌∷◌ 1) h.presence_are; bits_are = ap (◌∷◌ 1) h.bits_are }
told (suc zero ∷ present) (suc (suc bit) ∷ bits) p b e = absurd (omega (arith, b.0))
told (suc (suc n) ∷ present) bits p b e = absurd (omega (arith, p.0))

-- where every presence bit is set all are phased
none_unphased : (H : ℕ) (phases : List ℕ) → presence_bits phases ≡ replicate H 1 → some_unphased phases ≡ false
unfolding some_unphased
none_unphased H [] e = refl
none_unphased zero (phase ∷ phases) e = let z : ◌≡◌ {A = ℕ} 0 1 = cc in absurd (omega arith)
none_unphased (suc H) (phase ∷ phases) e = go (is_phased phase) e (none_unphased H phases)
  where
    go : (b : Bool) → bit_number b ∷ presence_bits phases ≡ 1 ∷ replicate H 1
        → (presence_bits phases ≡ replicate H 1 → some_unphased phases ≡ false)
        → not b || some_unphased phases ≡ false
    go true e k = k (cc)
    go false e k = let z : ◌≡◌ {A = ℕ} 0 1 = cc in absurd (omega arith)

ones_below : (n : ℕ) → Below 2 (replicate n 1)
ones_below zero = tt
ones_below (suc n) = (lit< tt, ones_below n)

-- the track that was told fits, and its bits are those read
record TrackTold (H : ℕ) (first bits : List ℕ) (t : PhaseTrack) : Type 0 where
  fits : PhasesFit H t
  first_are : first_bits t ≡ first
  bits_are : phase_bits t.phases ≡ bits

track_is_told : (H : ℕ) (first bits : List ℕ) → Below 2 first → Below 2 bits → length first ≡ suc (pick (eqb (first_of first) 1) H 0)
    → length bits ≡ ones (presence H first)
    → TrackTold H first bits (track_told H first bits)
track_is_told H [] bits f b n e = absurd (omega arith)
track_is_told H (zero ∷ rest) bits f b n e =
    let h : Told (replicate H 1) bits (phases_told (replicate H 1) bits) = told (replicate H 1) bits (ones_below H) b e in
    record {
      fits = record { count = h.count ∙ length-replicate H 1; small = h.small; all_phased = λ q. none_unphased H _ h.presence_are };
      first_are = ap (◌∷◌ 0) (sym (no_element rest (omega arith)));
      bits_are = h.bits_are;
    }
track_is_told H (suc zero ∷ rest) bits f b n e =
    let h : Told rest bits (phases_told rest bits) = told rest bits f.1 b e in
    record {
      fits = record { count = h.count ∙ omega arith; small = h.small; all_phased = λ q. never_both refl q };
      first_are = ap (◌∷◌ 1) h.presence_are;
      bits_are = h.bits_are;
    }
track_is_told H (suc (suc n) ∷ rest) bits f b _ e = absurd (omega (arith, f.0))

-- what was read fits, and was written out there
pub record IsPhaseTrack (H : ℕ) (bs : List ℕ) (t : PhaseTrack) (left : List ℕ) : Type 0 where
  pub fits : PhasesFit H t
  pub written : bs ≡ phase_track_bytes t ++ left

-- the bits that were read before the phase bits are as many as their first says
first_count_is : (H : ℕ) (first bs left : List ℕ) → Below 2 first → bs ≡ packed one first ++ left → length first ≡ first_count H bs
    → length first ≡ suc (pick (eqb (first_of first) 1) H 0)
first_count_is H [] bs left f w n = absurd (omega arith)
first_count_is H (bit ∷ bits) bs left f w n =
    n ∙ ap (λ (k : ℕ). suc (pick (eqb k 1) H 0)) (ap (λ (xs : List ℕ). first_of xs % 2) w ∙ first_bit_is bit bits left f.0)

-- whatever track was read fits, and the bytes are that track written out
pub phase_track_as_written : (end H : ℕ) (bs : List ℕ) → Bytes bs → Holds (IsPhaseTrack H bs) (read_phase_track end H bs)
unfolding read_phase_track phase_track_bytes
phase_track_as_written end H bs y =
    by_bind (ArePacked one (first_count H bs) bs) (IsPhaseTrack H bs) (read_packed end one (first_count H bs) bs) _
    (packed_as_written end one (first_count H bs) bs y) (λ first left₁ h₁.
    let y₁ : Bytes left₁ = below_after 256 (packed one first) left₁ (rw h₁.written at y) in
    by_map (ArePacked one (ones (presence H first)) left₁) (IsPhaseTrack H bs) (read_packed end one (ones (presence H first)) left₁) _
    (packed_as_written end one (ones (presence H first)) left₁ y₁) (λ bits left h.
    let is : TrackTold H first bits (track_told H first bits)
    = track_is_told H first bits h₁.small h.small (first_count_is H first bs left₁ h₁.small h₁.written h₁.count) h.count in
    record {
      fits = is.fits;
      written = h₁.written ∙ ap (◌++◌ (packed one first)) h.written ∙ sym (append_assoc (packed one first) (packed one bits) left)
          ∙ ap₂ (λ (xs ys : List ℕ). (packed one xs ++ packed one ys) ++ left) (sym is.first_are) (sym is.bits_are);
    }))

-- ---- a record's phase track, if it has one

-- what was read is there if the type says so, fits, and was written out there
pub record IsPhases (has : Bool) (H : ℕ) (bs : List ℕ) (p : Phases) (left : List ℕ) : Type 0 where
  pub has_is : has_phases p ≡ has
  pub fits : PhasesObey H p
  pub written : bs ≡ phases_bytes p ++ left

-- phases that obey, written out, are read as themselves
pub phases_read_back : (end H : ℕ) (p : Phases) (left : List ℕ) → PhasesObey H p
    → read_phases (has_phases p) end H (phases_bytes p ++ left) ≡ ok p left
phases_read_back end H no_phases left f = refl
phases_read_back end H (phased t) left f = rw (phase_track_read_back end H t left f)

-- whatever phases were read obey, and the bytes are those phases written out
pub phases_as_written : (has : Bool) (end H : ℕ) (bs : List ℕ) → Bytes bs → Holds (IsPhases has H bs) (read_phases has end H bs)
phases_as_written true end H bs y =
    by_map (IsPhaseTrack H bs) (IsPhases true H bs) (read_phase_track end H bs) phased (phase_track_as_written end H bs y)
    (λ t left h. record { has_is = refl; fits = h.fits; written = h.written })
phases_as_written false end H bs y = record { has_is = refl; fits = tt; written = refl }

-- ---- what a row's samples are read as

-- no more calls are heterozygous than there are samples
pub heterozygous_count_most : (row : List ℕ) → heterozygous_count row ≤ length row
unfolding heterozygous_count
heterozygous_count_most [] = le_refl 0
heterozygous_count_most (category ∷ row) =
    by_test (λ (n : ℕ). n ≤ suc (length row)) (heterozygous category) (λ t. omega (arith, heterozygous_count_most row))
    (λ t. omega (arith, heterozygous_count_most row))

-- a row's phases are as many as its samples
pub spread_length : (row phases : List ℕ) → length (spread row phases) ≡ length row
unfolding spread
spread_length [] phases = refl
spread_length (category ∷ row) phases =
    by_test (λ (xs : List ℕ). length xs ≡ suc (length row)) (heterozygous category) (λ t. ap suc (spread_length row (rest_of phases)))
    (λ t. ap suc (spread_length row phases))

pub phases_over_length : (row : List ℕ) (p : Phases) → length (phases_over row p) ≡ length row
phases_over_length row no_phases = length-replicate (length row) 0
phases_over_length row (phased t) = spread_length row t.phases

-- where no call has a phase every sample is read as unphased
pub spread_none : (row : List ℕ) → spread row [] ≡ replicate (length row) 0
unfolding spread
spread_none [] = refl
spread_none (category ∷ row) =
    by_test (λ (xs : List ℕ). xs ≡ 0 ∷ replicate (length row) 0) (heterozygous category) (λ t. ap (◌∷◌ 0) (spread_none row))
    (λ t. ap (◌∷◌ 0) (spread_none row))

pub first_below : (phases : List ℕ) → Below 3 phases → first_of phases < 3
first_below [] h = lit< tt
first_below (phase ∷ phases) h = h.0

pub rest_below : (phases : List ℕ) → Below 3 phases → Below 3 (rest_of phases)
rest_below [] h = tt
rest_below (phase ∷ phases) h = h.1

spread_below : (row phases : List ℕ) → Below 3 phases → Below 3 (spread row phases)
unfolding spread
spread_below [] phases h = tt
spread_below (category ∷ row) phases h =
    by_test (Below 3) (heterozygous category) (λ t. (first_below phases h, spread_below row (rest_of phases) (rest_below phases h)))
    (λ t. (lit< tt, spread_below row phases h))

zeros_below : (n : ℕ) → Below 3 (replicate n 0)
zeros_below zero = tt
zeros_below (suc n) = (lit< tt, zeros_below n)

-- each is 0, 1 or 2
pub phases_over_small : (row : List ℕ) (p : Phases) → PhasesObey (heterozygous_count row) p → Below 3 (phases_over row p)
phases_over_small row no_phases f = zeros_below (length row)
phases_over_small row (phased t) f = spread_below row t.phases f.small
