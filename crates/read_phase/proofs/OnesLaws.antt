-- The set bits of bytes: of the bytes that pack some bits as many as of the bits are set, and how a loop counts them.
-- Assumes nothing.
use mathlib.Core.Path.{◌≡◌, refl}
use Prim.Native.Nat.{ℕ, zero, suc, ◌+◌, ◌*◌, ◌/◌, ◌%◌, ◌<◌, ◌≤◌}
use native.Mathlib.Omega.{arith}
use native.Mathlib.Numerals.{add-one}
use mathlib.Core.List.{List, [], ◌∷◌}
use lib.ListN.{length, get_or, drop, replicate, drop_of_length-le}
use lib.Seq.{drop-cons}
use lib.Count
use mir.Syntax.{w8, w32}
use mir.Val.{Fits}
use Rattle.format.specs.Base.{Below}
use Rattle.format.specs.Limits.{most_samples}
use Rattle.format.specs.Packed.{one, byte_of, packed_after, packed}
use Rattle.format.specs.Phase.{ones}
use Rattle.read_phase.specs.Phases.{byte_ones}

-- ---- bits and the bytes that pack them

-- a bit more, below the others
ones_above : (x v : ℕ) → v < 2 → Count.ones (x * 2 + v) ≡ v + Count.ones x
ones_above x v h =
    let m : (x * 2 + v) % 2 ≡ v = omega arith in
    let d : (x * 2 + v) / 2 ≡ x = omega arith in
    rw (Count.ones_step (x * 2 + v), m, d)

no_ones : Count.ones 0 ≡ 0
unfolding Count.ones Count.ones_in
no_ones = refl

-- those in the bytes to come, and those in the byte that has so much room
after_ones : (m room : ℕ) (bits : List ℕ) → Below 2 bits → byte_ones (packed_after 2 m room bits) + Count.ones (byte_of 2 room bits) ≡ ones bits
unfolding byte_ones packed_after byte_of ones
after_ones m room [] h = rw no_ones
after_ones m zero (bit ∷ bits) h = rw (no_ones, ones_above (byte_of 2 m bits) bit h.0) (omega (arith, after_ones m m bits h.1))
after_ones m (suc room) (bit ∷ bits) h = rw (ones_above (byte_of 2 room bits) bit h.0) (omega (arith, after_ones m room bits h.1))

-- as many bits are set as in their bytes
pub packed_ones : (bits : List ℕ) → Below 2 bits → byte_ones (packed one bits) ≡ ones bits
unfolding byte_of
packed_ones bits h = let e : Count.ones (byte_of 2 0 bits) ≡ 0 = no_room bits in omega (arith, after_ones 7 0 bits h)
  where
    no_room : (bits : List ℕ) → Count.ones (byte_of 2 0 bits) ≡ 0
    no_room [] = no_ones
    no_room (bit ∷ bits) = no_ones

pub ones_few : (bits : List ℕ) → Below 2 bits → ones bits ≤ length bits
unfolding ones
ones_few [] h = omega arith
ones_few (bit ∷ bits) h = omega (arith, h.0, ones_few bits h.1)

pub ones_all : (count : ℕ) → ones (replicate count 1) ≡ count
unfolding ones
ones_all zero = refl
ones_all (suc count) = rw (ones_all count) (omega arith)

-- ---- the loop that counts them

-- before turn i: what was counted, and what is to come
pub record CountingOnes (part : List ℕ) (count i : ℕ) : Type 0 where
  pub reached : i ≤ length part
  pub short : length part ≤ most_samples
  pub few : count ≤ 8 * i
  pub whole : count + byte_ones (drop i part) ≡ byte_ones part

pub no_ones_counted : (part : List ℕ) → length part ≤ most_samples → CountingOnes part 0 0
no_ones_counted part h = record { reached = omega arith; short = h; few = omega arith; whole = omega arith }

module _ (part : List ℕ) (count i : ℕ) (w : CountingOnes part count i) where
  module _ (h : i < length part) (known : (i : ℕ) → Fits w8 (get_or part i 0)) where
    eight : Count.ones (get_or part i 0) ≤ 8
    eight = Count.ones-le 8 (get_or part i 0) (known i).fits

    pub ones_room : Fits w32 (count + Count.ones (get_or part i 0))
    ones_room = record { fits = omega (arith, eight) }

    pub ones_turn : CountingOnes part (count + Count.ones (get_or part i 0)) (i + 1)
    unfolding byte_ones
    ones_turn =
        let m : byte_ones (drop i part) ≡ Count.ones (get_or part i 0) + byte_ones (drop (i + 1) part) = rw (drop-cons part i 0 h, add-one) in
        record { reached = omega arith; short = w.short; few = omega (arith, eight); whole = omega (arith, w.whole) }

  pub ones_counted : length part ≤ i → count ≡ byte_ones part
  unfolding byte_ones
  ones_counted h = let z : byte_ones (drop i part) ≡ 0 = rw (drop_of_length-le part h) in omega (arith, w.whole)

pub ruleset ones_laws = (no_ones_counted, ones_room, ones_turn, ones_counted)
