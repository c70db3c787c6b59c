-- Where an array's numbers stand, for both widths at once: `per`, numbers to a byte, is what the code writes out for its width, 8 or 4.
-- Assumes nothing.
use mathlib.Core.Path.{◌≡◌, refl, sym}
use Prim.Native.Nat.{ℕ, zero, suc, ◌+◌, ◌*◌, ◌/◌, ◌%◌, ◌^◌, ◌≤◌, ◌<◌}
use native.Mathlib.Omega.{arith}
use native.Mathlib.Nat.{pow-suc}
use mathlib.Core.List.{List}
use lib.ListN.{drop, get_or}
use lib.Seq.{get_or-drop}
use lib.Bits.{bit_and, and_mask}
use Rattle.format.specs.Packed.{Bits, one, two, four, eight, limit, more, packed_size}
use Rattle.format.proofs.PackedLaws.{byte_there}
use Rattle.head_index.specs.NumbersAt.{digit_at}
use Rattle.head_index.proofs.UnusedBits.{none_unused, some_unused, next_inside}
use Rattle.read_packed.specs.Arrays.{bits_of, number_in, unused}
use Rattle.read_packed.specs.declared.Width.{Width}
use Rattle.read_packed.specs.declared.Width.TheVariants.{One, Two}

-- ---- what the code writes out: numbers to a byte, and the power of two by which a shift divides

abbrev pub per_byte : Width → ℕ
per_byte width = suc (more (bits_of width))

pub eight_a_byte : (width : Width) → width ≡ One → 8 ≡ per_byte width
eight_a_byte width e = rw e

pub four_a_byte : (width : Width) → width ≡ Two → 4 ≡ per_byte width
four_a_byte width e = rw e

four_power : (r : ℕ) → 2 ^ (2 * r) ≡ 4 ^ r
four_power zero = refl
four_power (suc r) =
    let e : 2 * suc r ≡ suc (suc (2 * r)) = omega arith in
    let a : 2 ^ suc (suc (2 * r)) ≡ 2 ^ suc (2 * r) * 2 = pow-suc 2 (suc (2 * r)) in
    let b : 2 ^ suc (2 * r) ≡ 2 ^ (2 * r) * 2 = pow-suc 2 (2 * r) in
    let c : 4 ^ suc r ≡ 4 ^ r * 4 = pow-suc 4 r in
    rw e (omega (arith, four_power r))

pub one_shift : (width : Width) (r : ℕ) → width ≡ One → 2 ^ r ≡ limit (bits_of width) ^ r
one_shift width r e = rw e

pub two_shift : (width : Width) (r : ℕ) → width ≡ Two → 2 ^ (2 * r) ≡ limit (bits_of width) ^ r
two_shift width r e = rw (e, four_power r)

-- ---- room for them, and their size

some_full : (bits : Bits) (n : ℕ) → n / suc (more bits) ≤ packed_size bits n
some_full one n = omega arith
some_full two n = omega arith
some_full four n = omega arith
some_full eight n = omega arith

module _ (width : Width) (per : ℕ) (e : per ≡ per_byte width) where
  pub number_room : (at n m : ℕ) → at + n / per_byte width < m → at + n / per < m
  number_room at n m h = rw e h

  pub size_is : (q n : ℕ) → per ≡ suc q → (n + q) / per ≡ packed_size (bits_of width) n
  size_is q n h = let f : q ≡ more (bits_of width) = omega arith in rw (e, f)

  module _ (at n m : ℕ) (room : at + packed_size (bits_of width) n ≤ m) where
    pub full_room : at + n / per ≤ m
    full_room = rw e (omega (arith, some_full (bits_of width) n))

    pub part_room : (n % per ≡ 0 → ⊥) → at + n / per < m
    part_room h = rw e (omega (arith, next_inside (bits_of width) n (rw e at h)))

    pub size_room : (q : ℕ) → per ≡ suc q → at + (n + q) / per ≤ m
    size_room q h = rw (size_is q n h) room

  module _ (l : List ℕ) (at n : ℕ) where
    pub unused_full : n % per ≡ 0 → 0 ≡ unused (bits_of width) l at n
    unfolding unused
    unused_full h = sym (none_unused (bits_of width) n (drop at l) (rw e at h))

    pub unused_part : (n % per ≡ 0 → ⊥) → (x : ℕ) → x ≡ limit (bits_of width) ^ (n % per) → get_or l (at + n / per) 0 / x ≡ unused (bits_of width) l at n
    unfolding unused
    unused_part h x f = rw (f, e) (sym (some_unused (bits_of width) n at l (rw e at h)))

-- number k of n
pub number_inside : (width : Width) (at k n m : ℕ) → at + packed_size (bits_of width) n ≤ m → k < n → at + k / per_byte width < m
number_inside width at k n m room h = omega (arith, byte_there (bits_of width) k n h)

pub number_as : (width told : Width) (l : List ℕ) (at k r : ℕ) → width ≡ told → r ≡ number_in (bits_of told) l at k → r ≡ number_in (bits_of width) l at k
number_as width told l at k r e h = rw e h

-- ---- a number of one bit and one of two, as the code takes them out of their byte

pub one_bit_is : (l : List ℕ) (v k : ℕ) → bit_and (get_or l (v + k / 8) 0 / 2 ^ (k % 8)) 1 ≡ number_in one l v k
unfolding number_in digit_at
one_bit_is l v k = rw (get_or-drop v l (k / 8) 0) (and_mask (get_or l (v + k / 8) 0 / 2 ^ (k % 8)) 1)

pub two_bits_are : (l : List ℕ) (v k : ℕ) → bit_and (get_or l (v + k / 4) 0 / 2 ^ (2 * (k % 4))) 3 ≡ number_in two l v k
unfolding number_in digit_at
two_bits_are l v k = rw (get_or-drop v l (k / 4) 0, ← four_power (k % 4)) (and_mask (get_or l (v + k / 4) 0 / 2 ^ (2 * (k % 4))) 2)

pub ruleset written_out = (eight_a_byte, four_a_byte, one_shift, two_shift)

pub ruleset width_laws = (written_out, number_room, size_is, full_room, part_room, size_room, unused_full, unused_part, number_as)
