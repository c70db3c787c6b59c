-- Packed arrays written byte after byte.
-- Assumes nothing.
use mathlib.Core.Path.{◌≡◌, refl, ◌∙◌}
use Prim.Native.Nat.{ℕ, zero, suc, ◌+◌, ◌*◌, ◌≤◌, ◌<◌}
use native.Mathlib.Omega.{arith}
use native.Mathlib.Nat.{add-zero}
use mathlib.Core.List.{List, [], ◌∷◌, map}
use mathlib.Core.Bool.{Bool, true, false}
use mir.Val.{bool_byte}
use Rattle.std.specs.Int.{div_ceil}
use lib.ListN.{length, set, get_or, drop, length-set, length-map, drop_of_length-le}
use lib.Seq.{sets, drop-cons, drop-drop, get_or-drop}
use lib.Dec.{eqb}
use Rattle.format.specs.Base.{pick, Below}
use Rattle.format.specs.Packed.{limit, more, byte_of, packed_after, packed}
use Rattle.format.specs.Track.{bit_number}
use Rattle.write_bytes.specs.Written.{Wrote}
use Rattle.write_bytes.specs.Arrays.{width, numbers, array_bytes, array_byte}
use Rattle.write_bytes.specs.declared.Array.{Array}
use Rattle.write_bytes.specs.declared.Array.TheVariants as array

-- ---- what an array holds for a sample

pub below_at : (m : ℕ) (xs : List ℕ) (i : ℕ) → zero < m → Below m xs → get_or xs i 0 < m
below_at m [] i p h = p
below_at m (x ∷ xs) zero p h = h.0
below_at m (x ∷ xs) (suc i) p h = below_at m xs i p h.1

pub numbers_length : (a : Array) (categories : List ℕ) → length (numbers a categories) ≡ length categories
numbers_length array.Categories categories = refl
numbers_length (array.Bits higher) categories = length-map (map (λ (category : ℕ). eqb category higher) categories) bit_number ∙ length-map categories _

bit_at : (higher : ℕ) (categories : List ℕ) (i : ℕ) → i < length categories
    → get_or (numbers (array.Bits higher) categories) i 0 ≡ pick (eqb (get_or categories i 0) higher) 1 0
bit_at higher [] i h = absurd (omega arith)
bit_at higher (c ∷ categories) zero h = refl
bit_at higher (c ∷ categories) (suc i) h = bit_at higher categories i (omega arith)

by_bit : (b : Bool) → bool_byte b ≡ pick b 1 0
by_bit true = refl
by_bit false = refl

past : (xs : List ℕ) (i : ℕ) → length xs ≤ i → 0 ≡ get_or xs i 0
past [] i h = refl
past (x ∷ xs) zero h = absurd (omega arith)
past (x ∷ xs) (suc i) h = past xs i (omega arith)

module _ (a : Array) (categories : List ℕ) (i : ℕ) where
  pub number_category : a ≡ array.Categories → get_or categories i 0 ≡ get_or (numbers a categories) i 0
  number_category e = rw e

  pub category_small : Below 4 categories → a ≡ array.Categories → get_or categories i 0 < limit (width a)
  category_small h e = rw e (below_at 4 categories i (omega arith) h)

  pub number_bit : (higher bit : ℕ) → i < length categories → a ≡ array.Bits higher → bit ≡ bool_byte (eqb (get_or categories i 0) higher)
      → bit ≡ get_or (numbers a categories) i 0
  number_bit higher bit h e q = rw (e, q, bit_at higher categories i h) (by_bit (eqb (get_or categories i 0) higher))

pub bit_small : (a : Array) (higher bit : ℕ) (b : Bool) → a ≡ array.Bits higher → bit ≡ bool_byte b → bit < limit (width a)
bit_small a higher bit true e q = rw e (omega arith)
bit_small a higher bit false e q = rw e (omega arith)

-- ---- a byte

four_of_4 : (xs : List ℕ) → get_or xs 0 0 + 4 * get_or xs 1 0 + 16 * get_or xs 2 0 + 64 * get_or xs 3 0 ≡ byte_of 4 4 xs
unfolding byte_of
four_of_4 [] = refl
four_of_4 (a ∷ []) = omega arith
four_of_4 (a ∷ b ∷ []) = omega arith
four_of_4 (a ∷ b ∷ c ∷ []) = omega arith
four_of_4 (a ∷ b ∷ c ∷ d ∷ []) = omega arith
four_of_4 (a ∷ b ∷ c ∷ d ∷ x ∷ xs) = omega arith

four_of_2 : (xs : List ℕ) → get_or xs 0 0 + 2 * get_or xs 1 0 + 4 * get_or xs 2 0 + 8 * get_or xs 3 0 ≡ byte_of 2 4 xs
unfolding byte_of
four_of_2 [] = refl
four_of_2 (a ∷ []) = omega arith
four_of_2 (a ∷ b ∷ []) = omega arith
four_of_2 (a ∷ b ∷ c ∷ []) = omega arith
four_of_2 (a ∷ b ∷ c ∷ d ∷ []) = omega arith
four_of_2 (a ∷ b ∷ c ∷ d ∷ x ∷ xs) = omega arith

eight_of_2 : (xs : List ℕ) → byte_of 2 4 xs + 16 * byte_of 2 4 (drop 4 xs) ≡ byte_of 2 8 xs
unfolding byte_of
eight_of_2 [] = refl
eight_of_2 (a ∷ []) = omega arith
eight_of_2 (a ∷ b ∷ []) = omega arith
eight_of_2 (a ∷ b ∷ c ∷ []) = omega arith
eight_of_2 (a ∷ b ∷ c ∷ d ∷ []) = omega arith
eight_of_2 (a ∷ b ∷ c ∷ d ∷ x ∷ xs) = omega arith

-- four numbers of the row from i on
module _ (xs : List ℕ) (i a b c d : ℕ) (ea : a ≡ get_or xs i 0) (eb : b ≡ get_or xs (i + 1) 0)
    (ec : c ≡ get_or xs (i + 2) 0) (ed : d ≡ get_or xs (i + 3) 0) where
  pub byte_of_four : a + 4 * b + 16 * c + 64 * d ≡ byte_of 4 4 (drop i xs)
  byte_of_four = rw (ea, eb, ec, ed) (rw (get_or-drop, get_or-drop, get_or-drop, get_or-drop, add-zero) at (four_of_4 (drop i xs)))

  pub half_of_four : a + 2 * b + 4 * c + 8 * d ≡ byte_of 2 4 (drop i xs)
  half_of_four = rw (ea, eb, ec, ed) (rw (get_or-drop, get_or-drop, get_or-drop, get_or-drop, add-zero) at (four_of_2 (drop i xs)))

-- by the array: four categories, or two halves of four bits
module _ (a : Array) (categories : List ℕ) (i : ℕ) where
  pub byte_categories : (r : ℕ) → a ≡ array.Categories → r ≡ array_byte array.Categories categories i → r ≡ array_byte a categories i
  byte_categories r e f = rw e f

  pub byte_bits : (higher low high : ℕ) → a ≡ array.Bits higher → low ≡ byte_of 2 4 (drop i (numbers (array.Bits higher) categories))
      → high ≡ byte_of 2 4 (drop (i + 4) (numbers (array.Bits higher) categories)) → low + 16 * high ≡ array_byte a categories i
  byte_bits higher low high e f g =
      let xs : List ℕ = numbers (array.Bits higher) categories in
      rw (e, f, g, ← drop-drop 4 i xs) (eight_of_2 (drop i xs))

-- ---- the loop

skip : (b m room : ℕ) (xs : List ℕ) → packed_after b m room xs ≡ packed_after b m 0 (drop room xs)
unfolding packed_after
skip b m zero xs = refl
skip b m (suc room) [] = refl
skip b m (suc room) (x ∷ xs) = skip b m room xs

array_turn : (b m i each : ℕ) (xs : List ℕ) → each ≡ suc m → i < length xs
    → packed_after b m 0 (drop i xs) ≡ byte_of b (suc m) (drop i xs) ∷ packed_after b m 0 (drop (i + each) xs)
unfolding packed_after byte_of
array_turn b m i each xs q h =
    let e : i + each ≡ suc i + m = omega arith in
    rw (e, ← drop-drop m (suc i) xs, drop-cons xs i 0 h, skip b m m (drop (suc i) xs))

-- before byte k: the array from its first sample on is still to be written
pub record Going (a : Array) (categories : List ℕ) (samples : ℕ) (to₀ : List ℕ) (at : ℕ) (to : List ℕ) (k : ℕ) : Type 0 where
  pub each : samples ≡ suc (more (width a))
  pub room : at + length (array_bytes a categories) ≤ length to₀
  pub keeps : length to ≡ length to₀
  pub ends : at + k + length (packed (width a) (drop (k * samples) (numbers a categories))) ≡ at + length (array_bytes a categories)
  pub same : sets to (at + k) (packed (width a) (drop (k * samples) (numbers a categories))) ≡ sets to₀ at (array_bytes a categories)

pub bytes_start : (a : Array) (categories : List ℕ) (samples : ℕ) (to : List ℕ) (at : ℕ) → samples ≡ suc (more (width a))
    → at + length (array_bytes a categories) ≤ length to → Going a categories samples to at to 0
bytes_start a categories samples to at e h =
    let z : 0 * samples ≡ 0 = omega arith in
    record { each = e; room = h; keeps = refl; ends = rw z (omega arith); same = rw (z, add-zero) }

-- each byte has a first sample, and the bytes hold all samples
first_of : (a : Array) (n samples k : ℕ) → samples ≡ suc (more (width a)) → k < div_ceil n samples → k * samples < n
first_of array.Categories n samples k e h = rw e (let g : k < div_ceil n 4 = rw e at h in omega arith)
first_of (array.Bits higher) n samples k e h = rw e (let g : k < div_ceil n 8 = rw e at h in omega arith)

all_of : (a : Array) (n samples k : ℕ) → samples ≡ suc (more (width a)) → div_ceil n samples ≤ k → n ≤ k * samples
all_of array.Categories n samples k e h = rw e (let g : div_ceil n 4 ≤ k = rw e at h in omega arith)
all_of (array.Bits higher) n samples k e h = rw e (let g : div_ceil n 8 ≤ k = rw e at h in omega arith)

module _ {a : Array} {categories : List ℕ} {samples : ℕ} {to₀ : List ℕ} {at : ℕ} {to : List ℕ} {k : ℕ}
    (v : Going a categories samples to₀ at to k) where
  abbrev rest : List ℕ
  rest = packed (width a) (drop (k * samples + samples) (numbers a categories))

  module _ (size : ℕ) (s : size ≡ div_ceil (length categories) samples) where
    turn : k < size → packed (width a) (drop (k * samples) (numbers a categories)) ≡ array_byte a categories (k * samples) ∷ rest
    turn h =
        let t : k * samples < length categories = first_of a (length categories) samples k v.each (omega arith) in
        array_turn (limit (width a)) (more (width a)) (k * samples) samples (numbers a categories) v.each (omega (arith, numbers_length a categories))

    -- the byte has its place, and so has what comes after it
    pub bytes_room : k < size → at + k < length to
    bytes_room h = omega (arith, rw (turn h) at v.ends, v.room, v.keeps)

    pub bytes_next : (byte : ℕ) → byte ≡ array_byte a categories (k * samples) → k < size
        → Going a categories samples to₀ at (set to (at + k) byte) (k + 1)
    bytes_next byte e h =
        let q : (k + 1) * samples ≡ k * samples + samples = omega arith in
        let p : at + (k + 1) ≡ suc (at + k) = omega arith in
        record {
          each = v.each;
          room = v.room;
          keeps = simp length-set v.keeps;
          ends = rw q (omega (arith, rw (turn h) at v.ends));
          same = rw (q, p, e) (rw (turn h) at v.same);
        }

    pub bytes_end : k ≤ size → size ≤ k → Wrote to₀ at (array_bytes a categories) (at + size) to
    unfolding packed_after
    bytes_end g h =
        let t : length categories ≤ k * samples = all_of a (length categories) samples k v.each (omega arith) in
        let past_all : length (numbers a categories) ≤ k * samples = omega (arith, numbers_length a categories) in
        let e : drop (k * samples) (numbers a categories) ≡ [] = drop_of_length-le (numbers a categories) past_all in
        record { place = omega (arith, rw e at v.ends); same = rw e at v.same }

pub ruleset number_at_laws = (number_category, category_small, number_bit, bit_small)

pub ruleset byte_laws = (byte_of_four, half_of_four, byte_categories, byte_bits)

pub ruleset bytes_laws = (bytes_start, bytes_room, bytes_next, bytes_end)
