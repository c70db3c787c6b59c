-- Numbers packed one after another are a packed array.
-- Assumes nothing.
use mathlib.Core.Path.{◌≡◌, refl, ap, ◌∙◌}
use Prim.Native.Nat.{ℕ, zero, suc, ◌+◌, ◌*◌, ◌≤◌, ◌<◌}
use native.Mathlib.Omega.{arith}
use native.Mathlib.Nat.{mul-le-mul_left, mul-le-mul_right, mul-le-mul}
use native.Mathlib.Numerals.{add-one}
use mathlib.Core.List.{List, [], ◌∷◌, ◌++◌}
use mathlib.Core.Bool.{true, false}
use lib.ListN.{length, set, length-set}
use lib.Dec.{ltb}
use mir.Syntax.{w8, w64}
use mir.Val.{Fits}
use borrow.Author.Tests.{ne_eqb, lt-ltb, le-ltb}
use Rattle.format.specs.Packed.{Bits, one, two, four, eight, limit, more, byte_of, packed_after, packed}
use Rattle.format.proofs.Rules.{by_test}
use Rattle.write_bytes.specs.Written.{Wrote}
use Rattle.write_bytes.specs.InTurn.{last_byte, packed_from, Scale, PackingFits, PackedOn, PackingGoes}
use Rattle.write_bytes.specs.declared.Packing.{Packing}

-- ---- the scale

scale_most : (l more scale : ℕ) → Scale l more scale → scale * l ≤ 256
scale_most l zero scale q = omega arith
scale_most l (suc more) scale q = omega arith

-- every width fills a byte
pub scale_of : (bits : Bits) → Scale (limit bits) (more bits) 1
scale_of one = (omega arith, (omega arith, (omega arith, (omega arith, (omega arith, (omega arith, (omega arith, refl)))))))
scale_of two = (omega arith, (omega arith, (omega arith, refl)))
scale_of four = (omega arith, refl)
scale_of eight = refl

limit_some : (bits : Bits) → 2 ≤ limit bits
limit_some one = omega arith
limit_some two = omega arith
limit_some four = omega arith
limit_some eight = omega arith

-- before the first number
pub fits_first : (bits : Bits) → PackingFits (limit bits) 1 0
fits_first bits =
    record { more = more bits; is_scale = scale_of bits; most = more bits; from_1 = scale_of bits; some = limit_some bits; below = omega arith }

module _ (l scale byte v : ℕ) (f : PackingFits l scale byte) (h : v < l) where
  number_below : byte + v * scale < scale * l
  number_below =
      let t : suc v * scale ≤ l * scale = mul-le-mul_right scale h in
      omega (arith, f.below)

  number_small : byte + v * scale < 256
  number_small = omega (arith, number_below, scale_most l f.more scale f.is_scale)

-- ---- one number

module _ (l : ℕ) (packing : Packing) (f : PackingFits l packing.scale packing.byte) where
  pub scale_fits : Fits w64 (packing.scale * l)
  scale_fits = record { fits = omega (arith, scale_most l f.more packing.scale f.is_scale) }

  module _ (v : ℕ) (h : v < l) where
    pub number_fits : Fits w64 (v * packing.scale)
    number_fits = record { fits = omega (arith, number_small l packing.scale packing.byte v f h) }

    pub sum_fits : Fits w64 (packing.byte + v * packing.scale)
    sum_fits = record { fits = omega (arith, number_small l packing.scale packing.byte v f h) }

    pub byte_fits : Fits w8 (packing.byte + v * packing.scale)
    byte_fits = record { fits = number_small l packing.scale packing.byte v f h }

    -- the byte has room for more
    pub number_more : (to : List ℕ) → packing.scale * l < 256
        → PackedOn l to packing (v ∷ []) (record { scale = packing.scale * l; byte = packing.byte + v * packing.scale; at = packing.at }) to
    unfolding packed_from
    number_more to t =
        let q : ltb (packing.scale * l) 256 ≡ true = lt-ltb (packing.scale * l) 256 t in
        record { fits = go f.more f.is_scale; keeps = refl; ends = λ rest. simp q; same = λ rest. simp q }
      where
        go : (m : ℕ) → Scale l m packing.scale → PackingFits l (packing.scale * l) (packing.byte + v * packing.scale)
        go zero s = absurd (omega arith)
        go (suc m) s =
            record {
              more = m;
              is_scale = s.1;
              most = f.most;
              from_1 = f.from_1;
              some = f.some;
              below = number_below l packing.scale packing.byte v f h;
            }

    -- the byte is full
    pub number_full : (to : List ℕ) → 256 ≤ packing.scale * l
        → PackedOn l to packing (v ∷ []) (record { scale = 1; byte = 0; at = packing.at + 1 }) (set to packing.at (packing.byte + v * packing.scale))
    unfolding packed_from
    number_full to t =
        let q : ltb (packing.scale * l) 256 ≡ false = le-ltb (packing.scale * l) 256 t in
        record {
          fits = record { more = f.most; is_scale = f.from_1; most = f.most; from_1 = f.from_1; some = f.some; below = omega arith };
          keeps = length-set to packing.at _;
          ends = λ rest. simp q (omega arith);
          same = λ rest. simp (q, add-one);
        }

pub ruleset number_laws = (scale_fits, number_fits, sum_fits, byte_fits, number_more, number_full)

-- ---- the format's packing

no_room : (l : ℕ) (vs : List ℕ) → byte_of l 0 vs ≡ 0
unfolding byte_of
no_room l [] = refl
no_room l (v ∷ vs) = refl

begins : (xs : List ℕ) (a b : ℕ) → a ≡ b → a ∷ xs ≡ b ∷ xs
begins xs a b e = ap (λ (x : ℕ). x ∷ xs) e

more_scale : (l scale : ℕ) → 2 ≤ l → 1 ≤ scale → 2 ≤ scale * l
more_scale l scale h g = let t : 1 * 2 ≤ scale * l = mul-le-mul g h in omega arith

-- from the first number of a byte, and from a later one
record Packs (l m : ℕ) (vs : List ℕ) : Type 0 where
  pub first : packed_from l 1 0 vs ≡ packed_after l m 0 vs
  pub later : (k scale x : ℕ) → Scale l k scale → 2 ≤ scale
      → packed_from l scale x vs ≡ (byte_of l (suc k) vs * scale + x) ∷ packed_after l m (suc k) vs

module _ (l m : ℕ) (h : 2 ≤ l) (g : Scale l m 1) where
  packs_one : (v : ℕ) (vs : List ℕ) → Packs l m vs → (k scale x : ℕ) → Scale l k scale → 1 ≤ scale
      → packed_from l scale x (v ∷ vs) ≡ ((byte_of l k vs * l + v) * scale + x) ∷ packed_after l m k vs
  unfolding packed_from
  packs_one v vs p zero scale x s t =
      simp (le-ltb (scale * l) 256 (omega arith), p.first)
      (begins (packed_after l m 0 vs) (x + v * scale) ((byte_of l 0 vs * l + v) * scale + x) (rw (no_room l vs) (omega arith)))
  packs_one v vs p (suc k) scale x s t =
      simp (lt-ltb (scale * l) 256 s.0)
      (p.later k (scale * l) (x + v * scale) s.1 (more_scale l scale h t)
      ∙ begins (packed_after l m (suc k) vs) (byte_of l (suc k) vs * (scale * l) + (x + v * scale)) ((byte_of l (suc k) vs * l + v) * scale + x) (omega arith))

  packs : (vs : List ℕ) → Packs l m vs
  unfolding packed_from byte_of packed_after
  packs [] =
      record { first = refl; later = λ k scale x s t. simp (ne_eqb scale 1 (λ e. omega arith)) (begins [] x (0 * scale + x) (omega arith)) }
  packs (v ∷ vs) =
      let p : Packs l m vs = packs vs in
      record {
        first = packs_one v vs p m 1 0 g (omega arith)
            ∙ begins (packed_after l m m vs) ((byte_of l m vs * l + v) * 1 + 0) (byte_of l m vs * l + v) (omega arith);
        later = λ k scale x s t. packs_one v vs p k scale x s (omega arith);
      }

pub packed_in_turn : (bits : Bits) (vs : List ℕ) → packed_from (limit bits) 1 0 vs ≡ packed bits vs
packed_in_turn bits vs = (packs (limit bits) (more bits) (limit_some bits) (scale_of bits) vs).first

-- ---- there is a byte for each number

some_byte : (l scale byte : ℕ) (vs : List ℕ) → 2 ≤ l → 2 ≤ scale → 1 ≤ length (packed_from l scale byte vs)
unfolding packed_from
some_byte l scale byte [] h g = simp (ne_eqb scale 1 (λ e. omega arith)) (omega arith)
some_byte l scale byte (v ∷ vs) h g =
    by_test (λ (bs : List ℕ). 1 ≤ length bs) (ltb (scale * l) 256)
    (λ t. some_byte l (scale * l) (byte + v * scale) vs h (more_scale l scale h (omega arith)))
    (λ t. omega arith)

packed_some : (l scale byte v : ℕ) (vs : List ℕ) → PackingFits l scale byte → 1 ≤ length (packed_from l scale byte (v ∷ vs))
unfolding packed_from
packed_some l scale byte v vs f =
    by_test (λ (bs : List ℕ). 1 ≤ length bs) (ltb (scale * l) 256)
    (λ t. some_byte l (scale * l) (byte + v * scale) vs f.some (more_scale l scale f.some (omega (arith, f.below))))
    (λ t. omega arith)

-- what the byte at hand has so far is a byte
packing_small : (l scale byte : ℕ) → PackingFits l scale byte → byte < 256
packing_small l scale byte f =
    let t : scale * 1 ≤ scale * l = mul-le-mul_left scale (omega (arith, f.some)) in
    omega (arith, f.below, scale_most l f.more scale f.is_scale)

-- nothing packed
pub packed_nothing : (l : ℕ) (to : List ℕ) (packing : Packing) → PackingFits l packing.scale packing.byte → PackedOn l to packing [] packing to
packed_nothing l to packing f = record { fits = f; keeps = refl; ends = λ rest. refl; same = λ rest. refl }

-- ---- a loop that packs numbers

-- before the first number
pub goes_first : (bits : Bits) (numbers to : List ℕ) (at : ℕ) → at + length (packed bits numbers) ≤ length to
    → PackingGoes (limit bits) (packed bits numbers) to at to (record { scale = 1; byte = 0; at = at }) numbers
goes_first bits numbers to at h =
    record {
      fits = fits_first bits;
      room = h;
      keeps = refl;
      ends = rw (packed_in_turn bits numbers);
      same = rw (packed_in_turn bits numbers);
    }

module _ {l : ℕ} {bytes to₀ : List ℕ} {at : ℕ} {to : List ℕ} {packing : Packing} {rest : List ℕ} (v : PackingGoes l bytes to₀ at to packing rest) where
  module _ (numbers more : List ℕ) (e : rest ≡ numbers ++ more) where
    -- there is a byte for one number
    pub goes_room : length numbers ≤ 1 → packing.at + length numbers ≤ length to
    goes_room few = omega (arith, rw e at v.ends, one_at_most numbers few, v.room, v.keeps)
      where
        one_at_most : (ns : List ℕ) → length ns ≤ 1 → length ns ≤ length (packed_from l packing.scale packing.byte (ns ++ more))
        one_at_most [] few = omega arith
        one_at_most (n ∷ ns) few = omega (arith, packed_some l packing.scale packing.byte n (ns ++ more) v.fits)

    pub goes_next : {r : Packing} {after : List ℕ} → PackedOn l to packing numbers r after → PackingGoes l bytes to₀ at after r more
    goes_next w =
        record {
          fits = w.fits;
          room = v.room;
          keeps = w.keeps ∙ v.keeps;
          ends = w.ends more ∙ (rw e at v.ends);
          same = w.same more ∙ (rw e at v.same);
        }

  pub goes_small : packing.byte < 256
  goes_small = packing_small l packing.scale packing.byte v.fits

  -- no number is left
  module _ (e : rest ≡ []) where
    at_end : packed_from l packing.scale packing.byte rest ≡ last_byte packing.scale packing.byte
    unfolding packed_from
    at_end = rw e

    pub goes_last : packing.at + length (last_byte packing.scale packing.byte) ≤ length to
    goes_last = omega (arith, rw at_end at v.ends, v.room, v.keeps)

    pub goes_end : {r : ℕ} {after : List ℕ} → Wrote to packing.at (last_byte packing.scale packing.byte) r after → Wrote to₀ at bytes r after
    goes_end w = record { place = w.place ∙ (rw at_end at v.ends); same = w.same ∙ (rw at_end at v.same) }
