-- The change of the first numbers of packed bytes: on a packed array it changes its numbers, and what follows stays; and one byte of it in place.
-- Assumes nothing.
use mathlib.Core.Path.{◌≡◌, refl, sym, ap, ap₂, ◌∙◌}
use Prim.Native.Nat.{ℕ, zero, suc, ◌+◌, ◌-◌, ◌*◌, ◌<◌}
use native.Mathlib.Nat.{zero-sub, sub-zero, suc-sub-suc}
use native.Mathlib.Numerals.{add-one}
use native.Mathlib.Omega.{arith}
use mathlib.Core.Bool.{Bool, true, false}
use mathlib.Core.List.{List, [], ◌∷◌, ◌++◌, map}
use lib.ListN.{length, get_or, take, drop, set, length-map, take-append-drop}
use lib.Seq.{take-suc-set, drop-set-lt, drop-cons, append_snoc}
use lib.Arith.{digits_div, digits_mod}
use Rattle.format.specs.Base.{Below}
use Rattle.format.specs.Category.{exchange, exchange_all, just_one}
use Rattle.format.specs.Packed.{one, two, byte_of, packed_after, packed}
use Rattle.format.specs.Track.{bit_number}
use Rattle.flip_bytes.specs.Changed.{changed_byte, changed, complement}

module _ (b m : ℕ) (f : ℕ → ℕ) where
  -- no number changed
  pub changed_none : (bs : List ℕ) → changed b m f 0 bs ≡ bs
  unfolding changed
  changed_none [] = refl
  changed_none (x ∷ bs) = ap (◌∷◌ x) (ap (λ (n : ℕ). changed b m f n bs) (zero-sub (suc m)) ∙ changed_none bs)

  -- it keeps the length
  pub changed_length : (n : ℕ) (bs : List ℕ) → length (changed b m f n bs) ≡ length bs
  unfolding changed
  changed_length n [] = refl
  changed_length n (x ∷ bs) = ap suc (changed_length (n - suc m) bs)

  -- ---- on packed numbers

  byte_of_changed : (room : ℕ) (vs : List ℕ) → Below b vs → changed_byte b f room (length vs) (byte_of b room vs) ≡ byte_of b room (map f vs)
  unfolding byte_of
  byte_of_changed zero [] h = refl
  byte_of_changed zero (v ∷ vs) h = refl
  byte_of_changed (suc room) [] h = refl
  byte_of_changed (suc room) (v ∷ vs) h =
      simp (digits_div (byte_of b room vs) h.0, digits_mod (byte_of b room vs) h.0, byte_of_changed room vs h.1)

  after_changed : (room : ℕ) (vs left : List ℕ) → Below b vs
      → changed b m f (length vs - room) (packed_after b m room vs ++ left) ≡ packed_after b m room (map f vs) ++ left
  unfolding packed_after changed
  after_changed room [] left h = ap (λ (n : ℕ). changed b m f n left) (zero-sub room) ∙ changed_none left
  after_changed zero (v ∷ vs) left h =
      ap (λ (n : ℕ). changed b m f n (packed_after b m 0 (v ∷ vs) ++ left)) (sub-zero (suc (length vs)))
      ∙ ap₂ ◌∷◌
      (ap₂ (λ (x y : ℕ). changed_byte b f m (length vs) x * b + f y) (digits_div (byte_of b m vs) h.0) (digits_mod (byte_of b m vs) h.0)
      ∙ ap (λ (x : ℕ). x * b + f v) (byte_of_changed m vs h.1))
      (ap (λ (n : ℕ). changed b m f n (packed_after b m m vs ++ left)) (suc-sub-suc (length vs) m) ∙ after_changed m vs left h.1)
  after_changed (suc room) (v ∷ vs) left h =
      ap (λ (n : ℕ). changed b m f n (packed_after b m room vs ++ left)) (suc-sub-suc (length vs) room) ∙ after_changed room vs left h.1

  pub packed_changed : (n : ℕ) (vs left : List ℕ) → length vs ≡ n → Below b vs
      → changed b m f n (packed_after b m 0 vs ++ left) ≡ packed_after b m 0 (map f vs) ++ left
  packed_changed n vs left e h =
      ap (λ (k : ℕ). changed b m f k (packed_after b m 0 vs ++ left)) (let z : n ≡ length vs - 0 = omega arith in z) ∙ after_changed 0 vs left h

  -- ---- byte after byte: n numbers still to change, from byte i on

  abbrev pub still : List ℕ → ℕ → ℕ → List ℕ
  still s i n = take i s ++ changed b m f n (drop i s)

  pub still_none : (s : List ℕ) (i : ℕ) → still s i 0 ≡ s
  still_none s i = ap (λ (l : List ℕ). take i s ++ l) (changed_none (drop i s)) ∙ take-append-drop i s

  -- a byte changed, the rest still to do
  pub still_turn : (s : List ℕ) (i n v : ℕ) → i < length s → v ≡ changed_byte b f (suc m) n (get_or s i 0)
      → still (set s i v) (i + 1) (n - suc m) ≡ still s i n
  unfolding changed
  still_turn s i n v h e =
      ap (λ (j : ℕ). still (set s i v) j (n - suc m)) (add-one i)
      ∙ ap₂ (λ (x y : List ℕ). x ++ changed b m f (n - suc m) y) (take-suc-set s i v h) (drop-set-lt (suc i) s i v (omega arith))
      ∙ append_snoc (take i s) v (changed b m f (n - suc m) (drop (suc i) s))
      ∙ ap (λ (x : ℕ). take i s ++ x ∷ changed b m f (n - suc m) (drop (suc i) s)) e
      ∙ ap (λ (l : List ℕ). take i s ++ changed b m f n l) (sym (drop-cons s i 0 h))

-- ---- the two uses

-- on packed categories it exchanges 0 and 2 of all of them, and what follows stays
pub values_packed : (n : ℕ) (vs left : List ℕ) → length vs ≡ n → Below 4 vs
    → changed 4 3 exchange n (packed two vs ++ left) ≡ packed two (exchange_all true vs) ++ left
values_packed n vs left e h = packed_changed 4 3 exchange n vs left e h

bits_below : (bits : List Bool) → Below 2 (map bit_number bits)
bits_below [] = tt
bits_below (true ∷ bits) = (omega arith, bits_below bits)
bits_below (false ∷ bits) = (omega arith, bits_below bits)

bits_turned : (bits : List Bool) → map complement (map bit_number bits) ≡ map bit_number (map (just_one true) bits)
bits_turned [] = refl
bits_turned (true ∷ bits) = ap (◌∷◌ 0) (bits_turned bits)
bits_turned (false ∷ bits) = ap (◌∷◌ 1) (bits_turned bits)

-- on packed bits it turns all of them; the unused ones, and what follows, stay
pub bits_packed : (n : ℕ) (bits : List Bool) (left : List ℕ) → length bits ≡ n
    → changed 2 7 complement n (packed one (map bit_number bits) ++ left) ≡ packed one (map bit_number (map (just_one true) bits)) ++ left
bits_packed n bits left e =
    packed_changed 2 7 complement n (map bit_number bits) left (length-map bits bit_number ∙ e) (bits_below bits)
    ∙ ap (λ (xs : List ℕ). packed one xs ++ left) (bits_turned bits)
