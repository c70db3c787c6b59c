-- The laws of numbers by index: a number by its bytes, as it is read, and as it was written.
-- Assumes nothing.
use mathlib.Core.Path.{◌≡◌, refl, sym, ap, ◌∙◌}
use Prim.Native.Nat.{ℕ, zero, suc, ◌+◌, ◌*◌, ◌/◌, ◌%◌, ◌^◌, ◌≤◌, ◌<◌}
use native.Mathlib.Nat.{add-zero, zero-add, suc-add, pow-zero, pow-suc, div-lt_iff_lt-mul, mul-zero, mul-suc}
use mathlib.Core.List.{List, [], ◌∷◌, ◌++◌, append_assoc}
use lib.ListN.{length, take, drop, get_or, length-drop}
use lib.Seq.{drop-append-add, drop_at, drop-cons, drop-drop, get_or-drop}
use lib.Dec.{lit<}
use lib.Arith.{lt-one}
use native.Mathlib.Omega.{arith}
use native.Mathlib.Numerals.{add-one}
use Rattle.format.specs.Base.{Below, Bytes, ok, refuse}
use Rattle.format.specs.Numbers.{number_bytes, read_number, numbers_bytes, read_numbers}
use Rattle.format.specs.Packed.{Bits, limit, more, packed}
use Rattle.format.proofs.NumbersLaws.{number_length}
use Rattle.format.proofs.PackedLaws.{packed_at}
unfoldable pub use Rattle.head_index.specs.NumbersAt.{number_at, numbers_at, digit_at, digits_at}
unfoldable pub use Rattle.head_index.specs.VariantsAt.{block_variants, lengths_place, offset_at, type_at, length_at, start_at}

-- ---- bytes

-- a list is of bytes where each of its elements is one
pub bytes_of : (bs : List ℕ) → ((i : ℕ) → get_or bs i 0 < 256) → Bytes bs
bytes_of [] h = tt
bytes_of (x ∷ bs) h = (h 0, bytes_of bs (λ i. h (suc i)))

pub byte_below : (bs : List ℕ) (i : ℕ) → Bytes bs → get_or bs i 0 < 256
byte_below [] i y = omega arith
byte_below (x ∷ bs) zero y = y.0
byte_below (x ∷ bs) (suc i) y = byte_below bs i y.1

-- ---- a number by its bytes

-- the lower bytes and those above them
pub splits : (w k : ℕ) (bs : List ℕ) → number_at (w + k) bs ≡ number_at w bs + 256 ^ w * number_at k (drop w bs)
unfolding number_at
splits zero k bs = rw (zero-add k, pow-zero) (omega arith)
splits (suc w) k bs =
    let d : drop w (drop 1 bs) ≡ drop (suc w) bs = drop-drop w 1 bs ∙ ap (λ (z : ℕ). drop z bs) (let z : 1 + w ≡ suc w = omega arith in z) in
    rw (suc-add, pow-suc) (omega (arith, rw d at (splits w k (drop 1 bs))))

-- the lowest byte
pub low_byte : (at : ℕ) (bs : List ℕ) {x : ℕ} → x ≡ get_or bs at 0 → x ≡ number_at 1 (drop at bs)
unfolding number_at
low_byte at bs e = simp (get_or-drop, add-zero) (omega arith)

-- one byte more, above those that were read
pub high_byte : (w at : ℕ) (bs : List ℕ) {x b : ℕ} → x ≡ number_at w (drop at bs) → b ≡ get_or bs (at + w) 0 → x + 256 ^ w * b ≡ number_at (w + 1) (drop at bs)
high_byte w at bs e d = rw (e, low_byte (at + w) bs d, splits w 1 (drop at bs), drop-drop)

-- ---- numbers that are there, or not

-- a number whose bytes are there is read
pub number_there : (end w : ℕ) (bs : List ℕ) → w ≤ length bs → read_number end w bs ≡ ok (number_at w bs) (drop w bs)
unfolding read_number number_at
number_there end zero bs h = refl
number_there end (suc w) [] h = absurd (omega arith)
number_there end (suc w) (b ∷ bs) h = simp (number_there end w bs (omega arith))

-- one whose bytes are not all there is refused
pub number_short : (end w : ℕ) (bs : List ℕ) → length bs < w → read_number end w bs ≡ refuse 12 end
unfolding read_number
number_short end zero bs h = absurd (omega arith)
number_short end (suc w) [] h = refl
number_short end (suc w) (b ∷ bs) h = simp (number_short end w bs (omega arith))

-- a row whose bytes are there is read
pub numbers_there : (end w count : ℕ) (bs : List ℕ) → w * count ≤ length bs → read_numbers end w count bs ≡ ok (numbers_at w count bs) (drop (w * count) bs)
unfolding read_numbers numbers_at
numbers_there end w zero bs h = rw mul-zero refl
numbers_there end w (suc count) bs h =
    let e : w * suc count ≡ w + w * count = mul-suc w count ∙ omega arith in
    rw e (simp (
      number_there end w bs (omega (arith, mul-suc w count)),
      numbers_there end w count (drop w bs)
          (rw length-drop (omega (arith, mul-suc w count))),
      drop-drop,
    ))

-- the same at a place
pub number_there_at : (end w k : ℕ) (bs : List ℕ) → k + w ≤ length bs → read_number end w (drop k bs) ≡ ok (number_at w (drop k bs)) (drop (k + w) bs)
number_there_at end w k bs h =
    number_there end w (drop k bs) (rw length-drop (omega arith)) ∙ ap (ok (number_at w (drop k bs))) (drop-drop w k bs)

pub number_short_at : (end w k : ℕ) (bs : List ℕ) → length bs < k + w → k ≤ length bs → read_number end w (drop k bs) ≡ refuse 12 end
number_short_at end w k bs h g = number_short end w (drop k bs) (rw length-drop (omega arith))

-- ---- what was written is found

-- a written number is found
pub number_at_is : (w n : ℕ) (left : List ℕ) → n < 256 ^ w → number_at w (number_bytes w n ++ left) ≡ n
unfolding number_at number_bytes
number_at_is zero n left h = sym (lt-one (rw pow-zero at h))
number_at_is (suc w) n left h = simp (number_at_is w (n / 256) left ((div-lt_iff_lt-mul (lit< tt)).1 (rw pow-suc at h))) (omega arith)

-- past a number stands what follows it
past_number : (w n k : ℕ) (left : List ℕ) → drop (w + k) (number_bytes w n ++ left) ≡ drop k left
past_number w n k left =
    let e : w + k ≡ length (number_bytes w n) + k = ap (λ (x : ℕ). x + k) (sym (number_length w n)) in
    ap (λ (x : ℕ). drop x (number_bytes w n ++ left)) e ∙ drop-append-add (number_bytes w n) left k

-- number i of a written row is found
pub row_number_at : (w i : ℕ) (ns left : List ℕ) → Below (256 ^ w) ns → i < length ns → number_at w (drop (w * i) (numbers_bytes w ns ++ left)) ≡ get_or ns i 0
unfolding numbers_bytes
row_number_at w i [] left h l = absurd (omega arith)
row_number_at w zero (n ∷ ns) left h l = rw (mul-zero, append_assoc) (number_at_is w n (numbers_bytes w ns ++ left) h.0)
row_number_at w (suc i) (n ∷ ns) left h l =
    let e : w * suc i ≡ w + w * i = mul-suc w i ∙ omega arith in
    rw (e, append_assoc, past_number w n (w * i) (numbers_bytes w ns ++ left)) (row_number_at w i ns left h.1 (omega arith))

-- the first numbers of a written row are found
pub numbers_at_are : (w count : ℕ) (ns left : List ℕ) → Below (256 ^ w) ns → count ≤ length ns → numbers_at w count (numbers_bytes w ns ++ left) ≡ take count ns
unfolding numbers_bytes numbers_at
numbers_at_are w zero [] left h l = refl
numbers_at_are w zero (n ∷ ns) left h l = refl
numbers_at_are w (suc count) [] left h l = absurd (omega arith)
numbers_at_are w (suc count) (n ∷ ns) left h l =
    let d : drop w (number_bytes w n ++ (numbers_bytes w ns ++ left)) ≡ numbers_bytes w ns ++ left
    = drop_at (number_bytes w n) (numbers_bytes w ns ++ left) w (number_length w n) in
    simp (append_assoc, number_at_is w n (numbers_bytes w ns ++ left) h.0, d, numbers_at_are w count ns left h.1 (omega arith))

-- ---- the numbers of a packed array

pub digits_length : (bits : Bits) (bs : List ℕ) (i count : ℕ) → length (digits_at bits bs i count) ≡ count
unfolding digits_at
digits_length bits bs i zero = refl
digits_length bits bs i (suc count) = ap suc (digits_length bits bs (i + 1) count)

-- those written are found
pub digits_at_are : (bits : Bits) (i count : ℕ) (vs left : List ℕ) → Below (limit bits) vs → i + count ≤ length vs
    → digits_at bits (packed bits vs ++ left) i count ≡ take count (drop i vs)
unfolding digits_at digit_at
digits_at_are bits i zero vs left h l = refl
digits_at_are bits i (suc count) vs left h l =
    let d : get_or (packed bits vs ++ left) (i / suc (more bits)) 0 / limit bits ^ (i % suc (more bits)) % limit bits ≡ get_or vs i 0
    = packed_at bits i vs left h (omega arith) in
    let e : drop i vs ≡ get_or vs i 0 ∷ drop (i + 1) vs = rw add-one (drop-cons vs i 0 (omega arith)) in
    rw (d, e) (ap (◌∷◌ (get_or vs i 0)) (digits_at_are bits (i + 1) count vs left h (omega arith)))
