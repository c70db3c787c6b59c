-- Numbers of w bytes, rows of them, rows of bytes: read back, as written, lengths.
-- Assumes nothing.
use mathlib.Core.Path.{◌≡◌, refl, sym, ap, ◌∙◌}
use Prim.Native.Nat.{ℕ, zero, suc, ◌+◌, ◌*◌, ◌/◌, ◌%◌, ◌^◌, ◌<◌}
use native.Mathlib.Nat.{div-lt_iff_lt-mul, pow-suc, pow-zero, mul-suc, mul-zero}
use mathlib.Core.List.{List, [], ◌∷◌, ◌++◌, append_assoc}
use lib.ListN.{length, length-append}
use lib.Dec.{lit<}
use lib.Arith.{lt-one, digits_lt}
use native.Mathlib.Omega.{arith}
use Rattle.format.specs.Base.{Below, Bytes, ok}
use Rattle.format.specs.Numbers.{number_bytes, read_number, numbers_bytes, read_numbers, read_bytes}
use Rattle.format.proofs.Rules.{Holds, by_map, by_bind, below_after}

-- ---- one number

pub number_read_back : (end w n : ℕ) (left : List ℕ) → n < 256 ^ w → read_number end w (number_bytes w n ++ left) ≡ ok n left
unfolding number_bytes read_number
number_read_back end zero n left h = ap (λ (k : ℕ). ok k left) (sym (lt-one (rw pow-zero at h)))
number_read_back end (suc w) n left h =
    let back : n / 256 * 256 + n % 256 ≡ n = omega arith in
    simp (number_read_back end w (n / 256) left ((div-lt_iff_lt-mul (lit< tt)).1 (rw pow-suc at h)), back)

abbrev pub IsNumber : ℕ → List ℕ → ℕ → List ℕ → Type 0
IsNumber w bs n left = (bs ≡ number_bytes w n ++ left) × (n < 256 ^ w)

pub number_as_written : (end w : ℕ) (bs : List ℕ) → Bytes bs → Holds (IsNumber w bs) (read_number end w bs)
unfolding number_bytes read_number
number_as_written end zero bs y = (refl, rw pow-zero (lit< tt))
number_as_written end (suc w) [] y = tt
number_as_written end (suc w) (b ∷ bs) y =
    by_map (IsNumber w bs) (IsNumber (suc w) (b ∷ bs)) (read_number end w bs) _ (number_as_written end w bs y.1)
    (λ n left h.
    let low : (n * 256 + b) % 256 ≡ b = omega arith in
    let high : (n * 256 + b) / 256 ≡ n = omega arith in
    (simp (low, high, h.0), rw pow-suc (digits_lt h.1 y.0)))

pub number_length : (w n : ℕ) → length (number_bytes w n) ≡ w
unfolding number_bytes
number_length zero n = refl
number_length (suc w) n = ap suc (number_length w (n / 256))

-- ---- several numbers

row_read_back : (end w : ℕ) (ns left : List ℕ) → Below (256 ^ w) ns → read_numbers end w (length ns) (numbers_bytes w ns ++ left) ≡ ok ns left
unfolding numbers_bytes read_numbers
row_read_back end w [] left h = refl
row_read_back end w (n ∷ ns) left h =
    simp (append_assoc, number_read_back end w n (numbers_bytes w ns ++ left) h.0, row_read_back end w ns left h.1)

pub numbers_read_back : (end w count : ℕ) (ns left : List ℕ) → length ns ≡ count → Below (256 ^ w) ns
    → read_numbers end w count (numbers_bytes w ns ++ left) ≡ ok ns left
numbers_read_back end w count ns left e h = rw e at (row_read_back end w ns left h)

abbrev pub AreNumbers : ℕ → ℕ → List ℕ → List ℕ → List ℕ → Type 0
AreNumbers w count bs ns left = (bs ≡ numbers_bytes w ns ++ left) × (length ns ≡ count) × Below (256 ^ w) ns

pub numbers_as_written : (end w count : ℕ) (bs : List ℕ) → Bytes bs → Holds (AreNumbers w count bs) (read_numbers end w count bs)
unfolding numbers_bytes read_numbers
numbers_as_written end w zero bs y = (refl, refl, tt)
numbers_as_written end w (suc count) bs y =
    by_bind (IsNumber w bs) (AreNumbers w (suc count) bs) (read_number end w bs) _ (number_as_written end w bs y) (λ n left h.
    by_map (AreNumbers w count left) (AreNumbers w (suc count) bs) (read_numbers end w count left) _
    (numbers_as_written end w count left (below_after 256 (number_bytes w n) left (rw h.0 at y)))
    (λ ns rest g. (simp (append_assoc, h.0, g.0), ap suc g.1, (h.1, g.2))))

pub numbers_length : (w : ℕ) (ns : List ℕ) → length (numbers_bytes w ns) ≡ w * length ns
unfolding numbers_bytes
numbers_length w [] = sym (mul-zero w)
numbers_length w (n ∷ ns) =
    length-append (number_bytes w n) (numbers_bytes w ns) ∙ omega (arith, number_length w n, numbers_length w ns, mul-suc w (length ns))

-- ---- bytes as they are

pub bytes_read_back : (end : ℕ) (xs left : List ℕ) → read_bytes end (length xs) (xs ++ left) ≡ ok xs left
unfolding read_bytes
bytes_read_back end [] left = refl
bytes_read_back end (x ∷ xs) left = simp (bytes_read_back end xs left)

abbrev pub AreBytes : ℕ → List ℕ → List ℕ → List ℕ → Type 0
AreBytes count bs xs left = (bs ≡ xs ++ left) × (length xs ≡ count)

pub bytes_as_written : (end count : ℕ) (bs : List ℕ) → Holds (AreBytes count bs) (read_bytes end count bs)
unfolding read_bytes
bytes_as_written end zero bs = (refl, refl)
bytes_as_written end (suc count) [] = tt
bytes_as_written end (suc count) (b ∷ bs) =
    by_map (AreBytes count bs) (AreBytes (suc count) (b ∷ bs)) (read_bytes end count bs) _ (bytes_as_written end count bs)
    (λ xs left h. (ap (◌∷◌ b) h.0, ap suc h.1))
