-- Varints: what is written is read back, and what is read was written.
-- Assumes nothing.
use mathlib.Core.Path.{◌≡◌, refl}
use Prim.Native.Nat.{ℕ, zero, suc, ◌+◌, ◌-◌, ◌*◌, ◌/◌, ◌%◌, ◌^◌, ◌≤◌, ◌<◌, zero-le}
use mathlib.Core.List.{List, [], ◌∷◌, ◌++◌}
use lib.ListN.{length}
use lib.Dec.{ltb, leb, lit≤}
use native.Mathlib.Omega.{arith}
use borrow.Author.Tests.{lt-ltb, le-ltb, le-leb, ltb-true, ltb-false, leb-true}
use Rattle.format.specs.Base.{Bytes, ok, place_of}
use Rattle.format.specs.Varint.{varint_limit, varint_within, varint_bytes, read_varint_within, read_varint}
use Rattle.format.proofs.Rules.{Holds, by_test, by_need, by_map, weaken}

-- ---- read back

within_read_back : (end first more least n : ℕ) (left : List ℕ) → least ≤ n → n < varint_limit more
    → read_varint_within end first more least (varint_within more n ++ left) ≡ ok n left
unfolding read_varint_within varint_within varint_limit
within_read_back end first zero least n left l h = simp (lt-ltb n 16, le-leb least n)
within_read_back end first (suc more) least n left l h =
    by_test (λ (bs : List ℕ). read_varint_within end first (suc more) least (bs ++ left) ≡ ok n left) (ltb n 128)
    (λ t. simp (t, le-leb least n, le-leb 0 n zero-le))
    (λ t.
    let g : 128 ≤ n = ltb-false n 128 t in
    let ih : read_varint_within end first more 1 (varint_within more (n / 128) ++ left) ≡ ok (n / 128) left
    = within_read_back end first more 1 (n / 128) left (omega arith) (omega arith) in
    let back : 128 * (n / 128) + (128 + n % 128 - 128) ≡ n = omega arith in
    simp (le-ltb (128 + n % 128) 128 (omega arith), ih, back))

pub varint_read_back : (end n : ℕ) (left : List ℕ) → n < 2 ^ 32 → read_varint end (varint_bytes n ++ left) ≡ ok n left
unfolding varint_limit
varint_read_back end n left h = within_read_back end (place_of end (varint_bytes n ++ left)) 4 0 n left zero-le h

-- ---- as written

abbrev IsWithin : ℕ → ℕ → List ℕ → ℕ → List ℕ → Type 0
IsWithin more least bs n left = (bs ≡ varint_within more n ++ left) × (least ≤ n) × (n < varint_limit more)

limit_positive : (more : ℕ) → 1 ≤ varint_limit more
unfolding varint_limit
limit_positive zero = lit≤ tt
limit_positive (suc more) = let h : 1 ≤ varint_limit more = limit_positive more in omega arith

within_as_written : (end first more least : ℕ) (bs : List ℕ) → least ≤ 1 → Bytes bs
    → Holds (IsWithin more least bs) (read_varint_within end first more least bs)
unfolding read_varint_within varint_within varint_limit
within_as_written end first zero least [] l y = tt
within_as_written end first (suc more) least [] l y = tt
within_as_written end first zero least (b ∷ bs) l y =
    by_need (IsWithin zero least (b ∷ bs)) (ltb b 16) _ _ _ (λ t.
    by_need (IsWithin zero least (b ∷ bs)) (leb least b) _ _ _ (λ u. (refl, leb-true least b u, ltb-true b 16 t)))
within_as_written end first (suc more) least (b ∷ bs) l y =
    by_test (Holds (IsWithin (suc more) least (b ∷ bs))) (ltb b 128)
    (λ t. by_need (IsWithin (suc more) least (b ∷ bs)) (leb least b) _ _ _ (λ u.
    (simp t, leb-true least b u, omega (arith, ltb-true, limit_positive more))))
    (λ t. by_map (IsWithin more 1 bs) (IsWithin (suc more) least (b ∷ bs)) (read_varint_within end first more 1 bs) _
    (within_as_written end first more 1 bs (lit≤ tt) y.1)
    (λ n left h.
    let g : 128 ≤ b = ltb-false b 128 t in
    let low : 128 + (128 * n + (b - 128)) % 128 ≡ b = omega arith in
    let high : (128 * n + (b - 128)) / 128 ≡ n = omega arith in
    (simp (le-ltb (128 * n + (b - 128)) 128 (omega arith), low, high, h.0), omega arith, omega arith)))

abbrev pub IsVarint : List ℕ → ℕ → List ℕ → Type 0
IsVarint bs n left = (bs ≡ varint_bytes n ++ left) × (n < 2 ^ 32)

pub varint_as_written : (end : ℕ) (bs : List ℕ) → Bytes bs → Holds (IsVarint bs) (read_varint end bs)
unfolding varint_limit
varint_as_written end bs y =
    weaken (IsWithin 4 0 bs) (IsVarint bs) (read_varint end bs) (λ n left h. (h.0, h.2)) (within_as_written end (place_of end bs) 4 0 bs zero-le y)

-- ---- how many bytes

within_length : (more n : ℕ) → (1 ≤ length (varint_within more n)) × (length (varint_within more n) ≤ suc more)
unfolding varint_within
within_length zero n = (lit≤ tt, lit≤ tt)
within_length (suc more) n =
    by_test (λ (bs : List ℕ). (1 ≤ length bs) × (length bs ≤ suc (suc more))) (ltb n 128)
    (λ t. (lit≤ tt, omega arith)) (λ t. (omega arith, omega (arith, (within_length more (n / 128)).1)))

-- at least one byte, at most five
pub varint_length : (n : ℕ) → (1 ≤ length (varint_bytes n)) × (length (varint_bytes n) ≤ 5)
varint_length n = within_length 4 n
