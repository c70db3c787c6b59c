-- Numbers written: how many bytes a varint has, and the turns of the two loops.
-- Assumes nothing.
use mathlib.Core.Path.{◌≡◌, refl, ap, ◌∙◌}
use Prim.Native.Nat.{ℕ, zero, suc, ◌+◌, ◌-◌, ◌*◌, ◌/◌, ◌%◌, ◌^◌, ◌≤◌, ◌<◌}
use native.Mathlib.Omega.{arith}
use native.Mathlib.Numerals.{add-one}
use mathlib.Core.List.{List, [], ◌∷◌}
use lib.ListN.{length, set, length-set}
use lib.Seq.{sets}
use lib.Dec.{ltb}
use borrow.Author.Tests.{lt-ltb, le-ltb}
use Rattle.format.specs.Varint.{varint_limit, varint_within, varint_bytes}
use Rattle.format.specs.Numbers.{number_bytes}
use Rattle.format.proofs.Rules.{by_test}
use Rattle.format.proofs.NumbersLaws.{number_length}
use Rattle.write_bytes.specs.Written.{Wrote}

-- ---- varints

last : (more n : ℕ) → n < 128 → varint_within more n ≡ n ∷ []
unfolding varint_within
last zero n h = refl
last (suc more) n h = simp (lt-ltb n 128 h)

next : (more n : ℕ) → 128 ≤ n → varint_within (suc more) n ≡ (128 + n % 128) ∷ varint_within more (n / 128)
unfolding varint_within
next more n h = simp (le-ltb n 128 h)

pub size_1 : (n : ℕ) → n < 128 → 1 ≡ length (varint_bytes n)
size_1 n h = rw (last 4 n h)

pub size_2 : (n : ℕ) → 128 ≤ n → n < 16384 → 2 ≡ length (varint_bytes n)
size_2 n g h = rw (next 3 n g, last 3 (n / 128) (omega arith))

pub size_3 : (n : ℕ) → 16384 ≤ n → n < 2097152 → 3 ≡ length (varint_bytes n)
size_3 n g h = rw (next 3 n (omega arith), next 2 (n / 128) (omega arith), last 2 (n / 128 / 128) (omega arith))

pub size_4 : (n : ℕ) → 2097152 ≤ n → n < 268435456 → 4 ≡ length (varint_bytes n)
size_4 n g h =
    rw (
      next 3 n (omega arith),
      next 2 (n / 128) (omega arith),
      next 1 (n / 128 / 128) (omega arith),
      last 1 (n / 128 / 128 / 128) (omega arith),
    )

pub size_5 : (n : ℕ) → 268435456 ≤ n → n < 2 ^ 32 → 5 ≡ length (varint_bytes n)
size_5 n g h =
    rw (
      next 3 n (omega arith),
      next 2 (n / 128) (omega arith),
      next 1 (n / 128 / 128) (omega arith),
      next 0 (n / 128 / 128 / 128) (omega arith),
      last 0 (n / 128 / 128 / 128 / 128) (omega arith),
    )

limit_zero : varint_limit 0 ≡ 16
unfolding varint_limit
limit_zero = refl

limit_suc : (more : ℕ) → varint_limit (suc more) ≡ 128 * varint_limit more
unfolding varint_limit
limit_suc more = refl

-- before a byte: `rest` is still to be written, and `more` bytes may follow its first
pub record VarintGoing (number : ℕ) (to₀ : List ℕ) (at : ℕ) (to : List ℕ) (rest place : ℕ) : Type 0 where
  pub more : ℕ
  pub enough : rest < varint_limit more
  pub same : sets to place (varint_within more rest) ≡ sets to₀ at (varint_bytes number)
  pub ends : place + length (varint_within more rest) ≡ at + length (varint_bytes number)
  pub keeps : length to ≡ length to₀
  pub here : place < length to₀

-- a varint has a first byte
some_byte : (more n : ℕ) → 1 ≤ length (varint_within more n)
unfolding varint_within
some_byte zero n = omega arith
some_byte (suc more) n = by_test (λ (bs : List ℕ). 1 ≤ length bs) (ltb n 128) (λ t. omega arith) (λ t. omega arith)

pub varint_start : (number : ℕ) (to : List ℕ) (at : ℕ) → at + length (varint_bytes number) ≤ length to → number < 2 ^ 32 → VarintGoing number to at to number at
unfolding varint_limit
varint_start number to at room h = record { more = 4; enough = h; same = refl; ends = refl; keeps = refl; here = omega (arith, some_byte 4 number) }

module _ {number : ℕ} {to₀ : List ℕ} {at : ℕ} {to : List ℕ} {rest place : ℕ} (i : VarintGoing number to₀ at to rest place) where
  pub varint_end : rest < 128 → Wrote to₀ at (varint_bytes number) (place + 1) (set to place rest)
  varint_end h = record { place = rw (last i.more rest h) at i.ends; same = rw (last i.more rest h) at i.same }

  pub varint_more : at + length (varint_bytes number) ≤ length to₀ → 128 ≤ rest
      → VarintGoing number to₀ at (set to place (rest % 128 + 128)) (rest / 128) (place + 1)
  varint_more room h = go i.more i.enough i.same i.ends
    where
      go : (m : ℕ) → rest < varint_limit m → sets to place (varint_within m rest) ≡ sets to₀ at (varint_bytes number)
          → place + length (varint_within m rest) ≡ at + length (varint_bytes number)
          → VarintGoing number to₀ at (set to place (rest % 128 + 128)) (rest / 128) (place + 1)
      go zero e s d = absurd (omega (arith, limit_zero))
      go (suc m) e s d =
          let b : varint_within (suc m) rest ≡ (rest % 128 + 128) ∷ varint_within m (rest / 128)
          = next m rest h ∙ ap (λ (x : ℕ). x ∷ varint_within m (rest / 128)) (omega arith) in
          record {
            more = m;
            enough = omega (arith, limit_suc m);
            same = rw add-one (rw b at s);
            ends = omega (arith, rw b at d);
            keeps = simp length-set i.keeps;
            here = omega (arith, rw b at d, some_byte m (rest / 128));
          }

-- ---- numbers of so many bytes

-- before a byte: `rest` is still to be written, in the bytes up to `end`
pub record NumberGoing (number width : ℕ) (to₀ : List ℕ) (at end : ℕ) (to : List ℕ) (rest place : ℕ) : Type 0 where
  pub ends : end ≡ at + width
  pub room : end ≤ length to₀
  pub upto : place ≤ end
  pub keeps : length to ≡ length to₀
  pub same : sets to place (number_bytes (end - place) rest) ≡ sets to₀ at (number_bytes width number)

pub number_start : (number width : ℕ) (to : List ℕ) (at : ℕ) → at + width ≤ length to → NumberGoing number width to at (at + width) to number at
number_start number width to at room =
    let e : at + width - at ≡ width = omega arith in
    record { ends = refl; room = room; upto = omega arith; keeps = refl; same = rw e }

module _ {number width : ℕ} {to₀ : List ℕ} {at end : ℕ} {to : List ℕ} {rest place : ℕ} (i : NumberGoing number width to₀ at end to rest place) where
  pub number_more : place < end → NumberGoing number width to₀ at end (set to place (rest % 256)) (rest / 256) (place + 1)
  unfolding number_bytes
  number_more h =
      let e : end - place ≡ suc (end - suc place) = omega arith in
      record { ends = i.ends; room = i.room; upto = omega arith; keeps = simp length-set i.keeps; same = rw add-one (rw e at i.same) }

  pub number_end : end ≤ place → Wrote to₀ at (number_bytes width number) (at + width) to
  unfolding number_bytes
  number_end h =
      let e : end - place ≡ 0 = omega arith in
      record { place = omega (arith, i.ends, i.upto, number_length width number); same = rw e at i.same }

pub ruleset size_laws = (size_1, size_2, size_3, size_4, size_5)

pub ruleset varint_laws = (varint_start, varint_more, varint_end)

pub ruleset number_laws = (number_start, number_more, number_end)
