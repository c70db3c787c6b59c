-- The numbers of one byte, spread over the bytes of a wider number, and a turn of each loop that stores them.
-- Assumes nothing.
use mathlib.Core.Path.{◌≡◌, sym, ◌∙◌}
use Prim.Native.Nat.{ℕ, suc, ◌+◌, ◌*◌, ◌/◌, ◌%◌, ◌^◌, ◌<◌}
use native.Mathlib.Omega.{arith}
use native.Mathlib.Nat.{div-eq_of_lt-le, mod-eq-sub-div-mul}
use mathlib.Core.List.{List}
use lib.ListN.{get_or, length}
use lib.Seq.{get_or-drop}
use mir.Syntax.{w8}
use mir.Val.{Fits}
use Rattle.format.specs.Packed.{Bits, one, two, limit, more}
use Rattle.head_index.specs.NumbersAt.{digit_at}
use Rattle.read_packed.specs.Arrays.{number_in, Spread, put}
use Rattle.read_packed.proofs.StoreLaws.{Storing, four_stored, stores_all, bytes_stored}

-- four bytes made one number
module _ (a b c d : ℕ) (p : a < 256) (q : b < 256) (r : c < 256) where
  abbrev whole : ℕ
  whole = a + 256 * b + 65536 * c + 16777216 * d

  second : whole / 256 % 256 ≡ b
  second = let e : whole / 256 ≡ b + 256 * c + 65536 * d = omega arith in rw e (omega arith)

  third : whole / 65536 % 256 ≡ c
  third = let e : whole / 65536 ≡ c + 256 * d = omega arith in rw e (omega arith)

  pub spread_out : Spread whole a b c d
  spread_out = (omega arith, second, third, omega arith)

-- number m of an array is number j of byte i
module _ (bits : Bits) (l : List ℕ) (v i : ℕ) where
  abbrev per : ℕ
  per = suc (more bits)

  abbrev part : ℕ → ℕ
  part j = get_or l (v + i) 0 / limit bits ^ j % limit bits

  number_is : (j m : ℕ) → m ≡ per * i + j → j < per → number_in bits l v m ≡ part j
  unfolding number_in digit_at
  number_is j m e h =
      let d : m / per ≡ i = div-eq_of_lt-le per (omega arith) (omega arith) in
      let r : m % per ≡ j = mod-eq-sub-div-mul m per ∙ rw d (omega arith) in
      rw (d, r, get_or-drop v l i 0)

  four_numbers : (x j k : ℕ) → k ≡ per * i + j → j + 3 < per → Spread x (part j) (part (j + 1)) (part (j + 2)) (part (j + 3))
      → let f = number_in bits l v in Spread x (f k) (f (k + 1)) (f (k + 2)) (f (k + 3))
  four_numbers x j k e h q = (
    q.0 ∙ sym (number_is j k e (omega arith)),
    q.1 ∙ sym (number_is (j + 1) (k + 1) (omega arith) (omega arith)),
    q.2 ∙ sym (number_is (j + 2) (k + 2) (omega arith) (omega arith)),
    q.3 ∙ sym (number_is (j + 3) (k + 3) (omega arith) (omega arith)),
  )

-- ---- a byte stored

module _ (l : List ℕ) (v full i : ℕ) (old row last : List ℕ) where
  abbrev b : ℕ
  b = get_or l (v + i) 0

  abbrev Quads : ℕ → List ℕ → Type 0
  Quads k new = Storing (number_in two l v) (4 * full) k old new last

  pub quad_step : Quads (4 * i) row → (x : ℕ) (new : List ℕ) → new ≡ put row (4 * i) x → length new ≡ length row
      → Spread x (b % 4) (b / 4 % 4) (b / 16 % 4) (b / 64) → i < full → ((i : ℕ) → Fits w8 (get_or l i 0)) → Quads (4 * (i + 1)) new
  quad_step s x new e g q h known =
      let y : b < 256 = (known (v + i)).fits in
      let n : 4 * (i + 1) ≡ 4 * i + 4 = omega arith in
      let t = four_numbers two l v i x 0 (4 * i) (omega arith) (omega arith) (q.0 ∙ omega arith, q.1, q.2, q.3 ∙ omega arith) in
      rw n (four_stored (number_in two l v) (4 * full) (4 * i) old row last s (omega arith) x new e g t)

  abbrev Octets : ℕ → List ℕ → Type 0
  Octets k new = Storing (number_in one l v) (8 * full) k old new last

  pub octet_step : Octets (8 * i) row → (x z : ℕ) (mid new : List ℕ) → new ≡ put mid (8 * i + 4) z → mid ≡ put row (8 * i) x
      → length mid ≡ length row → length new ≡ length mid
      → Spread x (b % 2) (b / 2 % 2) (b / 4 % 2) (b / 8 % 2) → Spread z (b / 16 % 2) (b / 16 / 2 % 2) (b / 16 / 4 % 2) (b / 16 / 8 % 2)
      → i < full → Octets (8 * (i + 1)) new
  octet_step s x z mid new d e g k q r h =
      let n : 8 * (i + 1) ≡ 8 * i + 4 + 4 = omega arith in
      let t = four_numbers one l v i x 0 (8 * i) (omega arith) (omega arith) (q.0 ∙ omega arith, q.1, q.2, q.3) in
      let u = four_numbers one l v i z 4 (8 * i + 4) (omega arith) (omega arith) (r.0, r.1 ∙ omega arith, r.2 ∙ omega arith, r.3 ∙ omega arith) in
      let half : Octets (8 * i + 4) mid = four_stored (number_in one l v) (8 * full) (8 * i) old row last s (omega arith) x mid e g t in
      rw n (four_stored (number_in one l v) (8 * full) (8 * i + 4) old mid last half (omega arith) z new d k u)

pub ruleset stored_laws = (stores_all, bytes_stored)
