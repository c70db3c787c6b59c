-- The heterozygous ones of packed categories: as many as the bytes' bits that stand for them, and how a loop counts them.
-- Assumes nothing.
use mathlib.Core.Path.{◌≡◌, refl}
use Prim.Native.Nat.{ℕ, zero, suc, ◌+◌, ◌-◌, ◌*◌, ◌^◌, ◌/◌, ◌%◌, ◌<◌, ◌≤◌}
use native.Mathlib.Omega.{arith}
use native.Mathlib.Nat.{pow-suc}
use native.Mathlib.Numerals.{add-one}
use mathlib.Core.List.{List, [], ◌∷◌}
use lib.ListN.{length, get_or, drop, drop_of_length-le}
use lib.Seq.{drop-cons}
use lib.Dec.{eqb, eqb→eq}
use lib.Bits.{bit_and}
use lib.Count
use mir.Syntax.{w8, w32}
use mir.Val.{Fits}
use Rattle.format.specs.Base.{Below}
use Rattle.format.specs.Limits.{most_samples}
use Rattle.format.specs.Packed.{two, byte_of, packed_after, packed}
use Rattle.format.specs.Phase.{heterozygous_count}
use Rattle.format.proofs.AllBelow.{below_all}
use Rattle.base_calls.specs.CallCount.{call_count}
use Rattle.base_calls.proofs.CallCountLaws.{call_few, count_cons}
use Rattle.read_calls.specs.Bytes.{four_calls, byte_calls}

-- ---- one byte: a test of all, which antt computes

pub bits_rule : (b : ℕ) → Fits w8 b → Count.ones (bit_and (bit_and b (255 - b / 2)) 0x55) ≡ four_calls b
unfolding call_count Count.ones Count.ones_in
bits_rule b h =
    eqb→eq _ _ (below_all 256 (λ x. eqb (Count.ones (bit_and (bit_and x (255 - x / 2)) 0x55)) (four_calls x)) tt b h.fits)

four_most : (b : ℕ) → four_calls b ≤ 4
four_most b = omega (arith, call_few (b % 4), call_few (b / 4 % 4), call_few (b / 16 % 4), call_few (b / 64))

-- ---- categories and the bytes that pack them

-- a category more, below the others
four_above : (x v : ℕ) → v < 4 → x < 64 → four_calls (x * 4 + v) ≡ call_count v + four_calls x
unfolding call_count
four_above x v h g =
    let a : (x * 4 + v) % 4 ≡ v = omega arith in
    let q : (x * 4 + v) / 4 ≡ x = omega arith in
    let c : (x * 4 + v) / 16 ≡ x / 4 = omega arith in
    let d : (x * 4 + v) / 64 ≡ x / 16 = omega arith in
    let m : x / 16 % 4 ≡ x / 16 = omega arith in
    let e : x / 64 ≡ 0 = omega arith in
    rw (a, q, c, d, m, e) (omega arith)

-- four numbers of two bits to a byte
byte_small : (room : ℕ) (vs : List ℕ) → Below 4 vs → byte_of 4 room vs < 4 ^ room
unfolding byte_of
byte_small zero [] h = omega arith
byte_small zero (v ∷ vs) h = omega arith
byte_small (suc room) [] h = rw pow-suc (omega (arith, byte_small room [] tt))
byte_small (suc room) (v ∷ vs) h = rw pow-suc (omega (arith, byte_small room vs h.1, h.0))

room_small : (room : ℕ) → room ≤ 3 → 4 ^ room ≤ 64
room_small zero h = omega arith
room_small (suc zero) h = omega arith
room_small (suc (suc zero)) h = omega arith
room_small (suc (suc (suc zero))) h = omega arith
room_small (suc (suc (suc (suc room)))) h = absurd (omega arith)

-- those in the bytes to come, and those in the byte that has so much room
after_calls : (room : ℕ) (vs : List ℕ) → Below 4 vs → room ≤ 3 → byte_calls (packed_after 4 3 room vs) + four_calls (byte_of 4 room vs) ≡ heterozygous_count vs
unfolding byte_calls packed_after byte_of heterozygous_count call_count
after_calls room [] h k = refl
after_calls zero (v ∷ vs) h k =
    let small : byte_of 4 3 vs < 64 = omega (arith, byte_small 3 vs h.1, room_small 3 (omega arith)) in
    rw (four_above (byte_of 4 3 vs) v h.0 small) (omega (arith, after_calls 3 vs h.1 (omega arith), count_cons v vs))
after_calls (suc room) (v ∷ vs) h k =
    let small : byte_of 4 room vs < 64 = omega (arith, byte_small room vs h.1, room_small room (omega arith)) in
    rw (four_above (byte_of 4 room vs) v h.0 small) (omega (arith, after_calls room vs h.1 (omega arith), count_cons v vs))

-- as many are heterozygous as in their bytes
pub packed_calls : (vs : List ℕ) → Below 4 vs → byte_calls (packed two vs) ≡ heterozygous_count vs
unfolding byte_of call_count
packed_calls vs h = let e : four_calls (byte_of 4 0 vs) ≡ 0 = no_room vs in omega (arith, after_calls 0 vs h (omega arith))
  where
    no_room : (vs : List ℕ) → four_calls (byte_of 4 0 vs) ≡ 0
    no_room [] = refl
    no_room (v ∷ vs) = refl

-- ---- the loop that counts them

-- before turn i: what was counted, and what is to come
pub record CountingCalls (part : List ℕ) (count i : ℕ) : Type 0 where
  pub reached : i ≤ length part
  pub short : length part ≤ most_samples
  pub few : count ≤ 4 * i
  pub whole : count + byte_calls (drop i part) ≡ byte_calls part

pub no_calls_counted : (part : List ℕ) → length part ≤ most_samples → CountingCalls part 0 0
no_calls_counted part h = record { reached = omega arith; short = h; few = omega arith; whole = omega arith }

module _ (part : List ℕ) (count i : ℕ) (w : CountingCalls part count i) where
  module _ (h : i < length part) (x : ℕ) (is : Count.ones x ≡ four_calls (get_or part i 0)) where
    pub calls_room : Fits w32 (count + Count.ones x)
    calls_room = record { fits = omega (arith, is, four_most (get_or part i 0)) }

    pub calls_turn : CountingCalls part (count + Count.ones x) (i + 1)
    unfolding byte_calls
    calls_turn =
        let m : byte_calls (drop i part) ≡ four_calls (get_or part i 0) + byte_calls (drop (i + 1) part) = rw (drop-cons part i 0 h, add-one) in
        record { reached = omega arith; short = w.short; few = omega (arith, is, four_most (get_or part i 0)); whole = omega (arith, is, w.whole) }

  pub calls_counted : length part ≤ i → count ≡ byte_calls part
  unfolding byte_calls
  calls_counted h = let z : byte_calls (drop i part) ≡ 0 = rw (drop_of_length-le part h) in omega (arith, w.whole)

pub ruleset calls_laws = (no_calls_counted, calls_room, calls_turn, calls_counted)
