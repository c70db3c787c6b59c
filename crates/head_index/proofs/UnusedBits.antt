-- Packed arrays by index: where the bytes are there, the unused bits of the last byte decide whether an array is read or refused.
-- Assumes nothing.
use mathlib.Core.Path.{◌≡◌, refl, sym, ap, ◌∙◌}
use Prim.Native.Nat.{ℕ, zero, suc, ◌+◌, ◌-◌, ◌*◌, ◌/◌, ◌%◌, ◌^◌, ◌≤◌, ◌<◌, zero-le}
use native.Mathlib.Nat.{pow-zero, pow-succ', div-one, div-div-eq-div-mul, mul-suc, mul-zero, div-eq_of_lt, mod-eq_of_lt, add-div_left, add-div_right}
use native.Mathlib.Nat.{add-mod_left, mod-one, zero-mod, zero-lt-suc, le_refl}
use native.Mathlib.Numerals.{add-one}
use mathlib.Core.Bool.{Bool, true, false}
use mathlib.Core.List.{List, [], ◌∷◌}
use lib.ListN.{length, drop, get_or, take, length-drop}
use lib.Seq.{drop_at, drop-drop, get_or-drop, take-length}
use lib.Dec.{eqb}
use native.Mathlib.Omega.{arith}
use native.Mathlib.Decide.{ℕ_discrete}
use borrow.Author.Tests.{ne_eqb}
use Rattle.format.specs.Base.{pick, Bytes, Out, ok, refuse, map_out, refused, refusal}
use Rattle.format.specs.Packed.{Bits, one, two, four, eight, limit, more, packed, packed_size, read_packed_after, read_packed}
use Rattle.format.proofs.Rules.{Holds, by_test, split, below_drop}
use Rattle.format.proofs.PackedLaws.{ArePacked, packed_as_written, packed_length, limit_fills}
use Rattle.head_index.specs.NumbersAt.{digits_at, unused_bits}
use Rattle.head_index.proofs.ByIndex.{byte_below, digits_at_are}
use Rattle.format.proofs.Refuses.{Refuses, Exactly}
use Rattle.head_index.proofs.SevenLaws.{only_packed, has_room}

-- ---- refused or not

abbrev is_refused : {A : Type 0} → Out A → Bool
is_refused (ok a left) = false
is_refused (refused why) = true

-- a use of the result refuses nothing
refused_map : {A B : Type 0} (f : A → B) (m : Out A) → is_refused (map_out f m) ≡ is_refused m
refused_map f (ok a left) = refl
refused_map f (refused why) = refl

-- what the reader has left of the last byte after n numbers, of which `room` may still stand in `rest`
unfoldable unused_after : ℕ → ℕ → ℕ → ℕ → ℕ → List ℕ → ℕ
unused_after b m room rest zero bs = rest
unused_after b m zero rest (suc n) [] = 0
unused_after b m zero rest (suc n) (x ∷ bs) = unused_after b m m (x / b) n bs
unused_after b m (suc room) rest (suc n) bs = unused_after b m room (rest / b) n bs

-- with the bytes there, refused exactly where some of it is set
after_refused : (end b m room rest n : ℕ) (bs : List ℕ) → n ≤ room + suc m * length bs
    → is_refused (read_packed_after end b m room rest n bs) ≡ pick (eqb (unused_after b m room rest n bs) 0) false true
unfolding read_packed_after unused_after
after_refused end b m room rest zero bs h =
    by_test (λ (o : Out (List ℕ)). is_refused o ≡ pick (eqb rest 0) false true) (eqb rest 0) (λ t. simp t) (λ t. simp t)
after_refused end b m zero rest (suc n) [] h = absurd (omega (arith, mul-zero (suc m)))
after_refused end b m zero rest (suc n) (x ∷ bs) h =
    refused_map _ (read_packed_after end b m m (x / b) n bs) ∙ after_refused end b m m (x / b) n bs (omega (arith, mul-suc (suc m) (length bs)))
after_refused end b m (suc room) rest (suc n) bs h =
    refused_map _ (read_packed_after end b m room (rest / b) n bs) ∙ after_refused end b m room (rest / b) n bs (omega arith)

-- ---- where

abbrev RefusedAt : {A : Type 0} → ℕ → Out A → Type 0
RefusedAt here (ok a left) = Unit {0}
RefusedAt here (refused why) = why ≡ refusal why.number here

-- a use of the result moves no place
at_map : {A B : Type 0} (here there : ℕ) (f : A → B) (m : Out A) → here ≡ there → RefusedAt here m → RefusedAt there (map_out f m)
at_map here there f (ok a left) e h = tt
at_map here there f (refused why) e h = h ∙ ap (refusal why.number) e

-- a number more than fill their bytes takes one byte more
byte_more : (m n : ℕ) → (suc n + (m - 0)) / suc m ≡ (n + (m - m)) / suc m + 1
byte_more m n =
    let plus : suc n + (m - 0) ≡ n + suc m = omega arith in
    let none : n + (m - m) ≡ n = omega arith in
    rw (plus, none) (add-div_right n (zero-lt-suc m))

-- at the last byte of the array
after_place : (end b m room rest n : ℕ) (bs : List ℕ) → room ≤ m → n ≤ room + suc m * length bs
    → RefusedAt (end - suc (length bs - (n + (m - room)) / suc m)) (read_packed_after end b m room rest n bs)
unfolding read_packed_after
after_place end b m room rest zero bs l h =
    let e : (0 + (m - room)) / suc m ≡ 0 = div-eq_of_lt (omega arith) in
    rw e (by_test (RefusedAt (end - suc (length bs - 0))) (eqb rest 0) (λ t. tt) (λ t. ap (refusal 18) (omega arith)))
after_place end b m zero rest (suc n) [] l h = absurd (omega (arith, mul-zero (suc m)))
after_place end b m zero rest (suc n) (x ∷ bs) l h =
    at_map _ _ _ (read_packed_after end b m m (x / b) n bs) (rw (byte_more m n) (omega arith))
    (after_place end b m m (x / b) n bs (le_refl m) (omega (arith, mul-suc (suc m) (length bs))))
after_place end b m (suc room) rest (suc n) bs l h =
    let e : suc n + (m - suc room) ≡ n + (m - room) = omega arith in
    at_map _ _ _ (read_packed_after end b m room (rest / b) n bs) (rw e refl) (after_place end b m room (rest / b) n bs (omega arith) (omega arith))

-- ---- what the reader has left, by index

-- within one byte
unused_low : (b m room rest n : ℕ) (bs : List ℕ) → n ≤ room → unused_after b m room rest n bs ≡ rest / b ^ n
unfolding unused_after
unused_low b m room rest zero bs h = sym (ap (λ (z : ℕ). rest / z) (pow-zero b) ∙ div-one rest)
unused_low b m zero rest (suc n) bs h = absurd (omega arith)
unused_low b m (suc room) rest (suc n) bs h =
    unused_low b m room (rest / b) n bs (omega arith) ∙ div-div-eq-div-mul rest b (b ^ n) ∙ ap (λ (z : ℕ). rest / z) (sym (pow-succ' b n))

-- past what is left of a byte
unused_past : (b m room rest n : ℕ) (bs : List ℕ) → zero < n → unused_after b m room rest (room + n) bs ≡ unused_after b m 0 0 n bs
unfolding unused_after
unused_past b m zero rest zero bs h = absurd (omega arith)
unused_past b m zero rest (suc n) [] h = let e : 0 + suc n ≡ suc n = omega arith in rw e refl
unused_past b m zero rest (suc n) (x ∷ bs) h = let e : 0 + suc n ≡ suc n = omega arith in rw e refl
unused_past b m (suc room) rest n bs h = let e : suc room + n ≡ suc (room + n) = omega arith in rw e (unused_past b m room (rest / b) n bs h)

-- in the byte of the last number
unused_at : (b m i : ℕ) (bs : List ℕ) → i < suc m * length bs → unused_after b m 0 0 (suc i) bs ≡ get_or bs (i / suc m) 0 / b ^ suc (i % suc m)
unfolding unused_after
unused_at b m i [] h = absurd (omega (arith, mul-zero (suc m)))
unused_at b m i (x ∷ bs) h =
    split i m
    (λ k.
    let d : i / suc m ≡ 0 = div-eq_of_lt (omega arith) in
    let e : i % suc m ≡ i = mod-eq_of_lt (omega arith) in
    rw (d, e) (unused_low b m m (x / b) i bs k ∙ div-div-eq-div-mul x b (b ^ i) ∙ ap (λ (z : ℕ). x / z) (sym (pow-succ' b i))))
    (λ k.
    let e : i ≡ suc m + (i - suc m) = omega arith in
    rw e (later (i - suc m) (unused_at b m (i - suc m) bs (omega (arith, mul-suc (suc m) (length bs))))))
  where
    later : (j : ℕ) → unused_after b m 0 0 (suc j) bs ≡ get_or bs (j / suc m) 0 / b ^ suc (j % suc m)
        → unused_after b m m (x / b) (suc m + j) bs ≡ get_or (x ∷ bs) ((suc m + j) / suc m) 0 / b ^ suc ((suc m + j) % suc m)
    later j q =
        let g : suc m + j ≡ m + suc j = omega arith in
        rw (add-div_left j (zero-lt-suc m), add-mod_left (suc m) j, add-one, g) (unused_past b m m (x / b) (suc j) bs (omega arith) ∙ q)

-- ---- the unused bits

-- a number that fills its byte
last_digit : (bits : Bits) (i : ℕ) → suc i % suc (more bits) ≡ 0 → i % suc (more bits) ≡ more bits
last_digit one i h = omega arith
last_digit two i h = omega arith
last_digit four i h = omega arith
last_digit eight i h = mod-one i

-- a number that does not: the next would stand in the same byte
same_byte : (bits : Bits) (i : ℕ) → (suc i % suc (more bits) ≡ 0 → ⊥)
    → (i / suc (more bits) ≡ suc i / suc (more bits)) × (suc (i % suc (more bits)) ≡ suc i % suc (more bits))
same_byte one i h = (omega arith, omega arith)
same_byte two i h = (omega arith, omega arith)
same_byte four i h = (omega arith, omega arith)
same_byte eight i h = absurd (h (mod-one (suc i)))

-- an array that fills its bytes has no unused bits
pub none_unused : (bits : Bits) (n : ℕ) (bs : List ℕ) → n % suc (more bits) ≡ 0 → unused_bits bits n bs ≡ 0
unfolding unused_bits
none_unused bits n bs e = rw e

-- any other has some, in the byte that the next number would be in
pub some_unused : (bits : Bits) (n place : ℕ) (bs : List ℕ) → (n % suc (more bits) ≡ 0 → ⊥)
    → unused_bits bits n (drop place bs) ≡ get_or bs (place + n / suc (more bits)) 0 / limit bits ^ (n % suc (more bits))
unfolding unused_bits
some_unused bits n place bs e = simp (ne_eqb (n % suc (more bits)) 0 e, get_or-drop place bs (n / suc (more bits)) 0)

-- that byte is in the array
pub next_inside : (bits : Bits) (n : ℕ) → (n % suc (more bits) ≡ 0 → ⊥) → n / suc (more bits) < packed_size bits n
next_inside one n e = omega arith
next_inside two n e = omega arith
next_inside four n e = omega arith
next_inside eight n e = absurd (e (mod-one n))

-- an array with unused bits has a byte
pub has_byte : (bits : Bits) (n : ℕ) (bs : List ℕ) → (unused_bits bits n bs ≡ 0 → ⊥) → zero < packed_size bits n
has_byte bits n bs z = omega (arith, next_inside bits n (λ e. z (none_unused bits n bs e)))

-- they are what the reader has left
unused_is : (bits : Bits) (n : ℕ) (bs : List ℕ) → Bytes bs → packed_size bits n ≤ length bs
    → unused_after (limit bits) (more bits) 0 0 n bs ≡ unused_bits bits n bs
unfolding unused_after unused_bits
unused_is bits zero bs y h = rw (zero-mod (suc (more bits)))
unused_is bits (suc i) bs y h =
    unused_at (limit bits) (more bits) i bs (omega (arith, has_room bits (suc i) bs h))
    ∙ elim (ℕ_discrete (suc i % suc (more bits)) 0) [
      | yes e ↦ rw (e, last_digit bits i e, limit_fills bits) (div-eq_of_lt (byte_below bs (i / suc (more bits)) y))
      | no e ↦ let s = same_byte bits i e in simp (ne_eqb (suc i % suc (more bits)) 0 e, s.0, s.1)
    ]

-- ---- an array whose bytes are there

-- a refusal by its number and place; it names no variant
fails : {A : Type 0} (number place : ℕ) (m : Out A) → is_refused m ≡ true → Refuses (Exactly number) m → RefusedAt place m → m ≡ refuse number place
fails number place (ok a left) e o p = absurd (let z : ◌≡◌ {A = ℕ} 0 1 = cc in omega arith)
fails number place (refused why) e o p = ap refused (p ∙ ap (λ (n : ℕ). refusal n place) o)

-- what is not refused is read
works : {A : Type 0} (P : A → List ℕ → Type 0) (m : Out A) → is_refused m ≡ false → Holds P m → (a : A) × (left : List ℕ) × (m ≡ ok a left) × P a left
works P (ok a left) e h = (a, left, refl, h)
works P (refused why) e h = absurd (let z : ◌≡◌ {A = ℕ} 0 1 = cc in omega arith)

-- with unused bits set it is refused at its last byte
packed_amiss : (end : ℕ) (bits : Bits) (n : ℕ) (bs : List ℕ) → Bytes bs → packed_size bits n ≤ length bs → eqb (unused_bits bits n bs) 0 ≡ false
    → read_packed end bits n bs ≡ refuse 18 (end - suc (length bs - packed_size bits n))
packed_amiss end bits n bs y h t =
    let g : n ≤ 0 + suc (more bits) * length bs = has_room bits n bs h in
    let e : more bits - 0 ≡ more bits = omega arith in
    fails 18 (end - suc (length bs - packed_size bits n)) (read_packed end bits n bs)
    (after_refused end (limit bits) (more bits) 0 0 n bs g ∙ simp (unused_is bits n bs y h, t)) (only_packed end bits n bs h)
    (rw e at (after_place end (limit bits) (more bits) 0 0 n bs zero-le g))

-- with none set it is read, and its numbers are those by index
packed_there : (end : ℕ) (bits : Bits) (n : ℕ) (bs : List ℕ) → Bytes bs → packed_size bits n ≤ length bs → eqb (unused_bits bits n bs) 0 ≡ true
    → read_packed end bits n bs ≡ ok (digits_at bits bs 0 n) (drop (packed_size bits n) bs)
packed_there end bits n bs y h t =
    let g : n ≤ 0 + suc (more bits) * length bs = has_room bits n bs h in
    let k = works (ArePacked bits n bs) (read_packed end bits n bs) (after_refused end (limit bits) (more bits) 0 0 n bs g ∙ simp (unused_is bits n bs y h, t))
    (packed_as_written end bits n bs y) in
    let vs : List ℕ = k.0 in
    let c : length vs ≡ n = k.3.count in
    let numbers : vs ≡ digits_at bits bs 0 n
    = sym (ap (λ (z : List ℕ). digits_at bits z 0 n) k.3.written ∙ digits_at_are bits 0 n vs k.1 k.3.small (omega arith)
    ∙ ap (λ (z : ℕ). take z vs) (sym c) ∙ take-length vs) in
    let left : k.1 ≡ drop (packed_size bits n) bs
    = sym (ap (drop (packed_size bits n)) k.3.written ∙ drop_at (packed bits vs) k.1 (packed_size bits n) (packed_length bits n vs c)) in
    k.2 ∙ ap (λ (z : List ℕ). ok z k.1) numbers ∙ ap (ok (digits_at bits bs 0 n)) left

-- ---- an array whose bytes are not all there

after_short : (end b m room rest n : ℕ) (bs : List ℕ) → room ≤ m → length bs < (n + (m - room)) / suc m
    → read_packed_after end b m room rest n bs ≡ refuse 12 end
unfolding read_packed_after
after_short end b m room rest zero bs l h =
    let e : (0 + (m - room)) / suc m ≡ 0 = div-eq_of_lt (omega arith) in
    absurd (omega arith)
after_short end b m zero rest (suc n) [] l h = refl
after_short end b m zero rest (suc n) (x ∷ bs) l h =
    simp (after_short end b m m (x / b) n bs (le_refl m) (omega (arith, byte_more m n)))
after_short end b m (suc room) rest (suc n) bs l h =
    let e : suc n + (m - suc room) ≡ n + (m - room) = omega arith in
    simp (after_short end b m room (rest / b) n bs (omega arith) (rw e at h))

-- ---- an array at a place: read, or refused with 18, or with 12

module _ (bits : Bits) (n place : ℕ) (bs : List ℕ) where
  pub packed_there_at : Bytes bs → place + packed_size bits n ≤ length bs → eqb (unused_bits bits n (drop place bs)) 0 ≡ true
      → read_packed (length bs) bits n (drop place bs) ≡ ok (digits_at bits (drop place bs) 0 n) (drop (place + packed_size bits n) bs)
  packed_there_at y h t =
      packed_there (length bs) bits n (drop place bs) (below_drop 256 place bs y) (rw length-drop (omega arith)) t
      ∙ ap (ok (digits_at bits (drop place bs) 0 n)) (drop-drop (packed_size bits n) place bs)

  pub packed_amiss_at : Bytes bs → place + packed_size bits n ≤ length bs → eqb (unused_bits bits n (drop place bs)) 0 ≡ false
      → read_packed (length bs) bits n (drop place bs) ≡ refuse 18 (place + packed_size bits n - 1)
  packed_amiss_at y h t =
      let e : length bs - suc (length (drop place bs) - packed_size bits n) ≡ place + packed_size bits n - 1 = rw length-drop (omega arith) in
      packed_amiss (length bs) bits n (drop place bs) (below_drop 256 place bs y) (rw length-drop (omega arith)) t ∙ ap (refuse 18) e

  pub packed_short_at : length bs < place + packed_size bits n → place ≤ length bs → read_packed (length bs) bits n (drop place bs) ≡ refuse 12 (length bs)
  packed_short_at h g =
      let e : n + (more bits - 0) ≡ n + more bits = omega arith in
      after_short (length bs) (limit bits) (more bits) 0 0 n (drop place bs) zero-le (rw e (omega (arith, length-drop place bs)))
