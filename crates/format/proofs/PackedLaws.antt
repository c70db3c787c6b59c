-- Packed arrays, for every number of bits at once: read back, as written, lengths, one number by its index.
-- Assumes nothing.
use mathlib.Core.Path.{◌≡◌, refl, sym, ap, ◌∙◌}
use Prim.Native.Nat.{ℕ, zero, suc, ◌+◌, ◌-◌, ◌/◌, ◌%◌, ◌^◌, ◌≤◌, ◌<◌, zero-le, suc-le-suc}
use native.Mathlib.Nat.{mod-lt, div-add-mod', div-lt_iff_lt-mul, pow-suc, pow-zero, pow-succ', div-one, div-div-eq-div-mul, mod-eq_of_lt}
use native.Mathlib.Nat.{div-eq_of_lt, add-div_left, add-div_right, add-mod_left, zero-lt-suc, zero-add, suc-add, lt-div-mul-add}
use native.Mathlib.Numerals.{add-one}
use mathlib.Core.List.{List, [], ◌∷◌, ◌++◌}
use lib.ListN.{length, get_or, get_or-append}
use lib.Dec.{eqb, lit<}
use lib.Arith.{digits_div, digits_mod, lt-one}
use native.Mathlib.Omega.{arith}
use borrow.Author.Tests.{eqb-true}
use Rattle.format.specs.Base.{Below, Bytes, ok}
use Rattle.format.specs.Packed.{Bits, one, two, four, eight, limit, more, byte_of, packed_after, packed, packed_size, read_packed_after, read_packed}
use Rattle.format.proofs.Rules.{Holds, by_need, by_map, split}

-- a byte is filled by its numbers
pub limit_fills : (bits : Bits) → limit bits ^ suc (more bits) ≡ 256
limit_fills one = refl
limit_fills two = refl
limit_fills four = refl
limit_fills eight = refl

pub limit_positive : (bits : Bits) → zero < limit bits
limit_positive one = lit< tt
limit_positive two = lit< tt
limit_positive four = lit< tt
limit_positive eight = lit< tt

-- ---- read back

after_read_back : (end b m room : ℕ) (vs left : List ℕ) → Below b vs
    → read_packed_after end b m room (byte_of b room vs) (length vs) (packed_after b m room vs ++ left) ≡ ok vs left
unfolding read_packed_after byte_of packed_after
after_read_back end b m room [] left h = refl
after_read_back end b m zero (v ∷ vs) left h =
    simp (digits_mod (byte_of b m vs) h.0, digits_div (byte_of b m vs) h.0, after_read_back end b m m vs left h.1)
after_read_back end b m (suc room) (v ∷ vs) left h =
    simp (digits_mod (byte_of b room vs) h.0, digits_div (byte_of b room vs) h.0, after_read_back end b m room vs left h.1)

no_room : (b : ℕ) (vs : List ℕ) → byte_of b zero vs ≡ 0
unfolding byte_of
no_room b [] = refl
no_room b (v ∷ vs) = refl

pub packed_read_back : (end : ℕ) (bits : Bits) (n : ℕ) (vs left : List ℕ) → length vs ≡ n → Below (limit bits) vs
    → read_packed end bits n (packed bits vs ++ left) ≡ ok vs left
packed_read_back end bits n vs left e h = rw (no_room, e) at (after_read_back end (limit bits) (more bits) 0 vs left h)

-- ---- as written

pub record ArePackedAfter (b m room rest n : ℕ) (bs vs left : List ℕ) : Type 0 where
  pub first : rest ≡ byte_of b room vs
  pub written : bs ≡ packed_after b m room vs ++ left
  pub count : length vs ≡ n
  pub small : Below b vs

number_lt : {x b : ℕ} (room : ℕ) → zero < b → x < b ^ suc room → x / b < b ^ room
number_lt room p l = (div-lt_iff_lt-mul p).1 (rw pow-suc at l)

after_as_written : (end b m room rest n : ℕ) (bs : List ℕ) → zero < b → b ^ suc m ≡ 256 → rest < b ^ room → Bytes bs
    → Holds (ArePackedAfter b m room rest n bs) (read_packed_after end b m room rest n bs)
unfolding read_packed_after byte_of packed_after
after_as_written end b m room rest zero bs p w l y =
    by_need (ArePackedAfter b m room rest zero bs) (eqb rest 0) _ _ _ (λ t. record { first = eqb-true rest 0 t; written = refl; count = refl; small = tt })
after_as_written end b m zero rest (suc n) [] p w l y = tt
after_as_written end b m zero rest (suc n) (x ∷ bs) p w l y =
    by_map (ArePackedAfter b m m (x / b) n bs) (ArePackedAfter b m zero rest (suc n) (x ∷ bs)) (read_packed_after end b m m (x / b) n bs) _
    (after_as_written end b m m (x / b) n bs p w (number_lt m p (rw w y.0)) y.1)
    (λ vs left h. record { first = lt-one (rw pow-zero at l); written = cc (div-add-mod' x b); count = ap suc h.count; small = (mod-lt x p, h.small) })
after_as_written end b m (suc room) rest (suc n) bs p w l y =
    by_map (ArePackedAfter b m room (rest / b) n bs) (ArePackedAfter b m (suc room) rest (suc n) bs) (read_packed_after end b m room (rest / b) n bs) _
    (after_as_written end b m room (rest / b) n bs p w (number_lt room p l) y)
    (λ vs left h. record { first = cc (div-add-mod' rest b); written = h.written; count = ap suc h.count; small = (mod-lt rest p, h.small) })

abbrev pub ArePacked : Bits → ℕ → List ℕ → List ℕ → List ℕ → Type 0
ArePacked bits n bs vs left = ArePackedAfter (limit bits) (more bits) 0 0 n bs vs left

pub packed_as_written : (end : ℕ) (bits : Bits) (n : ℕ) (bs : List ℕ) → Bytes bs → Holds (ArePacked bits n bs) (read_packed end bits n bs)
packed_as_written end bits n bs y =
    after_as_written end (limit bits) (more bits) 0 0 n bs (limit_positive bits) (limit_fills bits) (rw pow-zero (lit< tt)) y

-- ---- lengths

after_length : (b m room : ℕ) (vs : List ℕ) → room ≤ m → length (packed_after b m room vs) ≡ (length vs + (m - room)) / suc m
unfolding packed_after
after_length b m room [] h = sym (div-eq_of_lt (omega arith))
after_length b m zero (v ∷ vs) h =
    let e : suc (length vs) + (m - 0) ≡ length vs + suc m = omega arith in
    let d : length vs + (m - m) ≡ length vs = omega arith in
    rw (e, add-div_right (length vs) (zero-lt-suc m), after_length b m m vs (omega arith), d) (omega arith)
after_length b m (suc room) (v ∷ vs) h =
    let e : suc (length vs) + (m - suc room) ≡ length vs + (m - room) = omega arith in
    rw e (after_length b m room vs (omega arith))

pub packed_length : (bits : Bits) (n : ℕ) (vs : List ℕ) → length vs ≡ n → length (packed bits vs) ≡ packed_size bits n
packed_length bits n vs e =
    after_length (limit bits) (more bits) 0 vs zero-le
    ∙ (let f : length vs + (more bits - 0) ≡ n + more bits = omega arith in ap (λ (k : ℕ). k / suc (more bits)) f)

-- ---- one number by its index

byte_of_at : (b room i : ℕ) (vs : List ℕ) → Below b vs → i < room → i < length vs → byte_of b room vs / b ^ i % b ≡ get_or vs i 0
unfolding byte_of
byte_of_at b room i [] h l k = absurd (omega arith)
byte_of_at b zero i (v ∷ vs) h l k = absurd (omega arith)
byte_of_at b (suc room) zero (v ∷ vs) h l k = simp (pow-zero, div-one, digits_mod (byte_of b room vs) h.0)
byte_of_at b (suc room) (suc i) (v ∷ vs) h l k =
    simp (pow-succ', ← div-div-eq-div-mul, digits_div (byte_of b room vs) h.0) (byte_of_at b room i vs h.1 (omega arith) (omega arith))

after_at : (b m room i : ℕ) (vs : List ℕ) → Below b vs → room + i < length vs
    → get_or (packed_after b m room vs) (i / suc m) 0 / b ^ (i % suc m) % b ≡ get_or vs (room + i) 0
unfolding packed_after byte_of
after_at b m room i [] h l = absurd (omega arith)
after_at b m (suc room) i (v ∷ vs) h l = rw suc-add (after_at b m room i vs h.1 (omega (arith, suc-add room i)))
after_at b m zero i (v ∷ vs) h l =
    split i m
    (λ k. rw (div-eq_of_lt (suc-le-suc k), mod-eq_of_lt (suc-le-suc k), zero-add i) (byte_of_at b (suc m) i (v ∷ vs) h (omega arith) (omega arith)))
    (λ k.
    let e : i ≡ suc m + (i - suc m) = omega arith in
    rw e (later (i - suc m) (after_at b m m (i - suc m) vs h.1 (omega arith))))
  where
    later : (j : ℕ) → get_or (packed_after b m m vs) (j / suc m) 0 / b ^ (j % suc m) % b ≡ get_or vs (m + j) 0
        → get_or (packed_after b m zero (v ∷ vs)) ((suc m + j) / suc m) 0 / b ^ ((suc m + j) % suc m) % b ≡ get_or (v ∷ vs) (0 + (suc m + j)) 0
    later j q = rw (add-div_left j (zero-lt-suc m), add-mod_left (suc m) j, zero-add (suc m + j), suc-add m j, add-one) q

-- number i of n stands in one of their bytes
pub byte_there : (bits : Bits) (i n : ℕ) → i < n → i / suc (more bits) < packed_size bits n
byte_there bits i n l =
    (div-lt_iff_lt-mul (zero-lt-suc (more bits))).1 (omega (arith, lt-div-mul-add {a = n + more bits} (zero-lt-suc (more bits))))

pub packed_at : (bits : Bits) (i : ℕ) (vs left : List ℕ) → Below (limit bits) vs → i < length vs
    → get_or (packed bits vs ++ left) (i / suc (more bits)) 0 / limit bits ^ (i % suc (more bits)) % limit bits ≡ get_or vs i 0
packed_at bits i vs left h l =
    let e : get_or (packed bits vs ++ left) (i / suc (more bits)) 0 ≡ get_or (packed bits vs) (i / suc (more bits)) 0
    = get_or-append (packed bits vs) left 0 (i / suc (more bits)) (rw (packed_length bits (length vs) vs refl) (byte_there bits i (length vs) l)) in
    rw e (rw zero-add at (after_at (limit bits) (more bits) 0 i vs h (rw zero-add l)))
