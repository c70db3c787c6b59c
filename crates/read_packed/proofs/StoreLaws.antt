-- Numbers stored one after another: in a run, one or four a turn, and what holds before a turn of a loop that does so.
-- Assumes nothing.
use mathlib.Core.Path.{◌≡◌, refl, ◌∙◌}
use Prim.Native.Nat.{ℕ, zero, suc, ◌+◌, ◌-◌, ◌*◌, ◌/◌, ◌≤◌, ◌<◌}
use native.Mathlib.Omega.{arith}
use native.Mathlib.Nat.{add-zero, mul-le-mul_left, mul-div-le}
use mathlib.Core.List.{List, [], ◌∷◌, ◌++◌, append_assoc}
use lib.ListN.{length, set, drop, length-append, length-set}
use lib.Seq.{set_at}
use Rattle.format.specs.Packed.{Bits}
use Rattle.head_index.specs.NumbersAt.{digit_at, digits_at}
use Rattle.read_packed.specs.Arrays.{bits_of, number_in, store, Spread, put}
use Rattle.read_packed.specs.declared.Width.{Width}
use Rattle.read_packed.proofs.WidthLaws.{number_inside}

-- a run of stores is a list in front of the rest
stored_after : (bits : Bits) (l : List ℕ) (v m k : ℕ) (done rest : List ℕ) → length done ≡ k → m ≤ length rest
    → store (number_in bits l v) m k (done ++ rest) ≡ done ++ (digits_at bits (drop v l) k m ++ drop m rest)
unfolding digits_at store number_in
stored_after bits l v zero k done [] e h = refl
stored_after bits l v zero k done (x ∷ rest) e h = refl
stored_after bits l v (suc m) k done [] e h = absurd (omega arith)
stored_after bits l v (suc m) k done (x ∷ rest) e h =
    let d : ℕ = digit_at bits (drop v l) k in
    let q : length (done ++ (d ∷ [])) ≡ k + 1 = omega (arith, length-append done (d ∷ [])) in
    rw (set_at done x rest d k e) (simp append_assoc at (stored_after bits l v m (k + 1) (done ++ (d ∷ [])) rest q (omega arith)))

-- a run in two parts
store_both : (f : ℕ → ℕ) (a b k : ℕ) (row : List ℕ) → store f b (k + a) (store f a k row) ≡ store f (a + b) k row
unfolding store
store_both f zero b k row = rw (add-zero k) (let e : 0 + b ≡ b = omega arith in rw e)
store_both f (suc a) b k row =
    let e : k + suc a ≡ k + 1 + a = omega arith in
    let g : suc a + b ≡ suc (a + b) = omega arith in
    rw (e, g) (store_both f a b (k + 1) (set row k (f k)))

-- the full bytes, then the rest
pub both_stored : (width told : Width) → width ≡ told → (l : List ℕ) (at n per : ℕ) (row mid new : List ℕ)
    → mid ≡ store (number_in (bits_of told) l at) (per * (n / per)) 0 row
    → new ≡ store (number_in (bits_of told) l at) (n - per * (n / per)) (per * (n / per)) mid
    → n ≤ length row → new ≡ digits_at (bits_of width) (drop at l) 0 n ++ drop n row
both_stored width told o l at n per row mid new e g h =
    let f = number_in (bits_of told) l at in
    let a : ℕ = per * (n / per) in
    let z : 0 + a ≡ a = omega arith in
    let s : a + (n - a) ≡ n = omega (arith, mul-div-le n per) in
    rw o (g ∙ rw e (rw (z, s) at (store_both f a (n - a) 0 row)) ∙ stored_after (bits_of told) l at n 0 [] row refl h)

-- ---- a loop that stores n numbers: number k is next, and storing the rest makes the row `last`

pub record Storing (f : ℕ → ℕ) (n k : ℕ) (old row last : List ℕ) : Type 0 where
  pub reached : k ≤ n
  pub long : length row ≡ length old
  pub left : store f (n - k) k row ≡ last

pub stores_from : (f : ℕ → ℕ) (n from : ℕ) (row : List ℕ) → from ≤ n → Storing f n from row row (store f (n - from) from row)
stores_from f n from row h = record { reached = h; long = refl; left = refl }

pub stores_all : (f : ℕ → ℕ) (n : ℕ) (row : List ℕ) → Storing f n 0 row row (store f n 0 row)
stores_all f n row = let e : n - 0 ≡ n = omega arith in record { reached = omega arith; long = refl; left = rw e }

module _ (f : ℕ → ℕ) (n k : ℕ) (old row last : List ℕ) (s : Storing f n k old row last) where
  pub one_stored : k < n → (x : ℕ) → x ≡ f k → Storing f n (k + 1) old (set row k x) last
  unfolding store
  one_stored h x e =
      let m : n - k ≡ suc (n - (k + 1)) = omega arith in
      record { reached = omega arith; long = length-set row k x ∙ s.long; left = rw e (rw m at s.left) }

  pub all_stored : n ≤ k → row ≡ last
  unfolding store
  all_stored h = let z : n - k ≡ 0 = omega arith in rw z at s.left

four_turns : (f : ℕ → ℕ) (m k : ℕ) (row : List ℕ) → store f (suc (suc (suc (suc m)))) k row
    ≡ store f m (k + 4) (set (set (set (set row k (f k)) (k + 1) (f (k + 1))) (k + 2) (f (k + 2))) (k + 3) (f (k + 3)))
unfolding store
four_turns f m k row =
    let e₂ : k + 1 + 1 ≡ k + 2 = omega arith in
    let e₃ : k + 2 + 1 ≡ k + 3 = omega arith in
    let e₄ : k + 3 + 1 ≡ k + 4 = omega arith in
    simp (e₂, e₃, e₄)

pub four_stored : (f : ℕ → ℕ) (n k : ℕ) (old row last : List ℕ) → Storing f n k old row last → k + 4 ≤ n
    → (x : ℕ) (new : List ℕ) → new ≡ put row k x → length new ≡ length row → Spread x (f k) (f (k + 1)) (f (k + 2)) (f (k + 3))
    → Storing f n (k + 4) old new last
four_stored f n k old row last s h x new e g q =
    let m : n - k ≡ suc (suc (suc (suc (n - (k + 4))))) = omega arith in
    record {
      reached = omega arith;
      long = g ∙ s.long;
      left = rw (e, q.0, q.1, q.2, q.3, ← four_turns f (n - (k + 4)) k row, ← m) s.left;
    }

-- w numbers a turn
pub bytes_stored : (f : ℕ → ℕ) (w full i : ℕ) (old row last : List ℕ) → Storing f (w * full) (w * i) old row last → full ≤ i → row ≡ last
bytes_stored f w full i old row last s h = all_stored f (w * full) (w * i) old row last s (mul-le-mul_left w h)

pub ruleset rest_laws = (stores_from, one_stored, all_stored, number_inside)
