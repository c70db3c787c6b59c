-- The format's readers of numbers and of bytes, by position: what they give where the part fits, and 12 where not.
-- Assumes nothing.
use mathlib.Core.Path.{◌≡◌, refl, ◌∙◌}
use Prim.Native.Nat.{ℕ, zero, suc, ◌+◌, ◌*◌, ◌≤◌, ◌<◌}
use native.Mathlib.Omega.{arith}
use native.Mathlib.Nat.{mul-suc, mul-zero, add-zero}
use mathlib.Core.List.{List, [], ◌∷◌}
use lib.ListN.{length, drop}
use Rattle.format.specs.Base.{ok, refuse}
use Rattle.format.proofs.Rules.{split}
use Rattle.format.specs.Numbers.{read_number, read_numbers, read_bytes}
use Rattle.head_index.proofs.ByIndex.{number_there_at, number_short_at}
use Rattle.read_list.proofs.EntriesAgree.{numbers_of}

module _ (l : List ℕ) where
  pub row_fits : (w g at : ℕ) → at + w * g ≤ length l → read_numbers (length l) w g (drop at l) ≡ ok (numbers_of g w l at) (drop (at + w * g) l)
  unfolding read_numbers numbers_of
  row_fits w zero at h = rw (mul-zero w, add-zero at)
  row_fits w (suc g) at h =
      let s : w * suc g ≡ w * g + w = mul-suc w g in
      let e : at + w + w * g ≡ at + w * suc g = omega arith in
      simp (number_there_at (length l) w at l (omega arith), row_fits w g (at + w) (omega arith), e)

  pub row_short : (w g at : ℕ) → length l < at + w * g → at ≤ length l → read_numbers (length l) w g (drop at l) ≡ refuse 12 (length l)
  unfolding read_numbers
  row_short w zero at h a = absurd (omega (arith, mul-zero w))
  row_short w (suc g) at h a =
      let s : w * suc g ≡ w * g + w = mul-suc w g in
      split (at + w) (length l)
      (λ p. simp (number_there_at (length l) w at l p, row_short w g (at + w) (omega arith) p))
      (λ p. simp (number_short_at (length l) w at l p a))

-- bytes are numbers of one byte
bytes_are : (end k : ℕ) (bs : List ℕ) → read_bytes end k bs ≡ read_numbers end 1 k bs
unfolding read_bytes read_numbers read_number
bytes_are end zero bs = refl
bytes_are end (suc k) [] = refl
bytes_are end (suc k) (b ∷ bs) = let e : 0 * 256 + b ≡ b = omega arith in rw (bytes_are end k bs, e)

module _ (l : List ℕ) (k at : ℕ) where
  alone : 1 * k ≡ k
  alone = omega arith

  pub bytes_fits : at + k ≤ length l → read_bytes (length l) k (drop at l) ≡ ok (numbers_of k 1 l at) (drop (at + k) l)
  bytes_fits h = bytes_are (length l) k (drop at l) ∙ rw alone at (row_fits l 1 k at (rw alone h))

  pub bytes_short : length l < at + k → at ≤ length l → read_bytes (length l) k (drop at l) ≡ refuse 12 (length l)
  bytes_short h g = bytes_are (length l) k (drop at l) ∙ row_short l 1 k at (rw alone h) g
