-- Where the smallest parts of a record are refused, and what it is for a place to lie in a part of a file.
-- Assumes nothing.
use mathlib.Core.Path.{◌≡◌, refl, ap, ◌∙◌}
use Prim.Native.Nat.{ℕ, zero, suc, ◌-◌, ◌/◌, ◌≤◌, ◌<◌}
use native.Mathlib.Nat.{zero-div}
use mathlib.Core.List.{List, [], ◌∷◌}
use lib.ListN.{length}
use lib.Dec.{eqb}
use native.Mathlib.Omega.{arith}
use borrow.Author.Tests.{eq-eqb}
use Rattle.format.specs.declared.Refusal.{Refusal}
use Rattle.format.specs.Base.{refusal}
use Rattle.format.specs.Numbers.{read_number, read_numbers, read_bytes}
use Rattle.format.specs.Packed.{Bits, limit, more, read_packed_after, read_packed}
use Rattle.format.proofs.Rules.{never_both}
use Rattle.format.proofs.Refuses.{RefusalIs, is_need, is_map, is_then, RecordNumber}

-- ---- the smallest parts: 12 at the end, 18 at a byte of theirs

module _ (P : Refusal → Type 0) (end : ℕ) (twelve : P (refusal 12 end)) where
  pub number_places : (w : ℕ) (bs : List ℕ) → RefusalIs P (read_number end w bs)
  unfolding read_number
  number_places zero bs = tt
  number_places (suc w) [] = twelve
  number_places (suc w) (b ∷ bs) = is_map P _ (read_number end w bs) (number_places w bs)

  pub numbers_places : (w count : ℕ) (bs : List ℕ) → RefusalIs P (read_numbers end w count bs)
  unfolding read_numbers
  numbers_places w zero bs = tt
  numbers_places w (suc count) bs =
      is_then P (read_number end w bs) _ (number_places w bs) (λ n left. is_map P _ (read_numbers end w count left) (numbers_places w count left))

  pub bytes_places : (count : ℕ) (bs : List ℕ) → RefusalIs P (read_bytes end count bs)
  unfolding read_bytes
  bytes_places zero bs = tt
  bytes_places (suc count) [] = twelve
  bytes_places (suc count) (b ∷ bs) = is_map P _ (read_bytes end count bs) (bytes_places count bs)

  -- from the middle of a byte: what is left of it stands before bs
  after_places : (b m room rest n : ℕ) (bs : List ℕ) → ((rest ≡ 0 → ⊥) → P (refusal 18 (end - suc (length bs))))
      → ((k : ℕ) → k < length bs → P (refusal 18 (end - suc k))) → RefusalIs P (read_packed_after end b m room rest n bs)
  unfolding read_packed_after
  after_places b m room rest zero bs h k =
      is_need P (eqb rest 0) 18 (end - suc (length bs)) _ (λ t. h (λ z. never_both (eq-eqb rest 0 z) t)) (λ t. tt)
  after_places b m zero rest (suc n) [] h k = twelve
  after_places b m zero rest (suc n) (x ∷ bs) h k =
      is_map P _ (read_packed_after end b m m (x / b) n bs)
      (after_places b m m (x / b) n bs (λ z. k (length bs) (omega arith)) (λ j l. k j (omega arith)))
  after_places b m (suc room) rest (suc n) bs h k =
      is_map P _ (read_packed_after end b m room (rest / b) n bs)
      (after_places b m room (rest / b) n bs (λ z. h (λ e. z (ap (λ (x : ℕ). x / b) e ∙ zero-div b))) k)

  pub packed_places : (bits : Bits) (n : ℕ) (bs : List ℕ) → ((k : ℕ) → k < length bs → P (refusal 18 (end - suc k)))
      → RefusalIs P (read_packed end bits n bs)
  packed_places bits n bs k = after_places (limit bits) (more bits) 0 0 n bs (λ z. absurd (z refl)) k

-- ---- places within a part of a file

-- 01, Replies: 12 is at the "record's end"; every other place is a byte of the part
pub record Within (start end : ℕ) (why : Refusal) : Type 0 where
  pub from_start : start ≤ why.place
  pub at_end : why.number ≡ 12 → why.place ≡ end
  pub before_end : (why.number ≡ 12 → ⊥) → why.place < end

-- a record's refusal has its place there
abbrev pub RefusedWithin : ℕ → ℕ → Refusal → Type 0
RefusedWithin start end why = RecordNumber why.number → Within start end why
