-- A list is read the same under two rules that agree on every sample below N.
-- Assumes nothing.
use mathlib.Core.Path.{◌≡◌, refl, ap}
use Prim.Native.Nat.{ℕ, zero, suc, ◌+◌, ◌-◌, ◌<◌}
use native.Mathlib.Omega.{arith}
use mathlib.Core.Bool.{Bool, true, false, not, ◌||◌}
use mathlib.Core.List.{List, [], ◌∷◌}
use lib.ListN.{length}
use lib.Dec.{leb, eqb}
use borrow.Author.Tests.{le-ltb}
use Rattle.format.specs.Base.{Out, ok, refused, bind, need, place_of}
use Rattle.format.specs.Varint.{read_varint}
use Rattle.format.specs.Numbers.{read_numbers, read_bytes}
use Rattle.format.specs.Packed.{two, read_packed}
use Rattle.format.specs.Difflist.{Entry, Parts, groups, read_entry, read_entries, read_first, read_parts, read_list}
use Rattle.format.specs.Track.{rule, off_category}
use Rattle.format.proofs.Rules.{split}
use Rattle.read_record.specs.Rows.{off_both}

pub bind_same : {A B : Type 0} (m : Out A) (f g : A → List ℕ → Out B) → ((a : A) (left : List ℕ) → f a left ≡ g a left) → bind m f ≡ bind m g
bind_same (ok a left) f g h = h a left
bind_same (refused why) f g h = refl

module _ (n : ℕ) (may may' : ℕ → ℕ → Bool) (agree : (sample value : ℕ) → sample < n → may sample value ≡ may' sample value) where
  entry_same : (parts : Parts) (least q sample value : ℕ) (left : List ℕ) (next next' : Out (List Entry)) → next ≡ next'
      → read_entry (rule n may) parts least q sample value left next ≡ read_entry (rule n may') parts least q sample value left next'
  unfolding read_entry
  entry_same parts least q sample value left next next' e =
      split (suc sample) n (λ h. rw (agree sample value h, e)) (λ h. simp (le-ltb sample n (omega arith)))

  entries_same : (parts : Parts) (room size before : ℕ) (hs zs vs bs : List ℕ)
      → read_entries (rule n may) parts room size before hs zs vs bs ≡ read_entries (rule n may') parts room size before hs zs vs bs
  unfolding read_entries
  entries_same parts room size before [] [] [] bs = refl
  entries_same parts room size before [] (z ∷ zs) [] bs = refl
  entries_same parts room size before (h ∷ hs) zs [] bs = refl
  entries_same parts zero size before [] zs (v ∷ vs) bs = refl
  entries_same parts zero size before (h ∷ hs) [] (v ∷ vs) bs = refl
  entries_same parts zero size before (h ∷ hs) (z ∷ zs) (v ∷ vs) bs =
      ap (need (eqb size (z + 63)) 25 (parts.sizes_end - suc (length zs)))
      (entry_same parts (suc before) _ h v vs _ _ (entries_same parts 63 0 h hs zs vs bs))
  entries_same parts (suc room) size before hs zs (v ∷ vs) bs =
      bind_same (read_varint parts.end bs) _ _ (λ step left.
      entry_same parts (suc before) _ (before + step) v vs _ _ (entries_same parts room (size + (length bs - length left)) (before + step) hs zs vs left))

  first_same : (parts : Parts) (hs zs vs bs : List ℕ) → read_first (rule n may) parts hs zs vs bs ≡ read_first (rule n may') parts hs zs vs bs
  unfolding read_first
  first_same parts [] [] [] bs = refl
  first_same parts [] [] (v ∷ vs) bs = refl
  first_same parts [] (z ∷ zs) vs bs = refl
  first_same parts (h ∷ hs) zs [] bs = refl
  first_same parts (h ∷ hs) zs (v ∷ vs) bs = entry_same parts 0 _ h v vs _ _ (entries_same parts 63 0 h hs zs vs bs)

  pub list_same : (w end : ℕ) (bs : List ℕ) → read_list (rule n may) w end bs ≡ read_list (rule n may') w end bs
  unfolding read_list read_parts
  list_same w end bs =
      bind_same (read_varint end bs) _ _ (λ L left.
      ap (need (leb L n) 16 (place_of end bs))
      (bind_same (read_numbers end w (groups L) left) _ _ (λ hs left₁.
      bind_same (read_bytes end (groups L - 1) left₁) _ _ (λ zs left₂.
      bind_same (read_packed end two L left₂) _ _ (λ vs left₃. first_same _ hs zs vs left₃)))))

-- the samples outside a category: off both of two that are the same
pub off_one : (category sample value : ℕ) → off_both category category sample value ≡ off_category category sample value
off_one category sample value = either (eqb value category)
  where
    either : (b : Bool) → not (b || b) ≡ not b
    either true = refl
    either false = refl
