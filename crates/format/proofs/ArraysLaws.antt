-- The fixed fields with rules 2 to 5, and the header's arrays: lengths, read back, as written; where the header ends.
-- Assumes nothing.
use mathlib.Core.Path.{◌≡◌, refl, ap, ◌∙◌}
use Prim.Native.Nat.{ℕ, zero, ◌^◌, ◌<◌}
use mathlib.Core.Bool.{Bool, true, false}
use mathlib.Core.List.{List, [], ◌++◌, append_assoc}
use lib.ListN.{length, length-append}
use lib.Dec.{eqb}
use native.Mathlib.Omega.{arith}
use borrow.Author.Tests.{eqb-true, eq-eqb}
use Rattle.format.specs.Base.{Bytes, Out, ok, bind}
use Rattle.format.specs.Limits.{most_samples, most_variants}
use Rattle.format.specs.Numbers.{number_bytes, read_number, numbers_bytes, read_numbers}
use Rattle.format.specs.Packed.{one, read_packed}
use Rattle.format.specs.Layout.{Fixed, fixed_bytes, from_1_to, unblocked, mode_covered, form_allowed, form_of, flag_count, Arrays, sum}
use Rattle.format.specs.Layout.{block_count, block_sizes, blocks_bytes, blocked_bytes, arrays_bytes, blocked_size, arrays_size, FixedObeys}
use Rattle.format.specs.Layout.{ColumnsUnblocked, ColumnsObey, header_end, header_bytes, in_parts}
unfoldable pub use Rattle.format.specs.Layout.{OffsetsFit, AllFit}
use Rattle.format.specs.Header.{read_fixed, need_fixed, read_blocks, read_blocked, unblocked_arrays, read_arrays}
use Rattle.format.proofs.Rules.{Holds, by_test, need_then, by_need, by_bind, by_map, below_after, by_need_of, need_of_then}
use Rattle.format.proofs.NumbersLaws.{IsNumber, number_read_back, number_as_written, number_length, AreNumbers, numbers_read_back, numbers_as_written}
use Rattle.format.proofs.NumbersLaws.{numbers_length}
use Rattle.format.proofs.PackedLaws.{ArePacked, packed_read_back, packed_as_written, packed_length}
use Rattle.format.proofs.ColumnsLaws.{no_element}
use Rattle.format.proofs.BlocksLaws.{sizes_sum, blocks_length, blocks_read_back, AreBlocks, blocks_as_written}

-- ---- the first twelve bytes

-- the fixed fields are twelve bytes
pub fixed_length : (f : Fixed) → length (fixed_bytes f) ≡ 12
unfolding fixed_bytes
fixed_length f = simp (length-append, number_length)

-- fields that fit their bytes are read back
pub fixed_read_back : (end : ℕ) (f : Fixed) (left : List ℕ) → f.magic < 2 ^ 16 → f.mode < 256 → f.variants < 2 ^ 32 → f.samples < 2 ^ 32 → f.form < 256
    → read_fixed end (fixed_bytes f ++ left) ≡ ok f left
unfolding fixed_bytes read_fixed
fixed_read_back end f left a b c d e = simp (append_assoc, number_read_back, a, b, c, d, e)

pub record AreFixed (bs : List ℕ) (f : Fixed) (left : List ℕ) : Type 0 where
  pub written : bs ≡ fixed_bytes f ++ left
  pub form_byte : f.form < 256

-- fields that were read are what was written
pub fixed_as_written : (end : ℕ) (bs : List ℕ) → Bytes bs → Holds (AreFixed bs) (read_fixed end bs)
unfolding fixed_bytes read_fixed
fixed_as_written end bs y =
    by_bind (IsNumber 2 bs) (AreFixed bs) (read_number end 2 bs) _ (number_as_written end 2 bs y) (λ magic left₁ h₁.
    let y₁ : Bytes left₁ = below_after 256 (number_bytes 2 magic) left₁ (rw h₁.0 at y) in
    by_bind (IsNumber 1 left₁) (AreFixed bs) (read_number end 1 left₁) _ (number_as_written end 1 left₁ y₁) (λ mode left₂ h₂.
    let y₂ : Bytes left₂ = below_after 256 (number_bytes 1 mode) left₂ (rw h₂.0 at y₁) in
    by_bind (IsNumber 4 left₂) (AreFixed bs) (read_number end 4 left₂) _ (number_as_written end 4 left₂ y₂) (λ variants left₃ h₃.
    let y₃ : Bytes left₃ = below_after 256 (number_bytes 4 variants) left₃ (rw h₃.0 at y₂) in
    by_bind (IsNumber 4 left₃) (AreFixed bs) (read_number end 4 left₃) _ (number_as_written end 4 left₃ y₃) (λ samples left₄ h₄.
    let y₄ : Bytes left₄ = below_after 256 (number_bytes 4 samples) left₄ (rw h₄.0 at y₃) in
    by_map (IsNumber 1 left₄) (AreFixed bs) (read_number end 1 left₄) _ (number_as_written end 1 left₄ y₄) (λ form left h.
    record { written = simp (append_assoc, h₁.0, h₂.0, h₃.0, h₄.0, h.0); form_byte = h.1 })))))

-- ---- rules 2 to 5

-- what comes after the rules may take them as kept
pub by_fixed : {A : Type 0} (Q : A → List ℕ → Type 0) (f : Fixed) (next : Out A) → f.form < 256 → (FixedObeys f → Holds Q next) → Holds Q (need_fixed f next)
unfolding need_fixed
by_fixed Q f next b h =
    by_need Q (eqb f.magic 0x1b6c) _ _ _ (λ t₁.
    by_need Q (mode_covered f.mode) _ _ _ (λ t₂.
    by_need Q (from_1_to most_variants f.variants) _ _ _ (λ t₃.
    by_need Q (from_1_to most_samples f.samples) _ _ _ (λ t₄.
    by_need_of Q _ (form_allowed f.mode f.form) _ _ _ (λ t₅.
    h (record { magic = eqb-true _ _ t₁; mode = t₂; variants = t₃; samples = t₄; form = t₅; form_byte = b }))))))

-- fields that obey pass
pub fixed_pass : {A : Type 0} (f : Fixed) (next : Out A) → FixedObeys f → need_fixed f next ≡ next
unfolding need_fixed
fixed_pass f next h = simp (eq-eqb _ _ h.magic, h.mode, h.variants, h.samples, h.form)

-- what follows them all may be said within them
pub fixed_then : {A B : Type 0} (f : Fixed) (m : Out A) (next : A → List ℕ → Out B) → bind (need_fixed f m) next ≡ need_fixed f (bind m next)
unfolding need_fixed
fixed_then f m next = simp (need_then, need_of_then)

-- ---- the arrays

pub record AreArrays (K : ℕ) (f : Fixed) (bs : List ℕ) (a : Arrays) (left : List ℕ) : Type 0 where
  pub written : bs ≡ arrays_bytes K f a ++ left
  pub offsets : OffsetsFit K f a.offsets
  pub columns : ColumnsObey f a.columns

-- blocks: offsets and columns that were read fit, and are what was written
blocked_as_written : (K end : ℕ) (f : Fixed) (bs : List ℕ) → zero < K → Bytes bs → unblocked f.mode ≡ false
    → Holds (AreArrays K f bs) (read_blocked K end f bs)
unfolding read_blocked blocked_bytes arrays_bytes
blocked_as_written K end f bs p y t =
    by_bind (AreNumbers 8 (block_count K f) bs) (AreArrays K f bs) (read_numbers end 8 (block_count K f) bs) _
    (numbers_as_written end 8 (block_count K f) bs y) (λ offsets left₁ h₁.
    let y₁ : Bytes left₁ = below_after 256 (numbers_bytes 8 offsets) left₁ (rw h₁.0 at y) in
    by_map (AreBlocks (form_of f) (block_sizes K f) left₁) (AreArrays K f bs) (read_blocks end (form_of f) (block_sizes K f) left₁) _
    (blocks_as_written end (form_of f) (block_sizes K f) left₁ y₁) (λ c left h.
    record {
      written = simp (t, append_assoc, h₁.0, h.written);
      offsets = (h₁.1, h₁.2);
      columns = simp t (rw (sizes_sum K f p t) at h.fits);
    }))

-- arrays that were read fit, and are what was written
pub arrays_as_written : (K end : ℕ) (f : Fixed) (bs : List ℕ) → zero < K → Bytes bs → Holds (AreArrays K f bs) (read_arrays K end f bs)
unfolding read_arrays arrays_bytes unblocked_arrays block_count
arrays_as_written K end f bs p y =
    let n : ℕ = flag_count (form_of f) f.variants in
    by_test (Holds (AreArrays K f bs)) (unblocked f.mode)
    (λ t.
    by_map (ArePacked one n bs) (AreArrays K f bs) (read_packed end one n bs) _ (packed_as_written end one n bs y) (λ flags left h.
    record {
      written = simp t h.written;
      offsets = simp t (refl, tt);
      columns = simp t (record { types_same = refl; lengths_same = refl; flags_count = h.count; flags_small = h.small });
    }))
    (λ t. blocked_as_written K end f bs p y t)

-- blocks: the length of the arrays
blocked_length : (K : ℕ) (f : Fixed) (a : Arrays) → OffsetsFit K f a.offsets → sum (block_sizes K f) ≡ f.variants → AllFit f a.columns
    → length (blocked_bytes K f a) ≡ blocked_size K f
unfolding blocked_bytes blocked_size
blocked_length K f a h q g =
    length-append (numbers_bytes 8 a.offsets) _
    ∙ omega (
      arith,
      numbers_length 8 a.offsets,
      h.0,
      blocks_length (form_of f) (block_sizes K f) a.columns (rw q g),
    )

-- blocks: arrays that fit are read back
blocked_read_back : (K end : ℕ) (f : Fixed) (a : Arrays) (left : List ℕ) → OffsetsFit K f a.offsets → sum (block_sizes K f) ≡ f.variants
    → AllFit f a.columns
    → read_blocked K end f (blocked_bytes K f a ++ left) ≡ ok a left
unfolding read_blocked blocked_bytes
blocked_read_back K end f a left h q g =
    let after : List ℕ = blocks_bytes (form_of f) (block_sizes K f) a.columns ++ left in
    let offsets_back : read_numbers end 8 (block_count K f) (numbers_bytes 8 a.offsets ++ after) ≡ ok a.offsets after
    = numbers_read_back end 8 (block_count K f) a.offsets after h.0 h.1 in
    simp (append_assoc, offsets_back, blocks_read_back end (form_of f) (block_sizes K f) a.columns left (rw q g))

-- arrays put together again from equal parts
pub same_arrays : (a : Arrays) (offsets types lengths : List ℕ) → a.offsets ≡ offsets → a.columns.types ≡ types → a.columns.lengths ≡ lengths
    → ◌≡◌ {A = Arrays} (record { offsets = offsets; columns = record { types = types; lengths = lengths; flags = a.columns.flags } }) a
same_arrays a offsets types lengths e₁ e₂ e₃ = rw (← e₁, ← e₂, ← e₃)

-- the arrays have as many bytes as their size says
pub arrays_length : (K : ℕ) (f : Fixed) (a : Arrays) → zero < K → OffsetsFit K f a.offsets → ColumnsObey f a.columns
    → length (arrays_bytes K f a) ≡ arrays_size K f
unfolding arrays_bytes arrays_size
arrays_length K f a p h c = go (unblocked f.mode) refl
  where
    go : (b : Bool) → unblocked f.mode ≡ b → length (arrays_bytes K f a) ≡ arrays_size K f
    go true e = let g : ColumnsUnblocked f a.columns = simp e at c in simp e (packed_length one _ a.columns.flags g.flags_count)
    go false e = simp e (blocked_length K f a h (sizes_sum K f p e) (simp e at c))

-- arrays that fit are read back
pub arrays_read_back : (K end : ℕ) (f : Fixed) (a : Arrays) (left : List ℕ) → zero < K → OffsetsFit K f a.offsets → ColumnsObey f a.columns
    → read_arrays K end f (arrays_bytes K f a ++ left) ≡ ok a left
unfolding read_arrays arrays_bytes unblocked_arrays block_count
arrays_read_back K end f a left p h c = go (unblocked f.mode) refl
  where
    go : (b : Bool) → unblocked f.mode ≡ b → read_arrays K end f (arrays_bytes K f a ++ left) ≡ ok a left
    go true e =
        let g : ColumnsUnblocked f a.columns = simp e at c in
        let n : length a.offsets ≡ 0 = simp e at h.0 in
        simp (e, packed_read_back end one _ a.columns.flags left g.flags_count g.flags_small)
        (ap (λ (z : Arrays). ok z left) (same_arrays a [] _ _ (no_element a.offsets n) g.types_same g.lengths_same))
    go false e = simp e (blocked_read_back K end f a left h (sizes_sum K f p e) (simp e at c))

-- ---- the header's bytes

-- the header's bytes with what stands after them
pub header_apart : (K : ℕ) (f : Fixed) (a : Arrays) (after : List ℕ) → in_parts K f a after ≡ fixed_bytes f ++ (arrays_bytes K f a ++ after)
unfolding in_parts header_bytes
header_apart K f a after = append_assoc (fixed_bytes f) (arrays_bytes K f a) after

-- they end where the header does
pub header_length : (K : ℕ) (f : Fixed) (a : Arrays) → zero < K → OffsetsFit K f a.offsets → ColumnsObey f a.columns
    → length (header_bytes K f a) ≡ header_end K f
unfolding header_bytes
header_length K f a p h c = length-append (fixed_bytes f) (arrays_bytes K f a) ∙ omega (arith, fixed_length f, arrays_length K f a p h c)
