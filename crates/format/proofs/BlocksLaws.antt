-- The cut of a file's variants into blocks, and the arrays of the blocks: their lengths, read back, as written.
-- Assumes nothing.
use mathlib.Core.Path.{◌≡◌, refl, sym, ap, ap₂, ◌∙◌}
use Prim.Native.Nat.{ℕ, zero, suc, ◌+◌, ◌-◌, ◌*◌, ◌/◌, ◌≤◌, ◌<◌}
use native.Mathlib.Nat.{sub-add-min_cancel, min_comm, lt-div-mul-add, suc-mul, zero-mul}
use mathlib.Core.Bool.{false}
use mathlib.Core.List.{List, [], ◌∷◌, ◌++◌, append_assoc, map}
use lib.ListN.{length, length-append}
use native.Mathlib.Omega.{arith}
use Rattle.format.specs.Base.{Bytes, ok}
use Rattle.format.specs.Numbers.{numbers_bytes, read_numbers}
use Rattle.format.specs.Packed.{one, packed, read_packed}
use Rattle.format.specs.Layout.{Fixed, unblocked, Form, flag_count, Columns, take_columns, drop_columns, sum, block_count, cut, block_sizes}
use Rattle.format.specs.Layout.{block_bytes, blocks_bytes, block_size, ColumnsFit}
use Rattle.format.specs.Header.{read_block, read_blocks}
use Rattle.format.proofs.Rules.{Holds, by_bind, by_map, below_after}
use Rattle.format.proofs.NumbersLaws.{AreNumbers, numbers_read_back, numbers_as_written, numbers_length}
use Rattle.format.proofs.ColumnsLaws.{no_element, flag_count_zero, columns_taken, columns_dropped, columns_joined, columns_whole, columns_first}
use Rattle.format.proofs.ColumnsLaws.{columns_rest}
use Rattle.format.proofs.PackedLaws.{ArePacked, packed_read_back, packed_as_written, packed_length}

-- ---- the cut into blocks

-- blocks that have room for all variants hold all of them
pub cut_sum : (K blocks M : ℕ) → M ≤ blocks * K → sum (cut K blocks M) ≡ M
unfolding cut sum
cut_sum K zero M h = omega (arith, zero-mul K)
cut_sum K (suc blocks) M h =
    omega (arith, sub-add-min_cancel M K, min_comm K M, cut_sum K blocks (M - K) (omega (arith, suc-mul blocks K)))

-- a cut has as many parts as there are blocks
pub cut_length : (K blocks M : ℕ) → length (cut K blocks M) ≡ blocks
unfolding cut
cut_length K zero M = refl
cut_length K (suc blocks) M = ap suc (cut_length K blocks (M - K))

-- where there are blocks their number is M / K, rounded up
pub block_count_is : (K : ℕ) (f : Fixed) → unblocked f.mode ≡ false → block_count K f ≡ (f.variants + (K - 1)) / K
unfolding block_count
block_count_is K f e = simp e

-- so many blocks have room for all variants
pub blocks_hold_all : (K : ℕ) (f : Fixed) → zero < K → unblocked f.mode ≡ false → f.variants ≤ block_count K f * K
blocks_hold_all K f p e = rw (block_count_is K f e) (omega (arith, lt-div-mul-add {a = f.variants + (K - 1)} p))

-- the blocks' sizes add up to the number of variants
pub sizes_sum : (K : ℕ) (f : Fixed) → zero < K → unblocked f.mode ≡ false → sum (block_sizes K f) ≡ f.variants
sizes_sum K f p e = cut_sum K (block_count K f) f.variants (blocks_hold_all K f p e)

-- ---- lengths

-- a block of n variants has as many bytes as its size says
pub block_length : (form : Form) (n : ℕ) (c : Columns) → ColumnsFit form n c → length (block_bytes form c) ≡ block_size form n
unfolding block_bytes block_size
block_length form n c h =
    simp (
      length-append,
      packed_length form.type_bits n c.types h.types_count,
      numbers_length,
      h.lengths_count,
      packed_length one (flag_count form n) c.flags h.flags_count,
    )

-- all blocks together
pub blocks_length : (form : Form) (ns : List ℕ) (c : Columns) → ColumnsFit form (sum ns) c → length (blocks_bytes form ns c) ≡ sum (map (block_size form) ns)
unfolding blocks_bytes sum
blocks_length form [] c h = refl
blocks_length form (n ∷ ns) c h =
    length-append (block_bytes form (take_columns n c)) (blocks_bytes form ns (drop_columns n c))
    ∙ omega (
      arith,
      block_length form n (take_columns n c) (columns_taken form n (sum ns) c h),
      blocks_length form ns (drop_columns n c) (columns_dropped form n (sum ns) c h),
    )

-- ---- read back

-- the columns of a block that fit are read back
pub block_read_back : (end : ℕ) (form : Form) (n : ℕ) (c : Columns) (left : List ℕ) → ColumnsFit form n c
    → read_block end form n (block_bytes form c ++ left) ≡ ok c left
unfolding read_block block_bytes
block_read_back end form n c left h =
    let k : ℕ = flag_count form n in
    let left₂ : List ℕ = packed one c.flags ++ left in
    let left₁ : List ℕ = numbers_bytes form.length_width c.lengths ++ left₂ in
    let types_back : read_packed end form.type_bits n (packed form.type_bits c.types ++ left₁) ≡ ok c.types left₁
    = packed_read_back end form.type_bits n c.types left₁ h.types_count h.types_small in
    let lengths_back : read_numbers end form.length_width n left₁ ≡ ok c.lengths left₂
    = numbers_read_back end form.length_width n c.lengths left₂ h.lengths_count h.lengths_small in
    let flags_back : read_packed end one k left₂ ≡ ok c.flags left = packed_read_back end one k c.flags left h.flags_count h.flags_small in
    simp (append_assoc, types_back, lengths_back, flags_back)

-- columns that fit are read back
pub blocks_read_back : (end : ℕ) (form : Form) (ns : List ℕ) (c : Columns) (left : List ℕ) → ColumnsFit form (sum ns) c
    → read_blocks end form ns (blocks_bytes form ns c ++ left) ≡ ok c left
unfolding read_blocks blocks_bytes sum
blocks_read_back end form [] c left h =
    rw (no_element c.types h.types_count, no_element c.lengths h.lengths_count, no_element c.flags (h.flags_count ∙ flag_count_zero form)) refl
blocks_read_back end form (n ∷ ns) c left h =
    let after : List ℕ = blocks_bytes form ns (drop_columns n c) ++ left in
    simp (
      append_assoc,
      block_read_back end form n (take_columns n c) after (columns_taken form n (sum ns) c h),
      blocks_read_back end form ns (drop_columns n c) left (columns_dropped form n (sum ns) c h),
    ) (ap (λ (d : Columns). ok d left) (columns_whole n c))

-- ---- as written

pub record AreBlock (form : Form) (n : ℕ) (bs : List ℕ) (c : Columns) (left : List ℕ) : Type 0 where
  pub written : bs ≡ block_bytes form c ++ left
  pub fits : ColumnsFit form n c

-- the columns of a block that were read fit, and are what was written
pub block_as_written : (end : ℕ) (form : Form) (n : ℕ) (bs : List ℕ) → Bytes bs → Holds (AreBlock form n bs) (read_block end form n bs)
unfolding read_block block_bytes
block_as_written end form n bs y =
    let k : ℕ = flag_count form n in
    by_bind (ArePacked form.type_bits n bs) (AreBlock form n bs) (read_packed end form.type_bits n bs) _
    (packed_as_written end form.type_bits n bs y) (λ types left₁ h₁.
    let y₁ : Bytes left₁ = below_after 256 (packed form.type_bits types) left₁ (rw h₁.written at y) in
    by_bind (AreNumbers form.length_width n left₁) (AreBlock form n bs) (read_numbers end form.length_width n left₁) _
    (numbers_as_written end form.length_width n left₁ y₁) (λ lengths left₂ h₂.
    let y₂ : Bytes left₂ = below_after 256 (numbers_bytes form.length_width lengths) left₂ (rw h₂.0 at y₁) in
    by_map (ArePacked one k left₂) (AreBlock form n bs) (read_packed end one k left₂) _ (packed_as_written end one k left₂ y₂) (λ flags left h₃.
    record {
      written = simp (append_assoc, h₁.written, h₂.0, h₃.written);
      fits = record {
        types_count = h₁.count;
        lengths_count = h₂.1;
        flags_count = h₃.count;
        types_small = h₁.small;
        lengths_small = h₂.2;
        flags_small = h₃.small;
      };
    })))

pub record AreBlocks (form : Form) (ns bs : List ℕ) (c : Columns) (left : List ℕ) : Type 0 where
  pub written : bs ≡ blocks_bytes form ns c ++ left
  pub fits : ColumnsFit form (sum ns) c

-- columns that were read fit, and are what was written
pub blocks_as_written : (end : ℕ) (form : Form) (ns bs : List ℕ) → Bytes bs → Holds (AreBlocks form ns bs) (read_blocks end form ns bs)
unfolding read_blocks blocks_bytes sum
blocks_as_written end form [] bs y = record {
  written = refl;
  fits = record { types_count = refl; lengths_count = refl; flags_count = sym (flag_count_zero form); types_small = tt; lengths_small = tt; flags_small = tt };
}
blocks_as_written end form (n ∷ ns) bs y =
    by_bind (AreBlock form n bs) (AreBlocks form (n ∷ ns) bs) (read_block end form n bs) _ (block_as_written end form n bs y) (λ c left₁ h.
    let y₁ : Bytes left₁ = below_after 256 (block_bytes form c) left₁ (rw h.written at y) in
    by_map (AreBlocks form ns left₁) (AreBlocks form (n ∷ ns) bs) (read_blocks end form ns left₁) _ (blocks_as_written end form ns left₁ y₁) (λ d left g.
    record {
      written =
          h.written
          ∙ ap (◌++◌ (block_bytes form c)) g.written
          ∙ sym (append_assoc (block_bytes form c) (blocks_bytes form ns d) left)
          ∙ ap₂ (λ (x z : Columns). (block_bytes form x ++ blocks_bytes form ns z) ++ left)
          (sym (columns_first form n (sum ns) c d h.fits g.fits)) (sym (columns_rest form n (sum ns) c d h.fits g.fits));
      fits = columns_joined form n (sum ns) c d h.fits g.fits;
    }))
