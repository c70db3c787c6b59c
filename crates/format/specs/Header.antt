-- The header check: from bytes to a header (refusals 1 to 8), and from it and the records' bytes to a layout (9). K is the number of variants to a block.
-- Assumes nothing.
use Rattle.std.specs.Prelude.{ℕ, suc, ◌+◌, ◌*◌, ◌/◌, List, [], ◌∷◌, length, replicate, eqb, leb}
use Rattle.format.specs.declared.FileVariant.{FileVariant}
use Rattle.format.specs.Base.{pick, Out, ok, refuse, naming, bind, map_out, need, need_of, numbered}
use Rattle.format.specs.Limits.{most_samples, most_variants}
use Rattle.format.specs.Numbers.{read_number, read_numbers, read_bytes}
use Rattle.format.specs.Packed.{one, more, read_packed}
use Rattle.format.specs.Variant.{file_variant, no_variant, next_variant, block_of, in_block}
use Rattle.format.specs.Layout.{Fixed, unblocked, fixed_type, fixed_size, from_1_to, mode_covered, form_allowed, Form, form_of, flag_count}
use Rattle.format.specs.Layout.{Columns, join_columns, no_columns, Arrays, block_count, block_sizes, block_size, arrays_size}
use Rattle.format.specs.Layout.{Layout, fixed_of, arrays_of, block_offsets, type_allowed}

-- ---- the header

pub record Header : Type 0 where
  pub fixed : Fixed
  pub arrays : Arrays

abbrev pub header_with : Fixed → Arrays → Header
header_with f a = record { fixed = f; arrays = a }

abbrev pub header_of : ℕ → Layout → Header
header_of K l = header_with (fixed_of l) (arrays_of K l)

-- 01, Replies: 1, "file under 12 bytes"
unfoldable pub read_fixed : ℕ → List ℕ → Out Fixed
read_fixed end bs =
    bind (read_number end 2 bs) (λ magic left₁.
    bind (read_number end 1 left₁) (λ mode left₂.
    bind (read_number end 4 left₂) (λ variants left₃.
    bind (read_number end 4 left₃) (λ samples left₄.
    map_out (λ (form : ℕ). record { magic = magic; mode = mode; variants = variants; samples = samples; form = form }) (read_number end 1 left₄)))))

-- 01: 2, "magic wrong"; 3, "mode not covered"; 4, "M or N outside its range", "3 or 7, M first"; 5, "form not allowed". 02, Ask 2: "M where no
-- variant is concerned, 0 in 1 to 4"
unfoldable pub need_fixed : {A : Type 0} → Fixed → Out A → Out A
need_fixed f next =
    need (eqb f.magic 0x1b6c) 2 0
    (need (mode_covered f.mode) 3 2
    (need (from_1_to most_variants f.variants) 4 3
    (need (from_1_to most_samples f.samples) 4 7
    (need_of (no_variant f.variants) (form_allowed f.mode f.form) 5 11 next))))

-- the arrays, in stored order; they are refused only for unused bits, since they are read where they fit (6): law `seven_is_unused_bits`
unfoldable pub read_block : ℕ → Form → ℕ → List ℕ → Out Columns
read_block end form n bs =
    bind (read_packed end form.type_bits n bs) (λ types left₁.
    bind (read_numbers end form.length_width n left₁) (λ lengths left₂.
    map_out (λ (flags : List ℕ). record { types = types; lengths = lengths; flags = flags }) (read_packed end one (flag_count form n) left₂)))

unfoldable pub read_blocks : ℕ → Form → List ℕ → List ℕ → Out Columns
read_blocks end form [] bs = ok no_columns bs
read_blocks end form (n ∷ ns) bs = bind (read_block end form n bs) (λ c left. map_out (join_columns c) (read_blocks end form ns left))

unfoldable pub read_blocked : ℕ → ℕ → Fixed → List ℕ → Out Arrays
read_blocked K end f bs =
    bind (read_numbers end 8 (block_count K f) bs) (λ offsets left.
    map_out (λ (c : Columns). record { offsets = offsets; columns = c }) (read_blocks end (form_of f) (block_sizes K f) left))

unfoldable pub unblocked_arrays : Fixed → List ℕ → Arrays
unblocked_arrays f flags = record {
  offsets = [];
  columns = record { types = replicate f.variants (fixed_type f); lengths = replicate f.variants (fixed_size f); flags = flags };
}

unfoldable pub read_arrays : ℕ → ℕ → Fixed → List ℕ → Out Arrays
read_arrays K end f bs =
    pick (unblocked f.mode)
    (map_out (unblocked_arrays f) (read_packed end one (flag_count (form_of f) f.variants) bs))
    (read_blocked K end f bs)

-- 01: 8, "type not allowed", at the "byte holding it". Every block before another is full. 02, Ask 2: 8 names the variant in whose type the fault lies, "the
-- lower one where one byte holds two such types": the first in variant order.
unfoldable pub block_place : ℕ → Fixed → ℕ → ℕ
block_place K f block = 12 + 8 * block_count K f + block * block_size (form_of f) K

unfoldable pub type_place : ℕ → Fixed → FileVariant → ℕ
type_place K f v = block_place K f (block_of K v) + (in_block K v).0 / suc (more (form_of f).type_bits)

unfoldable pub need_types : {A : Type 0} → ℕ → Fixed → FileVariant → List ℕ → Out A → Out A
need_types K f v [] next = next
need_types K f v (type ∷ types) next =
    need_of v (type_allowed (in_block K v) type) 8 (type_place K f v) (need_types K f (next_variant v) types next)

-- 6, "file ends inside the header"; 7, "unused header bits set"; then 8. `end` is where the file ends.
unfoldable pub read_after_fixed : ℕ → ℕ → Fixed → List ℕ → Out Header
read_after_fixed K end f bs =
    need_of (no_variant f.variants) (leb (arrays_size K f) (length bs)) 6 end
    (bind (naming (no_variant f.variants) (numbered 7 (read_arrays K end f bs))) (λ a left.
    need_types K f (file_variant 0) a.columns.types (ok (header_with f a) left)))

-- 01, Replies: "1 to 11 by number, the lowest place first within a number". What is left are the bytes after the header.
unfoldable pub read_header : ℕ → List ℕ → Out Header
read_header K bs = bind (numbered 1 (read_fixed (length bs) bs)) (λ f left. need_fixed f (read_after_fixed K (length bs) f left))

-- ---- the records

-- 01: 9, "block offset wrong, or records don't end at the file's end", at "the offset field, else file length" ("offset fields before the end")
unfoldable pub need_offsets : {A : Type 0} → Fixed → ℕ → List ℕ → List ℕ → Out A → Out A
need_offsets f place [] starts next = next
need_offsets f place (offset ∷ offsets) [] next = next
need_offsets f place (offset ∷ offsets) (start ∷ starts) next =
    need_of (no_variant f.variants) (eqb offset start) 9 place (need_offsets f (place + 8) offsets starts next)

unfoldable pub split_bodies : ℕ → List ℕ → List ℕ → Out (List (List ℕ))
split_bodies end [] [] = ok [] []
split_bodies end [] (b ∷ bs) = refuse 9 end
split_bodies end (n ∷ ns) bs = bind (read_bytes end n bs) (λ body left. map_out (◌∷◌ body) (split_bodies end ns left))

abbrev pub layout_of : Fixed → Columns → List (List ℕ) → Layout
layout_of f c bodies = record { mode = f.mode; samples = f.samples; form = f.form; types = c.types; flags = c.flags; bodies = bodies }

-- the bodies, in bytes that end with the file
unfoldable pub read_bodies : ℕ → Header → List ℕ → Out Layout
read_bodies end h bs =
    map_out (layout_of h.fixed h.arrays.columns)
    (naming (no_variant h.fixed.variants) (numbered 9 (split_bodies end h.arrays.columns.lengths bs)))

-- the offset fields, then the bodies
unfoldable pub read_data : ℕ → ℕ → Header → List ℕ → Out Layout
read_data K end h bs =
    need_offsets h.fixed 12 h.arrays.offsets (block_offsets K h.fixed h.arrays.columns.lengths) (read_bodies end h bs)

-- ---- a file in one piece: the records are what is left after the header

unfoldable pub read_layout : ℕ → List ℕ → Out Layout
read_layout K bs = bind (read_header K bs) (λ h left. read_data K (length bs) h left)
