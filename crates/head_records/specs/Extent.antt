-- The type and the size of a variant's record, in both modes. K is the number of variants to a block.
-- Assumes nothing.
use Rattle.std.specs.Prelude.{ℕ, List}
use Rattle.format.specs.declared.FileVariant.{FileVariant}
use Rattle.format.specs.Base.{pick}
use Rattle.format.specs.Layout.{Fixed, unblocked, fixed_type, fixed_size}
use Rattle.head_index.specs.VariantsAt.{type_at, length_at}

-- 01, The header: "Mode 0x02: ... Every record has type 0 and ceil(N/4) bytes."
unfoldable pub record_type : ℕ → Fixed → List ℕ → FileVariant → ℕ
record_type K f bs v = pick (unblocked f.mode) (fixed_type f) (type_at K f bs v)

unfoldable pub record_size : ℕ → Fixed → List ℕ → FileVariant → ℕ
record_size K f bs v = pick (unblocked f.mode) (fixed_size f) (length_at K f bs v)
