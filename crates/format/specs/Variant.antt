-- The two variant numbers, and the anchor. K is the number of variants to a block.
-- Assumes nothing.
use Rattle.std.specs.Prelude.{ℕ, zero, suc, ◌+◌, ◌*◌, ◌/◌, ◌%◌, List, get_or, drop}
use Rattle.format.specs.declared.FileVariant.{FileVariant}
use Rattle.format.specs.declared.BlockVariant.{BlockVariant}
use Rattle.format.specs.Base.{pick}
use Rattle.format.specs.Body.{type_leans}

-- 01, The header: "A variant's number in the file and its number within its block are two counts, and the second restarts at 0 on variant 65,536; no
-- interface lets one stand for the other." These functions alone turn one into the other.
abbrev pub file_variant : ℕ → FileVariant
file_variant v = record { 0 = v }

abbrev pub block_variant : ℕ → BlockVariant
block_variant i = record { 0 = i }

-- 02, Ask 2: "M where no variant is concerned"
abbrev pub no_variant : ℕ → FileVariant
no_variant M = file_variant M

abbrev pub next_variant : FileVariant → FileVariant
next_variant v = file_variant (suc v.0)

abbrev pub block_of : ℕ → FileVariant → ℕ
block_of K v = v.0 / K

abbrev pub in_block : ℕ → FileVariant → BlockVariant
in_block K v = block_variant (v.0 % K)

abbrev pub in_file : ℕ → ℕ → BlockVariant → FileVariant
in_file K block i = file_variant (block * K + i.0)

-- 01, Categories and kinds: "the anchor, which is the nearest earlier variant in the same block whose kind is neither 2 nor 3"
-- among so many of a block's first variants, from the last of them back, by the block's types
unfoldable pub last_standing : List ℕ → ℕ → BlockVariant
last_standing types zero = block_variant 0
last_standing types (suc count) = pick (type_leans (get_or types count 0)) (last_standing types count) (block_variant count)

-- among those before variant i of the block
abbrev pub nearest : List ℕ → BlockVariant → BlockVariant
nearest types i = last_standing types i.0

unfoldable pub anchor : ℕ → List ℕ → FileVariant → FileVariant
anchor K types v = in_file K (block_of K v) (nearest (drop (block_of K v * K) types) (in_block K v))
