-- What a rule of the header check finds, and what it means.
-- Assumes nothing.
use Rattle.std.specs.Prelude.{◌≡◌, ℕ, List, Option, Some, None, Result, Ok, Err, ⊤}
use Rattle.format.specs.declared.Refusal.{Refusal}
use Rattle.format.specs.declared.Fields.{Fields}
use Rattle.format.specs.Base.{Out, refused, refusal, named}
use Rattle.format.specs.Limits.{variants_to_a_block}
use Rattle.format.specs.Variant.{no_variant}
use Rattle.format.specs.Layout.{Arrays}
use Rattle.format.specs.Reply.{summary, header_left}
use Rattle.head_index.specs.Rules.{unused_arrays, after_fixed, after_types}
use Rattle.head_index.specs.Known.{Passed}
use Rattle.head_blocks.specs.Parts.{fixed, unused_out}

-- a refusal, or what comes next
abbrev pub found_then : {A : Type 0} → Result ⊤ Refusal → Out A → Out A
found_then (Err why) next = refused why
found_then (Ok _) next = next

-- 7: as found of the unused bits. 02, Ask 2: "M where no variant is concerned"
abbrev pub found_unused : ℕ → Option ℕ → Result ⊤ Refusal
found_unused M (Some place) = Err (named (no_variant M) (refusal 7 place))
found_unused M None = Ok tt

pub record UnusedFound (bs : List ℕ) (f : Fields) (r : Result ⊤ Refusal) : Type 0 where
  pub unused : Option ℕ
  pub is : unused_out unused ≡ unused_arrays variants_to_a_block (fixed f) bs
  pub told : r ≡ found_unused f.variants unused

-- 8: of the types, whichever arrays the file holds once 7 has passed
abbrev pub TypesFound : List ℕ → Result ⊤ Refusal → Type 0
TypesFound bs r = (a : Arrays) → Passed variants_to_a_block bs a → found_then r (after_types variants_to_a_block bs a) ≡ after_fixed variants_to_a_block bs

-- 9: of the offsets and the records' end
abbrev pub EndsFound : List ℕ → Result Fields Refusal → Type 0
EndsFound bs r = (a : Arrays) → Passed variants_to_a_block bs a → header_left r ≡ summary (after_types variants_to_a_block bs a)
