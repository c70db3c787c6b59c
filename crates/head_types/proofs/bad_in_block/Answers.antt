-- `head_types::bad_in_block` meets its contract.
-- Assumes nothing.
use borrow.Author.Rules.{rules}
use Rattle.head_types.proofs.Flat.{block_laws}
use Rattle.head_types.proofs.bad_in_block.Goals as goal

pub returns-then-type_leans : goal.returns-then-type_leans
returns-then-type_leans c = search (block_laws, rules)

pub returns-then-none_amiss : goal.returns-then-none_amiss
returns-then-none_amiss c = search (block_laws, rules)
