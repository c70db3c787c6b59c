-- `head_blocks::blocks_of` meets its contract.
-- Assumes nothing.
use borrow.Author.Rules.{rules}
use Rattle.head_blocks.proofs.Places.{blocks_laws}
use Rattle.head_blocks.proofs.blocks_of.Goals as goal

pub returns : goal.returns
returns c = search (blocks_laws, rules)
