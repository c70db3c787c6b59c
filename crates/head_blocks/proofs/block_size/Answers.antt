-- `head_blocks::block_size` meets its contract.
-- Assumes nothing.
use borrow.Author.Rules.{rules}
use Rattle.head_blocks.proofs.Sizes.{size_laws}
use Rattle.head_blocks.proofs.block_size.Goals as goal

pub returns : goal.returns
returns c = search (size_laws, rules)
