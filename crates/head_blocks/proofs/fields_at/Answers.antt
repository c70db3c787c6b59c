-- `head_blocks::fields_at` meets its contract.
-- Assumes nothing.
use borrow.Author.Rules.{rules}
use Rattle.head_blocks.proofs.Sizes.{fields_are}
use Rattle.head_blocks.proofs.fields_at.Goals as goal

pub returns : goal.returns
returns c = search (fields_are, rules)
