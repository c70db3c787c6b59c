-- `head_blocks::header_end` meets its contract.
-- Assumes nothing.
use borrow.Author.Rules.{rules}
use Rattle.head_blocks.proofs.Places.{end_laws}
use Rattle.head_blocks.proofs.header_end.Goals as goal

pub returns-then-is_unblocked : goal.returns-then-is_unblocked
returns-then-is_unblocked c = search (end_laws, rules)

pub returns : goal.returns
returns c = search (end_laws, rules)
