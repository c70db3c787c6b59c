-- `head_places::start_in_block` meets its contract.
-- Assumes nothing.
use borrow.Author.Rules.{rules}
use Rattle.head_places.proofs.InBlock.{block_start_laws}
use Rattle.head_places.proofs.start_in_block.Goals as goal

pub number_at-requires : goal.number_at-requires
number_at-requires c = search (block_start_laws, rules)

pub sum_lengths-requires : goal.sum_lengths-requires
sum_lengths-requires c = search (block_start_laws, rules)

pub overflow_add-start : goal.overflow_add-start
overflow_add-start c = search (block_start_laws, rules)

pub returns : goal.returns
returns c = search (block_start_laws, rules)
