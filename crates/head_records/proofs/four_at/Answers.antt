-- `head_records::four_at` meets its contract.
-- Assumes nothing.
use borrow.Author.Rules.{rules}
use Rattle.head_index.proofs.ByIndex.{low_byte, high_byte}
use Rattle.head_records.proofs.four_at.Goals as goal

pub returns : goal.returns
returns c = search (low_byte, high_byte 1, high_byte 2, high_byte 3, rules)
