-- `head_records::size_of` meets its contract.
-- Assumes nothing.
use borrow.Author.Rules.{rules}
use Rattle.head_records.proofs.ReadLaws.{mode_laws}
use Rattle.head_records.proofs.size_of.Goals as goal

pub returns-then-is_unblocked : goal.returns-then-is_unblocked
returns-then-is_unblocked c = search (mode_laws, rules)

pub returns-else-is_unblocked : goal.returns-else-is_unblocked
returns-else-is_unblocked c = search (mode_laws, rules)
