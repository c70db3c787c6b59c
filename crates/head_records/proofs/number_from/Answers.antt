-- `head_records::number_from` meets its contract.
-- Assumes nothing.
use borrow.Author.Rules.{rules}
use Rattle.head_records.proofs.ReadLaws.{first_bytes}
use Rattle.head_records.proofs.number_from.Goals as goal

pub returns-in-1 : goal.returns-in-1
returns-in-1 c = search (first_bytes 1 3, rules)

pub returns-in-2 : goal.returns-in-2
returns-in-2 c = search (first_bytes 2 2, rules)

pub returns-in-3 : goal.returns-in-3
returns-in-3 c = search (first_bytes 3 1, rules)
