-- `head_records::length_of` meets its contract.
-- Assumes nothing.
use borrow.Author.Rules.{rules}
use Rattle.head_records.proofs.ReadLaws.{length_laws}
use Rattle.head_records.proofs.length_of.Goals as goal

pub returns : goal.returns
returns c = search (length_laws, rules)
