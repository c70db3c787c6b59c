-- `head_records::lengths_place` meets its contract.
-- Assumes nothing.
use borrow.Author.Rules.{rules}
use Rattle.head_records.proofs.ReadLaws.{lengths_laws}
use Rattle.head_records.proofs.lengths_place.Goals as goal

pub returns : goal.returns
returns c = search (lengths_laws, rules)
