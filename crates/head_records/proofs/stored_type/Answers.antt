-- `head_records::stored_type` meets its contract.
-- Assumes nothing.
use borrow.Author.Rules.{rules}
use Rattle.head_records.proofs.ReadLaws.{type_laws}
use Rattle.head_records.proofs.stored_type.Goals as goal

pub type_at-requires : goal.type_at-requires
type_at-requires c = search (type_laws, rules)

pub returns-then-type_place-file : goal.returns-then-type_place-file
returns-then-type_place-file c = search (type_laws, rules)

pub returns-else-type_place-file : goal.returns-else-type_place-file
returns-else-type_place-file c = search (type_laws, rules)
