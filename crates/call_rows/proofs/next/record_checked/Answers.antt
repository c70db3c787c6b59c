-- `call_rows::next::record_checked` meets its contract.
-- Assumes nothing.
use borrow.Author.Rules.{rules}
use Rattle.call_rows.proofs.RecordLaws.{record_laws}
use Rattle.call_rows.proofs.next.record_checked.Goals as goal

pub place_of_type-requires : goal.place_of_type-requires
place_of_type-requires c = search (record_laws, rules)

pub returns-then-not-type_follows : goal.returns-then-not-type_follows
returns-then-not-type_follows c = search (record_laws, rules)

pub returns-then-held-start : goal.returns-then-held-start
returns-then-held-start c = search (record_laws, rules)

pub returns : goal.returns
returns c = search (record_laws, rules)
