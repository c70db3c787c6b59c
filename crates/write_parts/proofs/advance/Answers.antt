-- `write_parts::advance` meets its contract: a new group, or one entry more of the same.
-- Assumes nothing.
use borrow.Author.Rules.{rules}
use Rattle.write_parts.proofs.EntryLaws.{advance_laws}
use Rattle.write_parts.proofs.advance.Goals as goal

pub returns-then-group-eq0 : goal.returns-then-group-eq0
returns-then-group-eq0 c = search (advance_laws, rules)

pub overflow_add-result : goal.overflow_add-result
overflow_add-result c = search (advance_laws, rules)

pub returns : goal.returns
returns c = search (advance_laws, rules)
