-- `read_list::entry::check_value` meets its contract.
-- Assumes nothing.
use borrow.Author.Rules.{rules}
use Rattle.read_list.proofs.EntryLaws.{value_laws}
use Rattle.read_list.proofs.entry.check_value.Goals as goal

pub returns-then-not-may_hold : goal.returns-then-not-may_hold
returns-then-not-may_hold c = search (value_laws, rules)

pub returns : goal.returns
returns c = search (value_laws, rules)
