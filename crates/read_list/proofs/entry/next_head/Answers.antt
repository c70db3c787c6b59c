-- `read_list::entry::next_head` meets its contract.
-- Assumes nothing.
use borrow.Author.Rules.{rules}
use Rattle.read_list.proofs.SampleLaws.{next_laws}
use Rattle.read_list.proofs.entry.next_head.Goals as goal

pub returns-then-st-eq0 : goal.returns-then-st-eq0
returns-then-st-eq0 c = search (next_laws, rules)

pub overflow_add-read : goal.overflow_add-read
overflow_add-read c = search (next_laws, rules)

pub overflow_add-st : goal.overflow_add-st
overflow_add-st c = search (next_laws, rules)

pub returns-then-st-read : goal.returns-then-st-read
returns-then-st-read c = search (next_laws, rules)

pub returns : goal.returns
returns c = search (next_laws, rules)
