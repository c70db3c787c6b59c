-- `read_list::entry::put_entry` meets its contract.
-- Assumes nothing.
use borrow.Author.Rules.{rules}
use Rattle.read_list.proofs.EntryLaws.{put_entry_laws}
use Rattle.read_list.proofs.entry.put_entry.Goals as goal

pub returns-in_err-next : goal.returns-in_err-next
returns-in_err-next c = search (put_entry_laws, c.in_err-next.was, rules)

pub two_bits-value-requires : goal.two_bits-value-requires
two_bits-value-requires c = search (put_entry_laws, c.in_ok-next.was, rules)

pub may_hold-requires : goal.may_hold-requires
may_hold-requires c = search (put_entry_laws, c.in_ok-next.was, rules)

pub returns-then-not-may_hold : goal.returns-then-not-may_hold
returns-then-not-may_hold c = search (put_entry_laws, c.in_ok-next.was, rules)

pub bounds-row-next : goal.bounds-row-next
bounds-row-next c = search (put_entry_laws, c.in_ok-next.was, rules)

pub overflow_add-result : goal.overflow_add-result
overflow_add-result c = search (put_entry_laws, c.in_ok-next.was, rules)

pub returns : goal.returns
returns c = search (put_entry_laws, c.in_ok-next.was, rules)
