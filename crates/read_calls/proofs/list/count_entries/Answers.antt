-- `read_calls::list::count_entries` meets its contract.
-- Assumes nothing.
use borrow.Author.Rules.{rules}
use Rattle.format.proofs.Exits.{handed_on}
use Rattle.read_calls.proofs.CountedEntryLaws.{count_entries_laws, count_on}
use Rattle.read_calls.proofs.TallyLaws.{count_standing}
use Rattle.read_calls.proofs.list.count_entries.Goals as goal

pub loop-t-init : goal.loop-t-init
loop-t-init c = search (count_entries_laws, rules)

pub category_before-old-requires : goal.category_before-old-requires
category_before-old-requires c = search (count_entries_laws, c.in_ok-next.was, rules)

pub overflow_add-from : goal.overflow_add-from
overflow_add-from c = search (count_entries_laws, c.in_ok-next.was, rules)

pub count_short_steps-t-requires : goal.count_short_steps-t-requires
count_short_steps-t-requires c =
    count_standing
    (count_on c.loop-t.invariant c.loop-t-test.true c.rule_of-held.ensures c.count_entry.ensures c.in_ok-next.was c.type_inv.s
    c.two_bits-value.ensures c.call_count.ensures c.category_before-old.ensures c.call_count-in-loop-t.ensures)

pub loop-t-preserved : goal.loop-t-preserved
loop-t-preserved c =
    c.count_short_steps-t.ensures.goes _ _
    (count_on c.loop-t.invariant c.loop-t-test.true c.rule_of-held.ensures c.count_entry.ensures c.in_ok-next.was c.type_inv.s
    c.two_bits-value.ensures c.call_count.ensures c.category_before-old.ensures c.call_count-in-loop-t.ensures)

pub returns : goal.returns
returns c = search (count_entries_laws, rules)

pub returns-in_err-next : goal.returns-in_err-next
returns-in_err-next c = rw (handed_on c.from_residual.ensures) (search (count_entries_laws, c.in_err-next.was, rules))
