-- `read_calls::count_plain` meets its contract.
-- Assumes nothing.
use borrow.Author.Rules.{rules}
use Rattle.format.proofs.Exits.{handed_on}
use Rattle.read_calls.proofs.CountedArrayLaws.{plain_laws}
use Rattle.read_calls.proofs.count_plain.Goals as goal

pub returns-in_err-next : goal.returns-in_err-next
returns-in_err-next c = rw (handed_on c.from_residual.ensures) (search (plain_laws, c.in_err-next.was, rules))

pub slice_bounds-packed_calls-count : goal.slice_bounds-packed_calls-count
slice_bounds-packed_calls-count c = search (plain_laws, c.in_ok-next.was, rules)

pub slice_bounds-packed_calls-start : goal.slice_bounds-packed_calls-start
slice_bounds-packed_calls-start c = search (plain_laws, c.in_ok-next.was, rules)

pub slice_bounds-packed_calls-end : goal.slice_bounds-packed_calls-end
slice_bounds-packed_calls-end c = search (plain_laws, c.in_ok-next.was, rules)

pub packed_calls-requires : goal.packed_calls-requires
packed_calls-requires c = search (plain_laws, c.in_ok-next.was, rules)

pub returns : goal.returns
returns c = search (plain_laws, c.in_ok-next.was, rules)
