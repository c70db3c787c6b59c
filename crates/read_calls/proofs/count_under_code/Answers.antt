-- `read_calls::count_under_code` meets its contract.
-- Assumes nothing.
use borrow.Author.Rules.{rules}
use Rattle.format.proofs.Exits.{handed_on}
use Rattle.read_calls.proofs.CountedArrayLaws.{bits_laws}
use Rattle.read_calls.proofs.count_under_code.Goals as goal

pub returns-in_err-next : goal.returns-in_err-next
returns-in_err-next c = rw (handed_on c.from_residual.ensures) (search (bits_laws, c.in_err-next.was, rules))

pub slice_bounds-ones_in-count : goal.slice_bounds-ones_in-count
slice_bounds-ones_in-count c = search (bits_laws, c.in_ok-next.was, rules)

pub slice_bounds-ones_in-start : goal.slice_bounds-ones_in-start
slice_bounds-ones_in-start c = search (bits_laws, c.in_ok-next.was, rules)

pub slice_bounds-ones_in-end : goal.slice_bounds-ones_in-end
slice_bounds-ones_in-end c = search (bits_laws, c.in_ok-next.was, rules)

pub ones_in-ones-requires : goal.ones_in-ones-requires
ones_in-ones-requires c = search (bits_laws, c.in_ok-next.was, rules)

pub overflow_sub-n : goal.overflow_sub-n
overflow_sub-n c = search (bits_laws, c.in_ok-next.was, rules)

pub count_list-requires-clause-at_in_bounds : goal.count_list-requires-clause-at_in_bounds
count_list-requires-clause-at_in_bounds c = search (bits_laws, c.in_ok-next.was, rules)

pub count_list-requires-clause-h_value : goal.count_list-requires-clause-h_value
count_list-requires-clause-h_value c = search (bits_laws, c.in_ok-next.was, rules)

pub returns : goal.returns
returns c = search (bits_laws, c.in_ok-next.was, rules)
