-- `read_calls::count_sparse` meets its contract.
-- Assumes nothing.
use borrow.Author.Rules.{rules}
use Rattle.format.proofs.Exits.{handed_on}
use Rattle.read_calls.proofs.SparseLaws.{sparse_laws}
use Rattle.read_calls.proofs.count_sparse.Goals as goal

pub returns-in_err-m : goal.returns-in_err-m
returns-in_err-m c = rw (handed_on c.from_residual.ensures) (search (sparse_laws, c.in_err-m.was, rules))

pub returns-then-m-eq0 : goal.returns-then-m-eq0
returns-then-m-eq0 c = search (sparse_laws, c.in_ok-m.was, rules)

pub lay_parts-requires : goal.lay_parts-requires
lay_parts-requires c = search (sparse_laws, c.in_ok-m.was, rules)

pub returns-in_err-values : goal.returns-in_err-values
returns-in_err-values c = rw (handed_on c.from_residual-in_err-values.ensures) (search (sparse_laws, c.in_ok-m.was, c.in_err-values.was, rules))

pub returns-in_err-past : goal.returns-in_err-past
returns-in_err-past c = rw (handed_on c.from_residual-in_err-past.ensures) (search (sparse_laws, c.in_ok-m.was, c.in_ok-values.was, c.in_err-past.was, rules))

pub slice_bounds-packed_calls-count : goal.slice_bounds-packed_calls-count
slice_bounds-packed_calls-count c = search (sparse_laws, c.in_ok-m.was, c.in_ok-values.was, c.in_ok-past.was, rules)

pub slice_bounds-packed_calls-start : goal.slice_bounds-packed_calls-start
slice_bounds-packed_calls-start c = search (sparse_laws, c.in_ok-m.was, c.in_ok-values.was, c.in_ok-past.was, rules)

pub slice_bounds-packed_calls-end : goal.slice_bounds-packed_calls-end
slice_bounds-packed_calls-end c = search (sparse_laws, c.in_ok-m.was, c.in_ok-values.was, c.in_ok-past.was, rules)

pub packed_calls-requires : goal.packed_calls-requires
packed_calls-requires c = search (sparse_laws, c.in_ok-m.was, c.in_ok-values.was, c.in_ok-past.was, rules)

pub returns : goal.returns
returns c = search (sparse_laws, c.in_ok-m.was, c.in_ok-values.was, c.in_ok-past.was, rules)
