-- `call_read::view` meets its contract.
-- Assumes nothing.
use borrow.Author.Rules.{rules}
use Rattle.call_read.proofs.ViewLaws.{view_laws}
use Rattle.call_read.proofs.view.Goals as goal

pub place_of-record-requires : goal.place_of-record-requires
place_of-record-requires c = search (view_laws, rules)

pub slice_bounds-result-count : goal.slice_bounds-result-count
slice_bounds-result-count c = search (view_laws, rules)

pub slice_bounds-result-start : goal.slice_bounds-result-start
slice_bounds-result-start c = search (view_laws, rules)

pub slice_bounds-result-end-in-Ok : goal.slice_bounds-result-end-in-Ok
slice_bounds-result-end-in-Ok c = search (view_laws, rules)

pub returns-in-Err : goal.returns-in-Err
returns-in-Err c = search (view_laws, rules)

pub returns-in-Ok : goal.returns-in-Ok
returns-in-Ok c = search (view_laws, rules)
