-- `read_phase::check_phases` meets its contract.
-- Assumes nothing.
use borrow.Author.Rules.{rules}
use Rattle.format.proofs.Exits.{passed_on}
use Rattle.read_phase.proofs.TrackLaws.{track_laws}
use Rattle.read_phase.proofs.check_phases.Goals as goal

pub returns-in_err-next : goal.returns-in_err-next
returns-in_err-next c = passed_on c.from_residual.ensures (search (track_laws, c.in_err-next.was, rules))

pub slice_bounds-phased_count-count : goal.slice_bounds-phased_count-count
slice_bounds-phased_count-count c = search (track_laws, c.in_ok-next.was, rules)

pub slice_bounds-phased_count-start : goal.slice_bounds-phased_count-start
slice_bounds-phased_count-start c = search (track_laws, c.in_ok-next.was, rules)

pub slice_bounds-phased_count-end : goal.slice_bounds-phased_count-end
slice_bounds-phased_count-end c = search (track_laws, c.in_ok-next.was, rules)

pub phased_count-count-requires : goal.phased_count-count-requires
phased_count-count-requires c = search (track_laws, c.in_ok-next.was, rules)

pub check_array-requires-2 : goal.check_array-requires-2
check_array-requires-2 c = search (track_laws, c.in_ok-next.was, rules)

pub returns : goal.returns
returns c = search (track_laws, c.in_ok-next.was, rules)
