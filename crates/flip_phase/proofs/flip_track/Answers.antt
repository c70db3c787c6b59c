-- `flip_phase::flip_track` meets its contract.
-- Assumes nothing.
use borrow.Author.Rules.{rules}
use Rattle.flip_phase.proofs.TrackLaws.{track_laws}
use Rattle.flip_phase.proofs.flip_track.Goals as goal

pub slice_bounds-phased_count-end : goal.slice_bounds-phased_count-end
slice_bounds-phased_count-end c = search (track_laws, rules)

pub phased_count-count-requires : goal.phased_count-count-requires
phased_count-count-requires c = search (track_laws, rules)

pub complement_bits-requires : goal.complement_bits-requires
complement_bits-requires c = search (track_laws, rules)

pub returns : goal.returns
returns c = search (track_laws, rules)
