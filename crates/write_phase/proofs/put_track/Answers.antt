-- `write_phase::put_track` meets its contract: the first part, then the phase bits.
-- Assumes nothing.
use borrow.Author.Rules.{rules}
use Rattle.write_phase.proofs.TrackLaws.{track_laws}
use Rattle.write_phase.proofs.put_track.Goals as goal

pub put_first-bits-requires : goal.put_first-bits-requires
put_first-bits-requires c = search (track_laws, rules)

pub put_part-requires : goal.put_part-requires
put_part-requires c = search (track_laws, rules)

pub returns : goal.returns
returns c = search (track_laws, rules)
