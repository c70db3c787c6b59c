-- `read_check::check_track` meets its contract.
-- Assumes nothing.
use borrow.Author.Rules.{rules}
use Rattle.read_check.proofs.TrackLaws.{track_laws}
use Rattle.read_check.proofs.check_track.Goals as goal

pub returns-in-Array : goal.returns-in-Array
returns-in-Array c = search (track_laws, rules)

pub returns-in-Paired : goal.returns-in-Paired
returns-in-Paired c = search (track_laws, rules)

pub returns-in-AgainstAnchor : goal.returns-in-AgainstAnchor
returns-in-AgainstAnchor c = search (track_laws, rules)

pub returns-in-AgainstCategory : goal.returns-in-AgainstCategory
returns-in-AgainstCategory c = search (track_laws, rules)

pub returns-in-NoKind : goal.returns-in-NoKind
returns-in-NoKind c = search (track_laws, rules)
