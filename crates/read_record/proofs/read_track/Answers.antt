-- `read_record::read_track` meets its contract.
-- Assumes nothing.
use borrow.Author.Rules.{rules}
use Rattle.read_record.proofs.BodyLaws.{no_track}
use Rattle.read_record.proofs.read_track.Goals as goal

pub returns-in-NoKind : goal.returns-in-NoKind
returns-in-NoKind c = search (no_track, rules)
