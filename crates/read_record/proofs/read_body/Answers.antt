-- `read_record::read_body` meets its contract.
-- Assumes nothing.
use borrow.Author.Rules.{rules}
use Rattle.format.proofs.Exits.{handed_on}
use Rattle.read_record.proofs.TracksLaws.{body_laws}
use Rattle.read_record.proofs.read_body.Goals as goal

pub returns-in_err-read_tracks : goal.returns-in_err-read_tracks
returns-in_err-read_tracks c = rw (handed_on c.from_residual.ensures) (search (body_laws, c.in_err-read_tracks.was, rules))

pub returns : goal.returns
returns c = search (body_laws, c.in_ok-read_tracks.was, rules)
