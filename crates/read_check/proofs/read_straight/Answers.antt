-- `read_check::read_straight` meets its contract.
-- Assumes nothing.
use borrow.Author.Rules.{rules}
use Rattle.format.proofs.Exits.{handed_on}
use Rattle.read_check.proofs.StraightLaws.{straight_laws}
use Rattle.read_check.proofs.read_straight.Goals as goal

pub returns-in_err-straight_tracks : goal.returns-in_err-straight_tracks
returns-in_err-straight_tracks c = rw (handed_on c.from_residual.ensures) (search (straight_laws, c.in_err-straight_tracks.was, rules))

pub returns : goal.returns
returns c = search (straight_laws, c.in_ok-straight_tracks.was, rules)
