-- `read_check::straight_tracks` meets its contract.
-- Assumes nothing.
use borrow.Author.Rules.{rules}
use Rattle.format.proofs.Exits.{handed_on}
use Rattle.read_check.proofs.StraightLaws.{tracks_laws, main_lists}
use Rattle.read_check.proofs.straight_tracks.Goals as goal

pub returns-in_err-check_body : goal.returns-in_err-check_body
returns-in_err-check_body c = rw (handed_on c.from_residual.ensures) (search (tracks_laws, c.in_err-check_body.was, rules))

pub read_track-requires-clause-lists : goal.read_track-requires-clause-lists
read_track-requires-clause-lists c = search (main_lists, c.in_ok-check_body.was, rules)

pub returns : goal.returns
returns c = search (tracks_laws, c.in_ok-check_body.was, rules)
