-- `read_record::put_tracks` meets its contract.
-- Assumes nothing.
use borrow.Author.Rules.{rules}
use Rattle.format.proofs.Exits.{handed_on}
use Rattle.read_record.proofs.TracksLaws.{put_laws}
use Rattle.read_record.proofs.put_tracks.Goals as goal

pub returns-in_err-next : goal.returns-in_err-next
returns-in_err-next c = rw (handed_on c.from_residual.ensures) (search (put_laws, c.in_err-next.was, rules))

pub returns-in_err-check_end : goal.returns-in_err-check_end
returns-in_err-check_end c =
    rw (handed_on c.from_residual-in_err-check_end.ensures) (search (put_laws, c.in_ok-next.was, c.in_err-check_end.was, rules))

pub returns : goal.returns
returns c = search (put_laws, c.in_ok-next.was, c.in_ok-check_end.was, rules)
