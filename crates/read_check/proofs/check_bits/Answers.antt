-- `read_check::check_bits` meets its contract.
-- Assumes nothing.
use borrow.Author.Rules.{rules}
use Rattle.format.proofs.Exits.{handed_on}
use Rattle.read_check.proofs.TrackLaws.{part_laws}
use Rattle.read_check.proofs.check_bits.Goals as goal

pub returns-in_err-next : goal.returns-in_err-next
returns-in_err-next c = rw (handed_on c.from_residual.ensures) (search (part_laws, c.in_err-next.was, rules))

pub check_list-requires-clause-at_in_bounds : goal.check_list-requires-clause-at_in_bounds
check_list-requires-clause-at_in_bounds c = search (part_laws, c.in_ok-next.was, rules)

pub returns : goal.returns
returns c = search (part_laws, c.in_ok-next.was, rules)
