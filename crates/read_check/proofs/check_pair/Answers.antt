-- `read_check::check_pair` meets its contract.
-- Assumes nothing.
use borrow.Author.Rules.{rules}
use Rattle.format.proofs.Exits.{handed_on}
use Rattle.read_check.proofs.TrackLaws.{pair_laws}
use Rattle.read_check.proofs.check_pair.Goals as goal

pub returns-in_err-pair : goal.returns-in_err-pair
returns-in_err-pair c = rw (handed_on c.from_residual.ensures) (search (pair_laws, c.in_err-pair.was, rules))

pub check_bits-requires : goal.check_bits-requires
check_bits-requires c = search (pair_laws, c.in_ok-pair.was, rules)

pub returns : goal.returns
returns c = search (pair_laws, c.in_ok-pair.was, rules)
