-- `read_check::check_phased` meets its contract.
-- Assumes nothing.
use borrow.Author.Rules.{rules}
use Rattle.format.proofs.Exits.{handed_on}
use Rattle.read_check.proofs.PhasedLaws.{phased_laws}
use Rattle.read_check.proofs.check_phased.Goals as goal

pub returns-in_err-next : goal.returns-in_err-next
returns-in_err-next c = rw (handed_on c.from_residual.ensures) (search (phased_laws, c.in_err-next.was, rules))

pub check_phased_end-requires : goal.check_phased_end-requires
check_phased_end-requires c = search (phased_laws, c.in_ok-next.was, rules)

pub returns : goal.returns
returns c = search (phased_laws, c.in_ok-next.was, rules)
