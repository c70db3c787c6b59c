-- `read_record::read_phased` meets its contract.
-- Assumes nothing.
use borrow.Author.Rules.{rules}
use Rattle.format.proofs.Exits.{handed_on}
use Rattle.read_record.proofs.PhasedLaws.{phased_laws}
use Rattle.read_record.proofs.read_phased.Goals as goal

pub returns-in_err-next : goal.returns-in_err-next
returns-in_err-next c = rw (handed_on c.from_residual.ensures) (search (phased_laws, c.in_err-next.was, rules))

pub put_after-requires-clause-after_there : goal.put_after-requires-clause-after_there
put_after-requires-clause-after_there c = search (phased_laws, c.in_ok-next.was, rules)

pub returns : goal.returns
returns c = search (phased_laws, c.in_ok-next.was, rules)
