-- `read_record::whole_record` meets its contract.
-- Assumes nothing.
use borrow.Author.Rules.{rules}
use Rattle.format.proofs.Exits.{handed_on}
use Rattle.read_record.proofs.BodyLaws.{whole_laws}
use Rattle.read_record.proofs.whole_record.Goals as goal

pub returns-in_err-next : goal.returns-in_err-next
returns-in_err-next c = rw (handed_on c.from_residual.ensures) (search (whole_laws, c.in_err-next.was, rules))

pub returns-then-next-end : goal.returns-then-next-end
returns-then-next-end c = search (whole_laws, c.in_ok-next.was, rules)

pub returns : goal.returns
returns c = search (whole_laws, rules)
