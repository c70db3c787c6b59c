-- `read_check::check_body` meets its contract.
-- Assumes nothing.
use borrow.Author.Rules.{rules}
use Rattle.read_check.proofs.BodyLaws.{body_laws}
use Rattle.read_check.proofs.check_body.Goals as goal

pub returns-then-type_phased : goal.returns-then-type_phased
returns-then-type_phased c = search (body_laws, rules)

pub returns : goal.returns
returns c = search (body_laws, rules)
