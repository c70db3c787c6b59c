-- `read_record::pair_at` meets its contract.
-- Assumes nothing.
use borrow.Author.Rules.{rules}
use Rattle.format.proofs.Exits.{handed_on}
use Rattle.read_record.proofs.CodeLaws.{code_laws}
use Rattle.read_record.proofs.pair_at.Goals as goal

pub returns-in_err-code : goal.returns-in_err-code
returns-in_err-code c = rw (handed_on c.from_residual.ensures) (search (code_laws, c.in_err-code.was, rules))

pub returns-in-None : goal.returns-in-None
returns-in-None c = search (code_laws, c.in_ok-code.was, rules)

pub returns-in-Some : goal.returns-in-Some
returns-in-Some c = search (code_laws, c.in_ok-code.was, rules)
