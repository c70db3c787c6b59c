-- `call_rows::start_rows` meets its contract.
-- Assumes nothing.
use borrow.Author.Rules.{rules}
use Rattle.format.proofs.Exits.{handed_on}
use Rattle.call_rows.proofs.StartLaws.{start_laws}
use Rattle.call_rows.proofs.start_rows.Goals as goal

pub returns-in_err-fields : goal.returns-in_err-fields
returns-in_err-fields c = rw (handed_on c.from_residual.ensures) (search (start_laws, c.in_err-fields.was, rules))

pub first_row-requires : goal.first_row-requires
first_row-requires c = search (start_laws, c.in_ok-fields.was, rules)

pub returns : goal.returns
returns c = search (start_laws, c.in_ok-fields.was, rules)
