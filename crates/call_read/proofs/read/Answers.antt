-- `call_read::read` meets its contract.
-- Assumes nothing.
use borrow.Author.Rules.{rules}
use Rattle.format.proofs.Exits.{handed_on}
use Rattle.call_read.proofs.ReadLaws.{read_laws}
use Rattle.call_read.proofs.read.Goals as goal

pub returns-in_err-f : goal.returns-in_err-f
returns-in_err-f c = rw (handed_on c.from_residual.ensures) (search (read_laws, c.in_err-f.was, rules))

pub read_output-requires-clause-has_variant_row : goal.read_output-requires-clause-has_variant_row
read_output-requires-clause-has_variant_row c = search (read_laws, c.in_ok-f.was, rules)

pub read_output-requires-clause-samples_in_bounds : goal.read_output-requires-clause-samples_in_bounds
read_output-requires-clause-samples_in_bounds c = search (read_laws, c.in_ok-f.was, rules)

pub returns : goal.returns
returns c = search (read_laws, c.in_ok-f.was, rules)
