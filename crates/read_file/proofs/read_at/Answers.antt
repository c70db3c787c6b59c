-- `read_file::read_at` meets its contract.
-- Assumes nothing.
use borrow.Author.Rules.{rules}
use Rattle.format.proofs.Exits.{handed_on}
use Rattle.read_file.proofs.OneLaws.{row_laws}
use Rattle.read_file.proofs.read_at.Goals as goal

pub returns-in_err-read_anchor : goal.returns-in_err-read_anchor
returns-in_err-read_anchor c = rw (handed_on c.from_residual.ensures) (search (row_laws, c.in_err-read_anchor.was, rules))

pub slice_bounds-read_body-end : goal.slice_bounds-read_body-end
slice_bounds-read_body-end c = search (row_laws, c.in_ok-read_anchor.was, rules)

pub read_body-got-requires : goal.read_body-got-requires
read_body-got-requires c = search (row_laws, c.in_ok-read_anchor.was, rules)

pub returns : goal.returns
returns c = search (row_laws, c.in_ok-read_anchor.was, rules)
