-- `read_file::read_phases` meets its contract.
-- Assumes nothing.
use borrow.Author.Rules.{rules}
use Rattle.format.proofs.Exits.{handed_on}
use Rattle.read_file.proofs.OneLaws.{phases_laws}
use Rattle.read_file.proofs.read_phases.Goals as goal

pub returns-in_err-read_anchor : goal.returns-in_err-read_anchor
returns-in_err-read_anchor c = rw (handed_on c.from_residual.ensures) (search (phases_laws, c.in_err-read_anchor.was, rules))

pub slice_bounds-read_phased-end : goal.slice_bounds-read_phased-end
slice_bounds-read_phased-end c = search (phases_laws, c.in_ok-read_anchor.was, rules)

pub read_phased-got-requires-clause-at_in_bounds : goal.read_phased-got-requires-clause-at_in_bounds
read_phased-got-requires-clause-at_in_bounds c = search (phases_laws, c.in_ok-read_anchor.was, rules)

pub returns : goal.returns
returns c = search (phases_laws, c.in_ok-read_anchor.was, rules)
