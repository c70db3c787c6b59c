-- `read_file::read_output` meets its contract.
-- Assumes nothing.
use borrow.Author.Rules.{rules}
use Rattle.read_file.proofs.GivenLaws.{given_laws}
use Rattle.read_file.proofs.read_output.Goals as goal

pub slice_bounds-read_straight-end : goal.slice_bounds-read_straight-end
slice_bounds-read_straight-end c = search (given_laws, rules)

pub read_straight-got-requires-clause-at_in_bounds : goal.read_straight-got-requires-clause-at_in_bounds
read_straight-got-requires-clause-at_in_bounds c = search (given_laws, rules)

pub returns : goal.returns
returns c = search (given_laws, rules)
