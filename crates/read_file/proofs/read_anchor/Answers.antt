-- `read_file::read_anchor` meets its contract.
-- Assumes nothing.
use borrow.Author.Rules.{rules}
use Rattle.read_file.proofs.LentLaws.{anchor_laws}
use Rattle.read_file.proofs.read_anchor.Goals as goal

pub anchor_of-anchor-requires : goal.anchor_of-anchor-requires
anchor_of-anchor-requires c = search (anchor_laws, rules)

pub slice_bounds-read_body-end : goal.slice_bounds-read_body-end
slice_bounds-read_body-end c = search (anchor_laws, rules)

pub read_body-got-requires : goal.read_body-got-requires
read_body-got-requires c = search (anchor_laws, rules)

pub returns-then-type_leans : goal.returns-then-type_leans
returns-then-type_leans c = search (anchor_laws, rules)

pub returns : goal.returns
returns c = search (anchor_laws, rules)
