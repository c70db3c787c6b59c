-- `head_places::anchor_of` meets its contract.
-- Assumes nothing.
use borrow.Author.Rules.{rules}
use Rattle.head_places.proofs.InBlock.{anchor_laws}
use Rattle.head_places.proofs.anchor_of.Goals as goal

pub nearest_before-requires : goal.nearest_before-requires
nearest_before-requires c = search (anchor_laws, rules)

pub in_file-requires : goal.in_file-requires
in_file-requires c = search (anchor_laws, rules)

pub returns : goal.returns
returns c = search (anchor_laws, rules)
