-- `pgenlist::put_rows` meets its contract: the check's promise holds before each variant.
-- Assumes nothing.
use borrow.Author.Rules.{rules}
use Rattle.pgenlist.proofs.ListingLaws.{rows_laws}
use Rattle.pgenlist.proofs.put_rows.Goals as goal

pub first_row-rows-requires : goal.first_row-rows-requires
first_row-rows-requires g c = search (rows_laws, rules)

pub loop-rows-init : goal.loop-rows-init
loop-rows-init g c = search (rows_laws, rules)

pub take_row-rows-requires : goal.take_row-rows-requires
take_row-rows-requires g c = search (rows_laws, rules)

pub loop-rows-smaller : goal.loop-rows-smaller
loop-rows-smaller g c = search (rows_laws, rules)

pub loop-rows-preserved : goal.loop-rows-preserved
loop-rows-preserved g c = search (rows_laws, c.put_row.auto.row, rules)
