-- `base_rows::exchange_row` meets its contract.
-- Assumes nothing.
use Rattle.base_rows.proofs.RowLaws.{map_laws, front_mapped}
use borrow.Author.Rules.{rules}
use Rattle.base_rows.proofs.exchange_row.Goals as goal

pub loop-category-init : goal.loop-category-init
loop-category-init c = search (map_laws, rules)

pub loop-category-preserved : goal.loop-category-preserved
loop-category-preserved c = search (map_laws, rules)

pub returns : goal.returns
returns c = search (front_mapped, rules)
