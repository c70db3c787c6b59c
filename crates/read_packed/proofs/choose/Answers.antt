-- `read_packed::choose` meets its contract.
-- Assumes nothing.
use borrow.Author.Rules.{rules}
use Rattle.base_rows.proofs.RowLaws.{map_laws}
use Rattle.read_packed.proofs.choose.Goals as goal

pub loop-i-preserved : goal.loop-i-preserved
loop-i-preserved c = search (map_laws, rules)
