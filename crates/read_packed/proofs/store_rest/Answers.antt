-- `read_packed::store_rest` meets its contract.
-- Assumes nothing.
use borrow.Author.Rules.{rules}
use Rattle.read_packed.proofs.StoreLaws.{rest_laws}
use Rattle.read_packed.proofs.store_rest.Goals as goal

pub loop-k-preserved : goal.loop-k-preserved
loop-k-preserved c = search (rest_laws, rules)

pub returns : goal.returns
returns c = search (rest_laws, rules)
