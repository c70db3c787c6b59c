-- `read_packed::store_octets` meets its contract.
-- Assumes nothing.
use borrow.Author.Rules.{rules}
use Rattle.read_packed.proofs.PutLaws.{octet_step, stored_laws}
use Rattle.read_packed.proofs.store_octets.Goals as goal

pub loop-i-preserved : goal.loop-i-preserved
loop-i-preserved c =
    search (octet_step _ _ _ _ _ _ _ c.loop-i.invariant _ _ _ _ c.put_four-in-loop-i.ensures c.put_four.ensures, rules)

pub returns : goal.returns
returns c = search (stored_laws, rules)
