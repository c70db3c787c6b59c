-- `read_calls::packed_calls` meets its contract.
-- Assumes nothing.
use borrow.Author.Rules.{rules}
use Rattle.read_calls.proofs.CallBytes.{calls_laws}
use Rattle.read_calls.proofs.packed_calls.Goals as goal

pub loop-b-preserved : goal.loop-b-preserved
loop-b-preserved c = search (calls_laws, rules)

pub returns : goal.returns
returns c = search (calls_laws, rules)
