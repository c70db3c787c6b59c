-- `read_phase::put_bits` meets its contract.
-- Assumes nothing.
use borrow.Author.Rules.{rules}
use Rattle.read_phase.proofs.ThereLaws.{both_laws}
use Rattle.read_phase.proofs.put_bits.Goals as goal

pub put_calls-requires-clause-h_in_bounds : goal.put_calls-requires-clause-h_in_bounds
put_calls-requires-clause-h_in_bounds c = search (both_laws, rules)

pub returns : goal.returns
returns c = search (both_laws, rules)
