-- `write_phase::count_bits` meets its contract: each turn of the loop counts one sample's bit.
-- Assumes nothing.
use borrow.Author.Rules.{rules}
use Rattle.write_phase.proofs.CallLaws.{count_laws}
use Rattle.write_phase.proofs.count_bits.Goals as goal

pub loop-i-preserved : goal.loop-i-preserved
loop-i-preserved c = search (count_laws, rules)

pub returns : goal.returns
returns c = search (count_laws, rules)
