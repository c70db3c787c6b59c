-- `write_list::measure` meets its contract: each turn of the loop counts one sample.
-- Assumes nothing.
use borrow.Author.Rules.{rules}
use Rattle.write_list.proofs.CountLaws.{measure_laws}
use Rattle.write_list.proofs.measure.Goals as goal

pub loop-i-preserved : goal.loop-i-preserved
loop-i-preserved c = search (measure_laws, rules)

pub returns : goal.returns
returns c = search (measure_laws, rules)
