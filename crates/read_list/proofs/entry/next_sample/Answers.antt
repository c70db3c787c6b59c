-- `read_list::entry::next_sample` meets its contract.
-- Assumes nothing.
use borrow.Author.Rules.{rules}
use Rattle.read_list.proofs.SampleLaws.{sample_laws}
use Rattle.read_list.proofs.entry.next_sample.Goals as goal

pub returns-then-st-eq0 : goal.returns-then-st-eq0
returns-then-st-eq0 c = search (sample_laws, rules)

pub returns-else-st-eq0 : goal.returns-else-st-eq0
returns-else-st-eq0 c = search (sample_laws, rules)
