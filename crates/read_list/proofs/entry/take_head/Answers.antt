-- `read_list::entry::take_head` meets its contract.
-- Assumes nothing.
use borrow.Author.Rules.{rules}
use Rattle.read_list.proofs.SampleLaws.{head_laws}
use Rattle.read_list.proofs.entry.take_head.Goals as goal

pub returns-then-last-least : goal.returns-then-last-least
returns-then-last-least c = search (head_laws, rules)

pub returns-then-last-n : goal.returns-then-last-n
returns-then-last-n c = search (head_laws, rules)

pub returns : goal.returns
returns c = search (head_laws, rules)
