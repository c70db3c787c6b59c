-- `write_list::step_size` meets its contract: nothing for the first of a group, else its varint.
-- Assumes nothing.
use borrow.Author.Rules.{rules}
use Rattle.write_list.proofs.CountLaws.{step_size_laws}
use Rattle.write_list.proofs.step_size.Goals as goal

pub returns-then-group-eq0 : goal.returns-then-group-eq0
returns-then-group-eq0 c = search (step_size_laws, rules)

pub returns : goal.returns
returns c = search (step_size_laws, rules)
