-- `read_list::read_count` meets its contract.
-- Assumes nothing.
use borrow.Author.Rules.{rules}
use Rattle.format.proofs.Exits.{passed_on}
use Rattle.read_list.proofs.WholeLaws.{count_laws}
use Rattle.read_list.proofs.read_count.Goals as goal

pub returns-in_err-m : goal.returns-in_err-m
returns-in_err-m c = passed_on c.from_residual.ensures (search (count_laws, c.in_err-m.was, rules))

pub returns-then-m-n : goal.returns-then-m-n
returns-then-m-n c = search (count_laws, c.in_ok-m.was, rules)

pub returns : goal.returns
returns c = search (count_laws, c.in_ok-m.was, rules)
