-- `read_list::check::check_group` meets its contract.
-- Assumes nothing.
use borrow.Author.Rules.{rules}
use Rattle.read_list.proofs.RunWalks.{group_laws}
use Rattle.read_list.proofs.check.check_group.Goals as goal

pub returns-in-Some : goal.returns-in-Some
returns-in-Some c = search (group_laws, rules)
