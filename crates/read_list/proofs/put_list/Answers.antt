-- `read_list::put_list` meets its contract.
-- Assumes nothing.
use borrow.Author.Rules.{rules}
use Rattle.read_list.proofs.Agrees.{list_laws, list_known}
use Rattle.read_list.proofs.put_list.Goals as goal

pub put_parts-got-requires-clause-lists : goal.put_parts-got-requires-clause-lists
put_parts-got-requires-clause-lists c =
    list_known _ _ _ _ _ c.type_inv.s c.requires.at_in_bounds c.requires.n_in_bounds.0 _ c.requires.lists

pub returns-then-is_err : goal.returns-then-is_err
returns-then-is_err c = search (list_laws, rules)

pub returns-else-is_err : goal.returns-else-is_err
returns-else-is_err c = search (list_laws, rules)
