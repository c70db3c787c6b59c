-- `read_record::read_sparse` meets its contract.
-- Assumes nothing.
use borrow.Author.Rules.{rules}
use Rattle.read_record.proofs.ListLaws.{list_laws}
use Rattle.read_record.proofs.KnownLaws.{sparse_known}
use Rattle.read_record.proofs.read_sparse.Goals as goal

pub put_list-requires-clause-lists : goal.put_list-requires-clause-lists
put_list-requires-clause-lists c = sparse_known _ _ _ _ _ _ c.fill.ensures _ c.requires.lists

pub returns : goal.returns
returns c = search (list_laws, rules)
