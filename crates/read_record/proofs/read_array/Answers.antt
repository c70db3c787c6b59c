-- `read_record::read_array` meets its contract.
-- Assumes nothing.
use borrow.Author.Rules.{rules}
use Rattle.read_record.proofs.RowLaws.{array_laws}
use Rattle.read_record.proofs.read_array.Goals as goal

pub returns : goal.returns
returns c = search (array_laws, rules)
