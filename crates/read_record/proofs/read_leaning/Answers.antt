-- `read_record::read_leaning` meets its contract.
-- Assumes nothing.
use borrow.Author.Rules.{rules}
use Rattle.read_record.proofs.RowLaws.{leaning_laws}
use Rattle.read_record.proofs.read_leaning.Goals as goal

pub returns : goal.returns
returns c = search (leaning_laws, rules)
