-- `read_record::check_phased_end` meets its contract.
-- Assumes nothing.
use borrow.Author.Rules.{rules}
use Rattle.read_record.proofs.EndLaws.{end_laws}
use Rattle.read_record.proofs.check_phased_end.Goals as goal

pub returns : goal.returns
returns c = search (end_laws, rules)
