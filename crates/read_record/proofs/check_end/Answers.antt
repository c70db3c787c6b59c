-- `read_record::check_end` meets its contract.
-- Assumes nothing.
use borrow.Author.Rules.{rules}
use Rattle.read_record.proofs.EndLaws.{end_laws}
use Rattle.read_record.proofs.check_end.Goals as goal

pub check_phased_end-requires : goal.check_phased_end-requires
check_phased_end-requires c = search (end_laws, rules)

pub returns : goal.returns
returns c = search (end_laws, rules)
