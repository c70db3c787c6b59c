-- `read_record::past_phases` meets its contract.
-- Assumes nothing.
use borrow.Author.Rules.{rules}
use Rattle.read_record.proofs.EndLaws.{end_laws}
use Rattle.read_record.proofs.past_phases.Goals as goal

pub returns : goal.returns
returns c = search (end_laws, rules)
