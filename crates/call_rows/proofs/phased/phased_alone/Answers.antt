-- `call_rows::phased::phased_alone` meets its contract.
-- Assumes nothing.
use borrow.Author.Rules.{rules}
use Rattle.call_rows.proofs.PhasedLaws.{phased_alone_laws}
use Rattle.call_rows.proofs.phased.phased_alone.Goals as goal

pub returns : goal.returns
returns c = search (phased_alone_laws, rules)
