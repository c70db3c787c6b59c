-- `call_rows::step_alone` meets its contract.
-- Assumes nothing.
use borrow.Author.Rules.{rules}
use Rattle.call_rows.proofs.StepLaws.{alone_laws}
use Rattle.call_rows.proofs.step_alone.Goals as goal

pub returns : goal.returns
returns c = search (alone_laws, rules)
