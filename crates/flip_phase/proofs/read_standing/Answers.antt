-- `flip_phase::read_standing` meets its contract.
-- Assumes nothing.
use borrow.Author.Rules.{rules}
use Rattle.flip_phase.proofs.MainLaws.{standing_laws}
use Rattle.flip_phase.proofs.read_standing.Goals as goal

pub returns-in-Err : goal.returns-in-Err
returns-in-Err c = search (standing_laws, rules)

pub returns-in-Ok : goal.returns-in-Ok
returns-in-Ok c = search (standing_laws, rules)
