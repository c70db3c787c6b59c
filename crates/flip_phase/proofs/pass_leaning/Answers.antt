-- `flip_phase::pass_leaning` meets its contract.
-- Assumes nothing.
use borrow.Author.Rules.{rules}
use Rattle.flip_phase.proofs.MainLaws.{leaning_laws}
use Rattle.flip_phase.proofs.pass_leaning.Goals as goal

pub returns-in-Err : goal.returns-in-Err
returns-in-Err c = search (leaning_laws, rules)

pub returns-in-Ok : goal.returns-in-Ok
returns-in-Ok c = search (leaning_laws, rules)
