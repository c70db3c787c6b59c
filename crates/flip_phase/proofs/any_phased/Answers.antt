-- `flip_phase::any_phased` meets its contract.
-- Assumes nothing.
use borrow.Author.Rules.{rules}
use Rattle.flip_phase.proofs.FileLaws.{scan_laws}
use Rattle.flip_phase.proofs.any_phased.Goals as goal

pub returns-then-f-lt4 : goal.returns-then-f-lt4
returns-then-f-lt4 c = search (scan_laws, rules)
