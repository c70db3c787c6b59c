-- `flip_phase::flip_phases` meets its contract.
-- Assumes nothing.
use borrow.Author.Rules.{rules}
use Rattle.flip_phase.proofs.FileLaws.{file_laws}
use Rattle.flip_phase.proofs.flip_phases.Goals as goal

pub any_phased-requires : goal.any_phased-requires
any_phased-requires c = search (file_laws, rules)

pub returns : goal.returns
returns c = search (file_laws, rules)
