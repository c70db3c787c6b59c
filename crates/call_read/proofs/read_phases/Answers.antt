-- `call_read::read_phases` meets its contract.
-- Assumes nothing.
use borrow.Author.Rules.{rules}
use Rattle.format.proofs.Exits.{handed_on}
use Rattle.call_read.proofs.PhasesLaws.{phases_laws}
use Rattle.call_read.proofs.read_phases.Goals as goal

pub returns-in_err-f : goal.returns-in_err-f
returns-in_err-f c = rw (handed_on c.from_residual.ensures) (search (phases_laws, c.in_err-f.was, rules))

pub read_phases-requires-clause-has_variant_row : goal.read_phases-requires-clause-has_variant_row
read_phases-requires-clause-has_variant_row c = search (phases_laws, c.in_ok-f.was, rules)

pub read_phases-requires-clause-samples_in_bounds : goal.read_phases-requires-clause-samples_in_bounds
read_phases-requires-clause-samples_in_bounds c = search (phases_laws, c.in_ok-f.was, rules)

pub returns-in_err-read_phases : goal.returns-in_err-read_phases
returns-in_err-read_phases c = rw (handed_on c.from_residual-in_err-read_phases.ensures) (search (phases_laws, c.in_ok-f.was, c.in_err-read_phases.was, rules))

pub clear-requires : goal.clear-requires
clear-requires c = search (phases_laws, c.in_ok-f.was, c.in_ok-read_phases.was, rules)

pub returns : goal.returns
returns c = search (phases_laws, c.in_ok-f.was, c.in_ok-read_phases.was, rules)
