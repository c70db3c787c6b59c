-- `read_phase::put_phases` meets its contract.
-- Assumes nothing.
use borrow.Author.Rules.{rules}
use Rattle.read_phase.proofs.ThereLaws.{there_laws}
use Rattle.read_phase.proofs.put_phases.Goals as goal

pub first_count-requires : goal.first_count-requires
first_count-requires c = search (there_laws, rules)

pub packed_size-requires : goal.packed_size-requires
packed_size-requires c = search (there_laws, rules)

pub slice_bounds-phased_count-end : goal.slice_bounds-phased_count-end
slice_bounds-phased_count-end c = search (there_laws, rules)

pub phased_count-count-requires : goal.phased_count-count-requires
phased_count-count-requires c = search (there_laws, rules)

pub put_bits-requires-clause-parts_there : goal.put_bits-requires-clause-parts_there
put_bits-requires-clause-parts_there c = search (there_laws, rules)

pub returns : goal.returns
returns c = search (there_laws, rules)
