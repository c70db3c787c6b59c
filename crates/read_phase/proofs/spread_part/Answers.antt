-- `read_phase::spread_part` meets its contract.
-- Assumes nothing.
use borrow.Author.Rules.{rules}
use Rattle.read_phase.proofs.SpreadingLaws.{part_laws}
use Rattle.read_phase.proofs.spread_part.Goals as goal

pub returns-then-count_in-eq0-clause-value : goal.returns-then-count_in-eq0-clause-value
returns-then-count_in-eq0-clause-value c = search (part_laws, rules)

pub returns-then-count_in-eq0-clause-output_after : goal.returns-then-count_in-eq0-clause-output_after
returns-then-count_in-eq0-clause-output_after c = search (part_laws, rules)
