-- `call_rows::phased::next_phased_row_in` meets its contract.
-- Assumes nothing.
use borrow.Author.Rules.{rules}
use Rattle.call_rows.proofs.PhasedLaws.{next_phased_laws}
use Rattle.call_rows.proofs.phased.next_phased_row_in.Goals as goal

pub phased_leaning-requires-clause-row_ready : goal.phased_leaning-requires-clause-row_ready
phased_leaning-requires-clause-row_ready c = search (next_phased_laws, rules)

pub returns-then-type_leans : goal.returns-then-type_leans
returns-then-type_leans c = search (next_phased_laws, rules)

pub phased_alone-requires-clause-row_ready : goal.phased_alone-requires-clause-row_ready
phased_alone-requires-clause-row_ready c = search (next_phased_laws, rules)

pub returns-in-Err : goal.returns-in-Err
returns-in-Err c = search (next_phased_laws, rules)

pub returns-else-type_leans : goal.returns-else-type_leans
returns-else-type_leans c = search (next_phased_laws, rules)
