-- `call_rows::phased::next_phased_row` meets its contract.
-- Assumes nothing.
use borrow.Author.Rules.{rules}
use Rattle.call_rows.proofs.PhasedLaws.{phased_in_one_piece}
use Rattle.call_rows.proofs.phased.next_phased_row.Goals as goal

pub returns : goal.returns
returns c = search (phased_in_one_piece, rules)
