-- `call_rows::next_row` meets its contract.
-- Assumes nothing.
use borrow.Author.Rules.{rules}
use Rattle.call_rows.proofs.RecordLaws.{in_one_piece}
use Rattle.call_rows.proofs.next_row.Goals as goal

pub returns : goal.returns
returns c = search (in_one_piece, rules)
