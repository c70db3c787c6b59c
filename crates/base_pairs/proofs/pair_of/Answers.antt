-- `base_pairs::pair_of` meets its contract: each code's row, and none for any other byte.
-- Assumes nothing.
use borrow.Author.Rules.{rules}
use Rattle.format.specs.PairCode.{code_1, code_2, code_3, code_5, code_6, code_9}
use Rattle.base_pairs.proofs.Rows.{row, no_row}
use Rattle.base_pairs.proofs.pair_of.Goals as goal

pub returns-in-1 : goal.returns-in-1
returns-in-1 c = search (row code_1, rules)

pub returns-in-2 : goal.returns-in-2
returns-in-2 c = search (row code_2, rules)

pub returns-in-3 : goal.returns-in-3
returns-in-3 c = search (row code_3, rules)

pub returns-in-5 : goal.returns-in-5
returns-in-5 c = search (row code_5, rules)

pub returns-in-6 : goal.returns-in-6
returns-in-6 c = search (row code_6, rules)

pub returns-in-9 : goal.returns-in-9
returns-in-9 c = search (row code_9, rules)

pub returns-in_default : goal.returns-in_default
returns-in_default c = search (no_row, rules)
