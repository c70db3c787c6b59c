-- `call_rows::next::state_checked` meets its contract.
-- Assumes nothing.
use borrow.Author.Rules.{rules}
use Rattle.call_rows.proofs.StateLaws.{state_laws}
use Rattle.call_rows.proofs.next.state_checked.Goals as goal

pub returns-then-not-from_1_to : goal.returns-then-not-from_1_to
returns-then-not-from_1_to c = search (state_laws, rules)

pub returns-then-not-from_1_to-2 : goal.returns-then-not-from_1_to-2
returns-then-not-from_1_to-2 c = search (state_laws, rules)

pub returns-then-output-f : goal.returns-then-output-f
returns-then-output-f c = search (state_laws, rules)

pub returns-then-work-f : goal.returns-then-work-f
returns-then-work-f c = search (state_laws, rules)

pub returns-then-f-rows : goal.returns-then-f-rows
returns-then-f-rows c = search (state_laws, rules)

pub returns : goal.returns
returns c = search (state_laws, rules)
