-- `call_rows::next::anchor_told` meets its contract.
-- Assumes nothing.
use borrow.Author.Rules.{rules}
use Rattle.call_rows.proofs.StateLaws.{told_laws}
use Rattle.call_rows.proofs.next.anchor_told.Goals as goal

pub returns-in-Ok : goal.returns-in-Ok
returns-in-Ok c = search (told_laws, rules)

pub returns-in-12-to-18 : goal.returns-in-12-to-18
returns-in-12-to-18 c = search (told_laws, rules)

pub returns-in-12-to-18-2 : goal.returns-in-12-to-18-2
returns-in-12-to-18-2 c = search (told_laws, rules)

pub returns-in_default : goal.returns-in_default
returns-in_default c = search (told_laws, rules)

pub returns-in_default-2 : goal.returns-in_default-2
returns-in_default-2 c = search (told_laws, rules)

pub returns-in_default-3 : goal.returns-in_default-3
returns-in_default-3 c = search (told_laws, rules)
