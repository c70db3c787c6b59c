-- `call_rows::next::type_follows` meets its contract.
-- Assumes nothing.
use borrow.Author.Rules.{rules}
use Rattle.call_rows.proofs.StateLaws.{follows_laws}
use Rattle.call_rows.proofs.next.type_follows.Goals as goal

pub returns-then-not-type_leans : goal.returns-then-not-type_leans
returns-then-not-type_leans c = search (follows_laws, rules)

pub returns-then-not-anchor_told : goal.returns-then-not-anchor_told
returns-then-not-anchor_told c = search (follows_laws, rules)

pub returns : goal.returns
returns c = search (follows_laws, rules)
