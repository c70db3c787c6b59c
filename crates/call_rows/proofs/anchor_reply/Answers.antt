-- `call_rows::anchor_reply` meets its contract.
-- Assumes nothing.
use borrow.Author.Rules.{rules}
use Rattle.call_rows.proofs.StateLaws.{reply_laws}
use Rattle.call_rows.proofs.anchor_reply.Goals as goal

pub returns-in-Err : goal.returns-in-Err
returns-in-Err c = search (reply_laws, rules)

pub returns-in_default : goal.returns-in_default
returns-in_default c = search (reply_laws, rules)

pub returns-in_default-2 : goal.returns-in_default-2
returns-in_default-2 c = search (reply_laws, rules)
