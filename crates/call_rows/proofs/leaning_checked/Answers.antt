-- `call_rows::leaning_checked` meets its contract.
-- Assumes nothing.
use borrow.Author.Rules.{rules}
use Rattle.format.proofs.Exits.{handed_on}
use Rattle.call_rows.proofs.StepLaws.{checked_laws}
use Rattle.call_rows.proofs.leaning_checked.Goals as goal

pub returns-in_err-anchor_reply : goal.returns-in_err-anchor_reply
returns-in_err-anchor_reply c = rw (handed_on c.from_residual.ensures) (search (checked_laws, c.in_err-anchor_reply.was, rules))

pub returns : goal.returns
returns c = search (checked_laws, c.in_ok-anchor_reply.was, rules)
