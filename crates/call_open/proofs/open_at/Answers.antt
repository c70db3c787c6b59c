-- `call_open::open_at` meets its contract.
-- Assumes nothing.
use borrow.Author.Rules.{rules}
use Rattle.format.proofs.Exits.{handed_on}
use Rattle.call_open.proofs.OpenLaws.{open_at_laws}
use Rattle.call_open.proofs.open_at.Goals as goal

pub returns-in_err-f : goal.returns-in_err-f
returns-in_err-f c = rw (handed_on c.from_residual.ensures) (search (open_at_laws, c.in_err-f.was, rules))

pub returns-then-variant-f : goal.returns-then-variant-f
returns-then-variant-f c = search (open_at_laws, c.in_ok-f.was, rules)

pub returns : goal.returns
returns c = search (open_at_laws, c.in_ok-f.was, rules)
