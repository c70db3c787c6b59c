-- `call_flip::flip` meets its contract.
-- Assumes nothing.
use borrow.Author.Rules.{rules}
use Rattle.format.proofs.Exits.{handed_on}
use Rattle.call_flip.proofs.FlipLaws.{flip_laws}
use Rattle.call_flip.proofs.flip.Goals as goal

pub returns-in_err-f : goal.returns-in_err-f
returns-in_err-f c = rw (handed_on c.from_residual.ensures) (search (flip_laws, c.in_err-f.was, rules))

pub overflow_add-variants : goal.overflow_add-variants
overflow_add-variants c = search (flip_laws, c.in_ok-f.was, rules)

pub returns-then-set-variants : goal.returns-then-set-variants
returns-then-set-variants c = search (flip_laws, c.in_ok-f.was, rules)

pub returns-then-past_last-ne0 : goal.returns-then-past_last-ne0
returns-then-past_last-ne0 c = search (flip_laws, c.in_ok-f.was, rules)

pub check_records-requires : goal.check_records-requires
check_records-requires c = search (flip_laws, c.in_ok-f.was, rules)

pub returns-in_err-check_records : goal.returns-in_err-check_records
returns-in_err-check_records c =
    rw (handed_on c.from_residual-in_err-check_records.ensures) (search (flip_laws, c.in_ok-f.was, c.in_err-check_records.was, rules))

pub flip_accepted-requires : goal.flip_accepted-requires
flip_accepted-requires c = search (flip_laws, c.in_ok-f.was, c.in_ok-check_records.was, rules)

pub returns : goal.returns
returns c = search (flip_laws, c.in_ok-f.was, c.in_ok-check_records.was, rules)
