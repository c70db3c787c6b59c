-- `base_cursor::varint_from` meets its contract.
-- Assumes nothing.
use Rattle.base_cursor.proofs.WithinLaws.{within_laws}
use Rattle.format.proofs.Exits.{passed_on}
use Rattle.std.proofs.Common.{rules}
use Rattle.base_cursor.proofs.+varint_from.Goals as goal

pub returns-in_err-b : goal.returns-in_err-b
returns-in_err-b t c = passed_on c.from_residual.ensures (search (within_laws, c.in_err-b.was, rules))

pub returns-then-b-least : goal.returns-then-b-least
returns-then-b-least t c = search (within_laws, rules)

pub returns-then-b-lt16 : goal.returns-then-b-lt16
returns-then-b-lt16 t c = search (within_laws, rules)

pub returns-then-more-eq0 : goal.returns-then-more-eq0
returns-then-more-eq0 t c = search (within_laws, rules)

pub returns-then-b-lt128 : goal.returns-then-b-lt128
returns-then-b-lt128 t c = search (within_laws, rules)

pub returns-in_err-n : goal.returns-in_err-n
returns-in_err-n t c = passed_on c.from_residual-in_err-n.ensures (search (within_laws, c.in_ok-b.was, c.in_err-n.was, rules))

pub overflow_mul-result : goal.overflow_mul-result
overflow_mul-result t c = search (within_laws, rules)

pub overflow_add-result : goal.overflow_add-result
overflow_add-result t c = search (within_laws, rules)

pub returns : goal.returns
returns t c = search (within_laws, rules)
