-- `call_write::write_record` meets its contract: a refusal of the checks, a short output, or the record's bytes.
-- Assumes nothing.
use mathlib.Core.Path.{refl}
use borrow.Author.Rules.{rules}
use Rattle.format.proofs.Exits.{passed_on}
use Rattle.call_write.proofs.CallLaws.{call_laws}
use Rattle.call_write.proofs.write_record.Goals as goal

pub returns-in_err-asked : goal.returns-in_err-asked
returns-in_err-asked c = rw (passed_on c.from_residual.ensures refl) (search (call_laws, c.in_err-asked.was, rules))

pub record_size-size-requires : goal.record_size-size-requires
record_size-size-requires c = search (call_laws, c.in_ok-asked.was, rules)

pub returns-then-size-output : goal.returns-then-size-output
returns-then-size-output c = search (call_laws, c.in_ok-asked.was, rules)

pub put_record-requires-clause-asked_fits : goal.put_record-requires-clause-asked_fits
put_record-requires-clause-asked_fits c = search (call_laws, c.in_ok-asked.was, rules)

pub returns : goal.returns
returns c = search (call_laws, c.in_ok-asked.was, rules)
