-- `call_write::phased::write_phased_record` meets its contract: a refusal of the checks, a short output, or the bytes of the two tracks.
-- Assumes nothing.
use mathlib.Core.Path.{refl}
use borrow.Author.Rules.{rules}
use Rattle.format.proofs.Exits.{passed_on}
use Rattle.call_write.proofs.PhasedLaws.{call_laws}
use Rattle.call_write.proofs.phased.write_phased_record.Goals as goal

pub returns-in_err-asked : goal.returns-in_err-asked
returns-in_err-asked c = rw (passed_on c.from_residual.ensures refl) (search (call_laws, c.in_err-asked.was, rules))

pub record_size-size-requires : goal.record_size-size-requires
record_size-size-requires c = search (call_laws, c.in_ok-asked.was, rules)

pub track_size-track-requires : goal.track_size-track-requires
track_size-track-requires c = search (call_laws, c.in_ok-asked.was, rules)

pub overflow_add-size : goal.overflow_add-size
overflow_add-size c = search (call_laws, c.in_ok-asked.was, rules)

pub returns-then-size-track : goal.returns-then-size-track
returns-then-size-track c = search (call_laws, c.in_ok-asked.was, rules)

pub put_record-at-requires-clause-asked_fits : goal.put_record-at-requires-clause-asked_fits
put_record-at-requires-clause-asked_fits c = search (call_laws, c.in_ok-asked.was, rules)

pub put_track-requires-clause-phases_len : goal.put_track-requires-clause-phases_len
put_track-requires-clause-phases_len c = search (call_laws, c.in_ok-asked.was, rules)

pub returns : goal.returns
returns c = search (call_laws, c.in_ok-asked.was, rules)
