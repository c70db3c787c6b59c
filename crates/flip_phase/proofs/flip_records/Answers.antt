-- `flip_phase::flip_records` meets its contract.
-- Assumes nothing.
use borrow.Author.Rules.{rules}
use Rattle.flip_phase.proofs.PassLaws.{pass_laws}
use Rattle.flip_phase.proofs.FileLaws.{records_laws}
use Rattle.flip_phase.proofs.flip_records.Goals as goal

pub first_record-start-requires : goal.first_record-start-requires
first_record-start-requires c = search (pass_laws, records_laws, rules)

pub loop-v-init : goal.loop-v-init
loop-v-init c = search (pass_laws, records_laws, rules)

pub overflow_add-end : goal.overflow_add-end
overflow_add-end c = search (pass_laws, records_laws, rules)

pub flip_record-h-requires : goal.flip_record-h-requires
flip_record-h-requires c = search (pass_laws, records_laws, rules)

pub loop-v-preserved : goal.loop-v-preserved
loop-v-preserved c = search (pass_laws, records_laws, rules)
