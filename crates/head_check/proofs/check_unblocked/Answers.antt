-- `head_check::check_unblocked` meets its contract.
-- Assumes nothing.
use borrow.Author.Rules.{rules}
use Rattle.head_check.proofs.UnblockedLaws.{unblocked_laws}
use Rattle.head_check.proofs.check_unblocked.Goals as goal

pub flags_clear-requires : goal.flags_clear-requires
flags_clear-requires c = search (unblocked_laws, rules)

pub returns-then-not-flags_clear : goal.returns-then-not-flags_clear
returns-then-not-flags_clear c = search (unblocked_laws, rules)

pub returns-then-first_record-f : goal.returns-then-first_record-f
returns-then-first_record-f c = search (unblocked_laws, rules)

pub returns : goal.returns
returns c = search (unblocked_laws, rules)
