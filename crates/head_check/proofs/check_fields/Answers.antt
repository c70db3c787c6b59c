-- `head_check::check_fields` meets its contract.
-- Assumes nothing.
use borrow.Author.Rules.{rules}
use Rattle.head_check.proofs.FixedLaws.{passed_laws, ready}
use Rattle.head_check.proofs.check_fields.Goals as goal

pub returns-then-not-mode_covered : goal.returns-then-not-mode_covered
returns-then-not-mode_covered c = search (passed_laws, rules)

pub returns-then-not-from_1_to : goal.returns-then-not-from_1_to
returns-then-not-from_1_to c = search (passed_laws, rules)

pub returns-then-not-from_1_to-2 : goal.returns-then-not-from_1_to-2
returns-then-not-from_1_to-2 c = search (passed_laws, rules)

pub returns-then-not-form_allowed : goal.returns-then-not-form_allowed
returns-then-not-form_allowed c = search (passed_laws, rules)

pub check_arrays-requires : goal.check_arrays-requires
check_arrays-requires c = search (ready _ c.requires.2, passed_laws)

pub returns : goal.returns
returns c = search (passed_laws, rules)
