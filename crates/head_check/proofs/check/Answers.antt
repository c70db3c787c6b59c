-- `head_check::check` meets its contract.
-- Assumes nothing.
use borrow.Author.Rules.{rules}
use Rattle.head_check.proofs.FixedLaws.{magic_laws}
use Rattle.head_check.proofs.check.Goals as goal

pub returns-then-file-lt12 : goal.returns-then-file-lt12
returns-then-file-lt12 c = search (magic_laws, rules)

pub returns-then-number_at-ne7020 : goal.returns-then-number_at-ne7020
returns-then-number_at-ne7020 c = search (magic_laws, rules)

pub check_fields-requires : goal.check_fields-requires
check_fields-requires c = search (magic_laws, rules)
