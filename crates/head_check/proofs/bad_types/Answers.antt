-- `head_check::bad_types` meets its contract.
-- Assumes nothing.
use borrow.Author.Rules.{rules}
use Rattle.head_check.proofs.Chain.{eight_laws}
use Rattle.head_check.proofs.bad_types.Goals as goal

pub bad_type-requires : goal.bad_type-requires
bad_type-requires c = search (eight_laws, rules)

pub returns-in-Some : goal.returns-in-Some
returns-in-Some c = search (eight_laws, rules)

pub returns-in-None : goal.returns-in-None
returns-in-None c = search (eight_laws, rules)
