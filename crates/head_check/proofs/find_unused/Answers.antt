-- `head_check::find_unused` meets its contract.
-- Assumes nothing.
use borrow.Author.Rules.{rules}
use Rattle.head_check.proofs.Chain.{seven_laws}
use Rattle.head_check.proofs.find_unused.Goals as goal

pub unused_in-requires : goal.unused_in-requires
unused_in-requires c = search (seven_laws, rules)

pub returns-in-Some : goal.returns-in-Some
returns-in-Some c = search (seven_laws, rules)

pub returns-in-None : goal.returns-in-None
returns-in-None c = search (seven_laws, rules)
