-- `read_packed::store_numbers` meets its contract.
-- Assumes nothing.
use borrow.Author.Rules.{rules}
use Rattle.read_packed.proofs.WidthLaws.{width_laws}
use Rattle.read_packed.proofs.StoreLaws.{both_stored}
use Rattle.read_packed.proofs.store_numbers.Goals as goal

pub returns-in-One : goal.returns-in-One
returns-in-One c = search (width_laws, both_stored, rules)

pub returns-in-Two : goal.returns-in-Two
returns-in-Two c = search (width_laws, both_stored, rules)
