-- `write_bytes::packed_number` meets its contract: a category or a bit, and 0 past the last sample.
-- Assumes nothing.
use borrow.Author.Rules.{rules}
use Rattle.write_bytes.proofs.ArrayLaws.{number_at_laws}
use Rattle.write_bytes.proofs.packed_number.Goals as goal

pub returns-in-Categories : goal.returns-in-Categories
returns-in-Categories c = search (number_at_laws, rules)

pub returns-in-Bits : goal.returns-in-Bits
returns-in-Bits c = search (number_at_laws, rules)
