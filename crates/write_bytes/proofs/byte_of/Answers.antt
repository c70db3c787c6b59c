-- `write_bytes::byte_of` meets its contract: by the array: four categories, or two halves of four bits.
-- Assumes nothing.
use borrow.Author.Rules.{rules}
use Rattle.write_bytes.proofs.ArrayLaws.{byte_laws}
use Rattle.write_bytes.proofs.byte_of.Goals as goal

pub returns-in-Bits : goal.returns-in-Bits
returns-in-Bits c = search (byte_laws, rules)
