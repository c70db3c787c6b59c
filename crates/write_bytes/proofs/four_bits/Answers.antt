-- `write_bytes::four_bits` meets its contract: four numbers of one bit make half of the definition's byte.
-- Assumes nothing.
use borrow.Author.Rules.{rules}
use Rattle.write_bytes.proofs.ArrayLaws.{byte_laws}
use Rattle.write_bytes.proofs.four_bits.Goals as goal

pub returns : goal.returns
returns c = search (byte_laws, rules)
