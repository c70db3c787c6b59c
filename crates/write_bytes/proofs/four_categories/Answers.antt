-- `write_bytes::four_categories` meets its contract: four numbers of two bits make the definition's byte.
-- Assumes nothing.
use borrow.Author.Rules.{rules}
use Rattle.write_bytes.proofs.ArrayLaws.{byte_laws}
use Rattle.write_bytes.proofs.four_categories.Goals as goal

pub returns : goal.returns
returns c = search (byte_laws, rules)
