-- `read_packed::one_bit` meets its contract.
-- Assumes nothing.
use borrow.Author.Rules.{rules}
use Rattle.read_packed.proofs.WidthLaws.{one_bit_is}
use Rattle.read_packed.proofs.one_bit.Goals as goal

pub returns : goal.returns
returns c = search (one_bit_is, rules)
