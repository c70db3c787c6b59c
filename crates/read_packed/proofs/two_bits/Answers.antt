-- `read_packed::two_bits` meets its contract.
-- Assumes nothing.
use borrow.Author.Rules.{rules}
use Rattle.read_packed.proofs.WidthLaws.{two_bits_are}
use Rattle.read_packed.proofs.two_bits.Goals as goal

pub returns : goal.returns
returns c = search (two_bits_are, rules)
