-- `read_calls::call_bits` meets its contract.
-- Assumes nothing.
use borrow.Author.Rules.{rules}
use Rattle.read_calls.proofs.CallBytes.{bits_rule}
use Rattle.read_calls.proofs.call_bits.Goals as goal

pub returns : goal.returns
returns c = search (bits_rule, rules)
