-- `read_packed::unpack_pair` meets its contract.
-- Assumes nothing.
use borrow.Author.Rules.{rules}
use Rattle.read_packed.proofs.CheckLaws.{unpack_laws}
use Rattle.read_packed.proofs.unpack_pair.Goals as goal

pub store_numbers-requires : goal.store_numbers-requires
store_numbers-requires c = search (unpack_laws, c.in_ok-end.was, rules)

pub returns-in_err-end : goal.returns-in_err-end
returns-in_err-end c = search (unpack_laws, c.in_err-end.was, rules)

pub returns : goal.returns
returns c = search (unpack_laws, c.in_ok-end.was, rules)
