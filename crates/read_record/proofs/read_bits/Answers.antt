-- `read_record::read_bits` meets its contract.
-- Assumes nothing.
use borrow.Author.Rules.{rules}
use Rattle.format.proofs.Exits.{handed_on}
use Rattle.read_record.proofs.ListLaws.{list_laws}
use Rattle.read_record.proofs.KnownLaws.{bits_known}
use Rattle.read_record.proofs.read_bits.Goals as goal

pub returns-in_err-next : goal.returns-in_err-next
returns-in_err-next c = rw (handed_on c.from_residual.ensures) (search (list_laws, c.in_err-next.was, rules))

pub put_list-requires-clause-at_in_bounds : goal.put_list-requires-clause-at_in_bounds
put_list-requires-clause-at_in_bounds c = search (list_laws, c.in_ok-next.was, rules)

pub put_list-requires-clause-lists : goal.put_list-requires-clause-lists
put_list-requires-clause-lists c =
    bits_known _ _ _ _ _ _ _ _ c.unpack_pair.ensures _ c.in_ok-next.was c.type_inv.s c.requires.at_in_bounds.0 _ c.requires.lists

pub returns : goal.returns
returns c = search (list_laws, c.in_ok-next.was, rules)
