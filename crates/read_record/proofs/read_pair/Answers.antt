-- `read_record::read_pair` meets its contract.
-- Assumes nothing.
use borrow.Author.Rules.{rules}
use Rattle.format.proofs.Exits.{handed_on}
use Rattle.read_record.proofs.PairLaws.{pair_laws}
use Rattle.read_record.proofs.KnownLaws.{pair_known}
use Rattle.read_record.proofs.read_pair.Goals as goal

pub returns-in_err-pair : goal.returns-in_err-pair
returns-in_err-pair c = rw (handed_on c.from_residual.ensures) (search (pair_laws, c.in_err-pair.was, rules))

pub read_bits-requires-clause-at_in_bounds : goal.read_bits-requires-clause-at_in_bounds
read_bits-requires-clause-at_in_bounds c = search (pair_laws, c.in_ok-pair.was, rules)

pub read_bits-requires-clause-lists : goal.read_bits-requires-clause-lists
read_bits-requires-clause-lists c = pair_known _ _ _ _ _ c.pair_at.ensures _ _ c.in_ok-pair.was _ c.requires.lists

pub returns : goal.returns
returns c = search (pair_laws, c.in_ok-pair.was, rules)
