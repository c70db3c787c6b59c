-- `read_calls::count_pair` meets its contract.
-- Assumes nothing.
use borrow.Author.Rules.{rules}
use Rattle.format.proofs.Exits.{handed_on}
use Rattle.read_calls.proofs.CountedTrackLaws.{pair_laws}
use Rattle.read_calls.proofs.count_pair.Goals as goal

pub returns-in_err-pair : goal.returns-in_err-pair
returns-in_err-pair c = rw (handed_on c.from_residual.ensures) (search (pair_laws, c.in_err-pair.was, rules))

pub count_under_code-requires : goal.count_under_code-requires
count_under_code-requires c = search (pair_laws, c.in_ok-pair.was, rules)

pub returns : goal.returns
returns c = search (pair_laws, c.in_ok-pair.was, rules)
