-- What an accepted call left.
use borrow.Author.Rules.{rules}
use Rattle.pgenlist.proofs.ListingLaws.{taken}
use Rattle.pgenlist.proofs.take_row.Goals as goal

pub returns : goal.returns
returns c = search (taken, rules)
