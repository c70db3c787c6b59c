-- What the accepted check hands on.
use borrow.Author.Rules.{rules}
use Rattle.pgenlist.proofs.ListingLaws.{listed}
use Rattle.pgenlist.proofs.list.Goals as goal

pub put_rows-requires : goal.put_rows-requires
put_rows-requires g c = search (listed, rules)
