-- `write_parts::put_first` meets its contract: by the part: a head, a size byte but for the first group, or nothing.
-- Assumes nothing.
use borrow.Author.Rules.{rules}
use Rattle.write_parts.proofs.EntryLaws.{first_laws}
use Rattle.write_parts.proofs.put_first.Goals as goal

pub put_number-requires : goal.put_number-requires
put_number-requires c = search (first_laws, rules)
