-- `flip_file::flip_accepted` meets its contract.
-- Assumes nothing.
use borrow.Author.Rules.{rules}
use Rattle.flip_file.proofs.AcceptedLaws.{accepted_laws}
use Rattle.flip_file.proofs.flip_accepted.Goals as goal

pub flip_main_tracks-requires : goal.flip_main_tracks-requires
flip_main_tracks-requires c = search (accepted_laws, rules)

pub returns : goal.returns
returns c = search (accepted_laws, rules)
