-- `read_file::copy_leaning` meets its contract.
-- Assumes nothing.
use borrow.Author.Rules.{rules}
use Rattle.format.proofs.Exits.{handed_on}
use Rattle.read_file.proofs.GivenLaws.{copied_laws}
use Rattle.read_file.proofs.copy_leaning.Goals as goal

pub returns-in_err-read_at : goal.returns-in_err-read_at
returns-in_err-read_at c = rw (handed_on c.from_residual.ensures) (search (copied_laws, c.in_err-read_at.was, rules))

pub returns : goal.returns
returns c = search (copied_laws, c.in_ok-read_at.was, rules)
