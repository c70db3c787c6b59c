-- `call_write::put_pair` meets its contract: the code, the bits, the list, one after another.
-- Assumes nothing.
use borrow.Author.Rules.{rules}
use Rattle.call_write.proofs.SizeLaws.{pair_laws}
use Rattle.call_write.proofs.put_pair.Goals as goal

pub returns : goal.returns
returns c = search (pair_laws, rules)
