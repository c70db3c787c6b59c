-- `read_list::lay_parts` meets its contract.
-- Assumes nothing.
use borrow.Author.Rules.{rules}
use Rattle.read_list.proofs.WholeLaws.{lay_laws}
use Rattle.read_list.proofs.lay_parts.Goals as goal

pub returns-then-steps-s : goal.returns-then-steps-s
returns-then-steps-s c = search (lay_laws, rules)

pub returns-then-unused_bits-ne0 : goal.returns-then-unused_bits-ne0
returns-then-unused_bits-ne0 c = search (lay_laws, rules)

pub returns : goal.returns
returns c = search (lay_laws, rules)
