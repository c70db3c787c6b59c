-- `flip_body::flip_values` meets its contract.
-- Assumes nothing.
use borrow.Author.Rules.{rules}
use Rattle.flip_body.proofs.Ways.{values_laws}
use Rattle.flip_body.proofs.flip_values.Goals.{else-c-s-via-then-c-s+else-count-s, else-c-s-via-else-c-s}
use Rattle.flip_body.proofs.flip_values.Goals as goal

pub returns-then-count-s : goal.returns-then-count-s
returns-then-count-s c = search (values_laws, rules)

pub returns-else-c-s : goal.returns-else-c-s
returns-else-c-s c = elim c.else-c-s.branch [
  | else-c-s-via-then-c-s+else-count-s w ↦ search (values_laws, rules)
  | else-c-s-via-else-c-s w ↦ search (values_laws, rules)
]
