-- `call_write::check_kind` meets its contract: one law for each answer, in document 01's order.
-- Assumes nothing.
use borrow.Author.Rules.{rules}
use Rattle.call_write.proofs.CheckLaws.{kind_laws}
use Rattle.call_write.proofs.check_kind.Goals as goal
use Rattle.call_write.proofs.check_kind.Goals.{then-samples-eq0-via-then-samples-eq0, then-samples-eq0-via-else-samples-eq0+then-samples-gt-MOST_SAMPLES}

pub returns-then-samples-eq0 : goal.returns-then-samples-eq0
returns-then-samples-eq0 c =
    elim c.then-samples-eq0.branch [
      | then-samples-eq0-via-then-samples-eq0 w ↦ search (kind_laws, rules)
      | then-samples-eq0-via-else-samples-eq0+then-samples-gt-MOST_SAMPLES w ↦ search (kind_laws, rules)
    ]

pub returns-in_default : goal.returns-in_default
returns-in_default c = search (kind_laws, c.in_default.is, rules)

pub returns-then-anchor-anchor_size : goal.returns-then-anchor-anchor_size
returns-then-anchor-anchor_size c = search (kind_laws, rules)

pub returns : goal.returns
returns c = search (kind_laws, rules)
