-- `head_blocks::types_clear` meets its contract.
-- Assumes nothing.
use Rattle.head_blocks.proofs.UnusedLaws.{not_both, whole_types, even_types, odd_types}
use Rattle.head_blocks.proofs.types_clear.Goals.{then-not-half, else-not-half}
use Rattle.head_blocks.proofs.types_clear.Goals as goal

pub returns-then-n-eq0 : goal.returns-then-n-eq0
returns-then-n-eq0 c = elim c.if-not-half.branch [
  | then-not-half w ↦ whole_types c.args.half c.args.n c.args.place c.args.file.now w.if-not-half.true c.if-n-eq0.true
  | else-not-half w ↦ even_types c.args.half c.args.n c.args.place c.args.file.now w.if-not-half.false w.value-is c.if-n-eq0.true
]

pub returns-else-n-eq0 : goal.returns-else-n-eq0
returns-else-n-eq0 c = elim c.if-not-half.branch [
  | then-not-half w ↦ absurd (not_both w.if-not-half.true w.value-is c.if-n-eq0.false)
  | else-not-half w ↦ odd_types c.args.half c.args.n c.args.place c.args.file.now w.if-not-half.false w.value-is c.if-n-eq0.false
]
