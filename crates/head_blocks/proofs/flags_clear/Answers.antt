-- `head_blocks::flags_clear` meets its contract.
-- Assumes nothing.
use Rattle.head_blocks.proofs.UnusedLaws.{not_both, absent_flags, full_flags, part_flags}
use Rattle.head_blocks.proofs.flags_clear.Goals.{then-not-stored, else-not-stored}
use Rattle.head_blocks.proofs.flags_clear.Goals as goal

pub returns-then-n-eq0 : goal.returns-then-n-eq0
returns-then-n-eq0 c = elim c.if-not-stored.branch [
  | then-not-stored w ↦ absent_flags c.args.stored c.args.n c.args.place c.args.file.now w.if-not-stored.true c.if-n-eq0.true
  | else-not-stored w ↦ full_flags c.args.stored c.args.n c.args.place c.args.file.now w.if-not-stored.false w.value-is c.if-n-eq0.true
]

pub returns-else-n-eq0 : goal.returns-else-n-eq0
returns-else-n-eq0 c = elim c.if-not-stored.branch [
  | then-not-stored w ↦ absurd (not_both w.if-not-stored.true w.value-is c.if-n-eq0.false)
  | else-not-stored w ↦ part_flags c.args.stored c.args.n c.args.place c.args.file.now w.if-not-stored.false w.value-is c.if-n-eq0.false
]
