use lib.ListN.{length}
use Rattle.format.specs.Limits.{variants_to_a_block}
use Rattle.format.specs.Reply.{member}
use Rattle.head_blocks.specs.Parts.{fixed}
use Rattle.flip_file.specs.Passes.{all_bodies}
use Rattle.flip_file.proofs.Turns.{Bodies}
use Rattle.flip_file.proofs.flip_bodies.Given as goal

abbrev pub invariant-loop-v : goal.invariant-loop-v
invariant-loop-v l =
    Bodies (fixed l.f) (member l.set) (all_bodies variants_to_a_block (fixed l.f) (member l.set) l.initial.file) (length l.initial.file)
    l.file l.v l.start l.lent
