use lib.ListN.{length}
use Rattle.format.specs.Limits.{variants_to_a_block}
use Rattle.format.specs.Reply.{member}
use Rattle.head_blocks.specs.Parts.{fixed}
use Rattle.flip_file.specs.Passes.{all_types}
use Rattle.flip_file.proofs.Turns.{Types}
use Rattle.flip_file.proofs.flip_types.Given as goal

abbrev pub invariant-loop-v : goal.invariant-loop-v
invariant-loop-v l =
    Types (fixed l.f) (member l.set) (all_types variants_to_a_block (fixed l.f) (member l.set) l.initial.file) (length l.initial.file)
    l.file l.v l.lent
