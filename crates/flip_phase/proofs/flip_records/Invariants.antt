use lib.ListN.{length}
use Rattle.format.specs.Limits.{variants_to_a_block}
use Rattle.format.specs.Reply.{member}
use Rattle.flip_phase.specs.AllRecords.{phases_flipped}
use Rattle.flip_phase.proofs.PassLaws.{Turning}
use Rattle.flip_phase.proofs.flip_records.Given as goal

abbrev pub invariant-loop-v : goal.invariant-loop-v
invariant-loop-v l =
    Turning (member l.set) l.f (phases_flipped variants_to_a_block (member l.set) l.initial.file) (length l.initial.file)
    l.initial.row l.file l.row l.start l.v l.h
