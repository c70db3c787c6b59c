use lib.ListN.{take}
use Rattle.read_phase.proofs.CountLaws.{CountingParts}
use Rattle.read_phase.proofs.heterozygous_count.Given as goal

abbrev pub invariant-loop-part : goal.invariant-loop-part
invariant-loop-part l = CountingParts (take l.n l.row) l.part-iterator.rest.now l.rest l.part-iterator.size l.count
