use Rattle.write_phase.proofs.CallLaws.{Counting}
use Rattle.write_phase.proofs.count_bits.Given as goal

abbrev pub invariant-loop-i : goal.invariant-loop-i
invariant-loop-i l = Counting l.part l.categories l.phases l.count l.i
