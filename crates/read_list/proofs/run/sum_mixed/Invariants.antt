use Rattle.read_list.proofs.RunLaws.{Mixing}
use Rattle.read_list.proofs.run.sum_mixed.Given as goal

abbrev pub invariant-loop-i : goal.invariant-loop-i
invariant-loop-i l = Mixing l.s l.at l.size l.low l.high l.long l.most l.i
