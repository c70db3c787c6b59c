use Rattle.read_list.proofs.RunLaws.{Summing}
use Rattle.read_list.proofs.run.sum_single.Given as goal

abbrev pub invariant-loop-i : goal.invariant-loop-i
invariant-loop-i l = Summing l.s l.at l.count l.sum l.most l.i
