use Rattle.head_numbers.proofs.Sums.{Summing}
use Rattle.head_numbers.proofs.sum_of.Given as goal

abbrev pub invariant-loop-i : goal.invariant-loop-i
invariant-loop-i g l = Summing l.file l.at l.n g.row.W 4294967295 l.i l.total
