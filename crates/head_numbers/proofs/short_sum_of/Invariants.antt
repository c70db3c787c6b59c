use Rattle.head_numbers.proofs.Sums.{Summing}
use Rattle.head_numbers.proofs.short_sum_of.Given as goal

abbrev pub invariant-loop-i : goal.invariant-loop-i
invariant-loop-i g l = Summing l.file l.at l.n g.row.W 65535 l.i l.total
