use Rattle.head_numbers.proofs.Numbers.{Reading}
use Rattle.head_numbers.proofs.number_of.Given as goal

abbrev pub invariant-loop-i : goal.invariant-loop-i
invariant-loop-i g l = Reading l.file l.at l.i l.number
