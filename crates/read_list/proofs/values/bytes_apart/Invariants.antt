use Rattle.read_list.proofs.RunValues.{FlatBytes}
use Rattle.read_list.proofs.values.bytes_apart.Given as goal

abbrev pub invariant-loop-i : goal.invariant-loop-i
invariant-loop-i l = FlatBytes l.s l.values l.full l.lower l.higher l.most l.i
