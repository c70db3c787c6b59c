use Rattle.head_columns.proofs.Over.{Over}
use Rattle.head_columns.proofs.bad_type.Given as goal

abbrev pub invariant-loop-j : goal.invariant-loop-j
invariant-loop-j l = Over l.file l.m l.b l.j
