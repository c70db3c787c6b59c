use Rattle.head_columns.proofs.OverOffsets.{OverOffsets}
use Rattle.head_columns.proofs.records_end.Given as goal

abbrev pub invariant-loop-j : goal.invariant-loop-j
invariant-loop-j l = OverOffsets l.file l.m l.b l.first l.start l.j
