use Rattle.write_bytes.proofs.ArrayLaws.{Going}
use Rattle.write_bytes.proofs.put_bytes.Given as goal

abbrev pub invariant-loop-k : goal.invariant-loop-k
invariant-loop-k l = Going l.array l.categories l.samples l.initial.output l.at l.output l.k
