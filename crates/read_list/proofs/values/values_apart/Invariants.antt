use Rattle.read_list.specs.declared.ListRule.TheVariants.{OffPair}
use Rattle.read_list.proofs.RunValues.{Values}
use Rattle.read_list.proofs.values.values_apart.Given as goal

abbrev pub invariant-loop-k : goal.invariant-loop-k
invariant-loop-k l = Values l.s l.values l.m (OffPair l.lower l.higher) l.k
