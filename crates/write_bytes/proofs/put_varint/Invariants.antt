use Rattle.write_bytes.proofs.NumberLaws.{VarintGoing}
use Rattle.write_bytes.proofs.put_varint.Given as goal

abbrev pub invariant-loop-rest : goal.invariant-loop-rest
invariant-loop-rest l = VarintGoing l.number l.initial.output l.at l.output l.rest l.place

abbrev pub decreases-loop-rest : goal.decreases-loop-rest
decreases-loop-rest l = l.rest
