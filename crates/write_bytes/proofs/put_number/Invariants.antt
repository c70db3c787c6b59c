use Rattle.write_bytes.proofs.NumberLaws.{NumberGoing}
use Rattle.write_bytes.proofs.put_number.Given as goal

abbrev pub invariant-loop-place : goal.invariant-loop-place
invariant-loop-place l = NumberGoing l.number l.width l.initial.output l.at l.end l.output l.rest l.place
