use Rattle.read_calls.proofs.CallBytes.{CountingCalls}
use Rattle.read_calls.proofs.packed_calls.Given as goal

abbrev pub invariant-loop-b : goal.invariant-loop-b
invariant-loop-b l = CountingCalls l.part l.count l.b-index
