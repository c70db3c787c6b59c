use Rattle.read_list.proofs.FourLaws.{PutUpTo}
use Rattle.read_list.proofs.known.put_four_entries.Given as goal

abbrev pub invariant-loop-j : goal.invariant-loop-j
invariant-loop-j l = PutUpTo l.s l.at l.packed l.last l.initial.row l.row l.sample l.rest l.j
