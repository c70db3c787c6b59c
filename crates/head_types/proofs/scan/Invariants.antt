use Rattle.format.specs.Base.{pick}
use Rattle.format.specs.Packed.{four, eight}
use Rattle.head_types.proofs.Scanning.{Scanning}
use Rattle.head_types.proofs.scan.Given as goal

abbrev pub invariant-loop-i : goal.invariant-loop-i
invariant-loop-i l = Scanning l.file l.at l.n (pick l.half four eight) l.i
