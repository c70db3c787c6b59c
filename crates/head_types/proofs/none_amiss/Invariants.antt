use Rattle.format.specs.Base.{pick}
use Rattle.format.specs.Packed.{four, eight}
use Rattle.head_types.proofs.Flat.{Flat}
use Rattle.head_types.proofs.none_amiss.Given as goal

abbrev pub invariant-loop-k : goal.invariant-loop-k
invariant-loop-k l = Flat l.file l.at l.size (pick l.half four eight) l.worst l.k
