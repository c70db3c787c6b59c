use Rattle.format.specs.Base.{pick}
use Rattle.format.specs.Packed.{four, eight}
use Rattle.head_types.proofs.Back.{Backing}
use Rattle.head_types.proofs.nearest_before.Given as goal

abbrev pub invariant-loop-k : goal.invariant-loop-k
invariant-loop-k l = Backing l.file l.at l.fn.i.0 (pick l.half four eight) l.k
