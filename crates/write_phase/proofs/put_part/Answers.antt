-- `write_phase::put_part` meets its contract: each turn of the loop packs one sample's bit, and the last byte may have room.
-- Assumes nothing.
use borrow.Author.Rules.{rules}
use Rattle.write_phase.proofs.PartLaws.{part_laws}
use Rattle.write_phase.proofs.put_part.Goals as goal

pub loop-i-init : goal.loop-i-init
loop-i-init c = search (part_laws, rules)

pub put_call-packing-requires : goal.put_call-packing-requires
put_call-packing-requires c = search (part_laws, rules)

pub loop-i-preserved : goal.loop-i-preserved
loop-i-preserved c = search (part_laws, rules)

pub end_packed-requires : goal.end_packed-requires
end_packed-requires c = search (part_laws, rules)

pub returns : goal.returns
returns c = search (part_laws, rules)
