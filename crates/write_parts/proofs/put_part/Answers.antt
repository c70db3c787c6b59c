-- `write_parts::put_part` meets its contract: each turn of the loop writes what the part has for one sample.
-- Assumes nothing.
use borrow.Author.Rules.{rules}
use Rattle.write_parts.proofs.PartLaws.{part_room, part_next, part_laws}
use Rattle.write_parts.proofs.put_part.Goals as goal

pub put_sample-moved-requires-clause-i_in_bounds : goal.put_sample-moved-requires-clause-i_in_bounds
put_sample-moved-requires-clause-i_in_bounds c =
    part_room c.loop-i.invariant _ _ c.sample_at-s.ensures.0 c.sample_at-s.ensures.1 c.loop-i-test.true

pub loop-i-preserved : goal.loop-i-preserved
loop-i-preserved c =
    part_next c.loop-i.invariant _ _ c.sample_at-s.ensures.0 c.sample_at-s.ensures.1 c.loop-i-test.true c.put_sample-moved.ensures

pub returns : goal.returns
returns c = search (part_laws, rules)
