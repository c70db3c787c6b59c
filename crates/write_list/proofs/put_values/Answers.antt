-- `write_list::put_values` meets its contract: each turn of the loop packs one sample's value, and the last byte may have room.
-- Assumes nothing.
use borrow.Author.Rules.{rules}
use Rattle.write_list.proofs.ValueLaws.{values_fit, values_four, values_room, values_next, values_laws}
use Rattle.write_list.proofs.put_values.Goals as goal

pub loop-i-init : goal.loop-i-init
loop-i-init c = search (values_laws, rules)

pub write_value-packing-requires-clause-value_bound : goal.write_value-packing-requires-clause-value_bound
write_value-packing-requires-clause-value_bound c =
    (values_four c.loop-i.invariant c.sample_at-s.result.base _ c.sample_at-s.ensures.0, values_fit c.loop-i.invariant)

pub write_value-packing-requires-clause-value_in_bounds : goal.write_value-packing-requires-clause-value_in_bounds
write_value-packing-requires-clause-value_in_bounds c =
    values_room c.loop-i.invariant _ _ c.sample_at-s.ensures.0 c.sample_at-s.ensures.1 c.loop-i-test.true

pub loop-i-preserved : goal.loop-i-preserved
loop-i-preserved c =
    values_next c.loop-i.invariant _ _ c.sample_at-s.ensures.0 c.sample_at-s.ensures.1 c.loop-i-test.true c.write_value-packing.ensures

pub end_packed-requires : goal.end_packed-requires
end_packed-requires c = search (values_laws, rules)

pub returns : goal.returns
returns c = search (values_laws, rules)
