-- `write_list::put_parts` meets its contract: the parts, one after another, are the definition's list.
-- Assumes nothing.
use borrow.Author.Rules.{rules}
use Rattle.write_list.proofs.ListLaws.{list_laws, room_3, room_4, all_written}
use Rattle.write_list.proofs.put_parts.Goals as goal

pub put_varint-heads-requires : goal.put_varint-heads-requires
put_varint-heads-requires c = search (list_laws, rules)

pub put_part-sizes-requires-clause-categories_in_bounds : goal.put_part-sizes-requires-clause-categories_in_bounds
put_part-sizes-requires-clause-categories_in_bounds c = search (list_laws, rules)

pub put_part-values-requires-clause-categories_in_bounds : goal.put_part-values-requires-clause-categories_in_bounds
put_part-values-requires-clause-categories_in_bounds c = search (list_laws, rules)

-- the later a place, the more it knows: these name the facts, which `search` would not come to
pub put_values-steps-requires-clause-categories_in_bounds : goal.put_values-steps-requires-clause-categories_in_bounds
put_values-steps-requires-clause-categories_in_bounds c =
    room_3 _ _ _ _ _ c.requires.rows_fit.1 c.requires.categories_in_bounds c.put_varint-heads.ensures c.put_part-sizes.ensures c.put_part-values.ensures

pub put_part-requires-clause-categories_in_bounds : goal.put_part-requires-clause-categories_in_bounds
put_part-requires-clause-categories_in_bounds c =
    room_4 _ _ _ _ _ c.requires.rows_fit.1 c.requires.categories_in_bounds c.put_varint-heads.ensures c.put_part-sizes.ensures c.put_part-values.ensures
    c.put_values-steps.ensures

pub returns : goal.returns
returns c =
    all_written _ _ _ _ _ c.requires.rows_fit.1 c.requires.categories_in_bounds c.put_varint-heads.ensures c.put_part-sizes.ensures
    c.put_part-values.ensures c.put_values-steps.ensures c.put_part.ensures
