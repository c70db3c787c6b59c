-- `write_parts::put_entry` meets its contract: the first of a group or another.
-- Assumes nothing.
use borrow.Author.Rules.{rules}
use Rattle.write_parts.proofs.EntryLaws.{entry_laws}
use Rattle.write_parts.proofs.put_entry.Goals as goal

pub put_first-requires-clause-sample_in_bounds : goal.put_first-requires-clause-sample_in_bounds
put_first-requires-clause-sample_in_bounds c = search (entry_laws, rules)

pub returns-then-group-eq0 : goal.returns-then-group-eq0
returns-then-group-eq0 c = search (entry_laws, rules)

pub put_step-requires : goal.put_step-requires
put_step-requires c = search (entry_laws, rules)

pub returns : goal.returns
returns c = search (entry_laws, rules)
