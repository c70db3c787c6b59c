-- `flip_file::flip_types` meets its contract.
-- Assumes nothing.
use borrow.Author.Rules.{rules}
use Rattle.flip_file.proofs.Turns.{types_laws}
use Rattle.flip_file.proofs.flip_types.Goals as goal

pub flip_type-requires : goal.flip_type-requires
flip_type-requires c = search (types_laws, rules)

pub loop-v-preserved : goal.loop-v-preserved
loop-v-preserved c = search (types_laws, rules)

pub returns : goal.returns
returns c = search (types_laws, rules)
