-- `flip_file::flip_bodies` meets its contract.
-- Assumes nothing.
use borrow.Author.Rules.{rules}
use Rattle.flip_file.proofs.Turns.{bodies_laws}
use Rattle.flip_file.proofs.flip_bodies.Goals as goal

pub returns-then-not-fits : goal.returns-then-not-fits
returns-then-not-fits c = search (bodies_laws, rules)

pub loop-v-preserved : goal.loop-v-preserved
loop-v-preserved c = search (bodies_laws, rules)

pub returns : goal.returns
returns c = search (bodies_laws, rules)
