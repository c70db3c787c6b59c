-- `read_phase::put_calls` meets its contract.
-- Assumes nothing.
use borrow.Author.Rules.{rules}
use Rattle.read_phase.proofs.PutLaws.{put_laws}
use Rattle.read_phase.proofs.put_calls.Goals as goal

pub presence_bit-on-requires : goal.presence_bit-on-requires
presence_bit-on-requires c = search (put_laws, rules)

pub bounds-output-k : goal.bounds-output-k
bounds-output-k c = search (put_laws, rules)

pub overflow_add-p : goal.overflow_add-p
overflow_add-p c = rw c.from-p.ensures (search (put_laws, rules))

pub loop-p-smaller : goal.loop-p-smaller
loop-p-smaller c = search (put_laws, rules)

pub loop-p-preserved : goal.loop-p-preserved
loop-p-preserved c = rw c.from-p.ensures (search (put_laws, rules))

pub returns : goal.returns
returns c = search (put_laws, rules)
