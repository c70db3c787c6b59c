-- `flip_phase::flip_record` meets its contract.
-- Assumes nothing.
use borrow.Author.Rules.{rules}
use Rattle.flip_phase.proofs.TurnLaws.{turn_laws}
use Rattle.flip_phase.proofs.flip_record.Goals as goal

pub flip_track-requires : goal.flip_track-requires
flip_track-requires c = search (turn_laws, rules)

pub returns-then-turn : goal.returns-then-turn
returns-then-turn c = search (turn_laws, rules)

pub returns-else-turn : goal.returns-else-turn
returns-else-turn c = search (turn_laws, rules)

pub flip_track-requires-then-turn-2 : goal.flip_track-requires-then-turn-2
flip_track-requires-then-turn-2 c = search (turn_laws, rules)

pub returns-then-turn-2 : goal.returns-then-turn-2
returns-then-turn-2 c = search (turn_laws, rules)

pub returns-then-leant : goal.returns-then-leant
returns-then-leant c = search (turn_laws, rules)

pub returns : goal.returns
returns c = search (turn_laws, rules)
