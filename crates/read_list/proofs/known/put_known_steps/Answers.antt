-- `read_list::known::put_known_steps` meets its contract.
-- Assumes nothing.
use borrow.Author.Rules.{rules}
use Rattle.read_list.proofs.KnownWalks.{walks_laws, walks_turn}
use Rattle.read_list.proofs.FourLaws.{fours_laws, fours_on}
use Rattle.read_list.proofs.known.put_known_steps.Goals as goal

pub put_four_entries-last-requires : goal.put_four_entries-last-requires
put_four_entries-last-requires c = search (walks_laws, fours_laws, rules)

pub loop-done-preserved-then-four_next : goal.loop-done-preserved-then-four_next
loop-done-preserved-then-four_next c =
    search (fours_on c.loop-done.invariant c.requires.accepted c.four_next.ensures, c.type_inv.s, c.put_four_entries-last.ensures, rules)

pub overflow_add-last : goal.overflow_add-last
overflow_add-last c = search (walks_laws, fours_laws, rules)

pub bounds-row-last : goal.bounds-row-last
bounds-row-last c = search (walks_laws, fours_laws, rules)

pub loop-done-preserved : goal.loop-done-preserved
loop-done-preserved c =
    walks_turn c.loop-done.invariant c.loop-done-test.true c.requires.accepted c.short.ensures c.in-Some.is c.type_inv.s c.two_bits.ensures
