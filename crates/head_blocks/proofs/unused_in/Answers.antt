-- `head_blocks::unused_in` meets its contract.
-- Assumes nothing.
use borrow.Author.Rules.{rules}
use Rattle.head_blocks.proofs.OneBlock.{unused_laws, flags_amiss}
use Rattle.head_blocks.proofs.Answers.{granted, denied}
use Rattle.head_blocks.proofs.unused_in.Goals as goal

pub types_clear-requires : goal.types_clear-requires
types_clear-requires c = search (unused_laws, rules)

pub returns-then-not-types_clear : goal.returns-then-not-types_clear
returns-then-not-types_clear c = search (unused_laws, rules)

pub flags_clear-requires : goal.flags_clear-requires
flags_clear-requires c = search (unused_laws, rules)

pub overflow_sub-result-then-not-flags_clear : goal.overflow_sub-result-then-not-flags_clear
overflow_sub-result-then-not-flags_clear c = search (unused_laws, rules)

pub returns-then-not-flags_clear : goal.returns-then-not-flags_clear
returns-then-not-flags_clear c = search (flags_amiss, granted c.types_clear.ensures, denied c.flags_clear.ensures, rules)

pub returns : goal.returns
returns c = search (unused_laws, rules)
