-- `base_cursor::Cursor::short` meets its contract.
-- Assumes nothing.
use borrow.Author.Rules.{rules}
use Rattle.base_cursor.proofs.ShortLaws.{short_laws}
use Rattle.base_cursor.proofs.Cursor.short.Goals as goal

pub returns-then-first-s : goal.returns-then-first-s
returns-then-first-s c = search (short_laws, rules)

pub returns-then-low-lt128 : goal.returns-then-low-lt128
returns-then-low-lt128 c = search (short_laws, rules)

pub returns-then-first-s-2 : goal.returns-then-first-s-2
returns-then-first-s-2 c = search (short_laws, rules)

pub returns-then-high-ge128 : goal.returns-then-high-ge128
returns-then-high-ge128 c = search (short_laws, rules)

pub returns-then-high-eq0 : goal.returns-then-high-eq0
returns-then-high-eq0 c = search (short_laws, rules)

pub returns : goal.returns
returns c = search (short_laws, rules)
