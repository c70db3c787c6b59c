-- `base_cursor::Cursor::byte` meets its contract.
-- Assumes nothing.
use borrow.Author.Rules.{rules}
use Rattle.base_cursor.proofs.ByteLaws.{byte_laws}
use Rattle.base_cursor.proofs.Cursor.byte.Goals as goal

pub returns-then-at-s : goal.returns-then-at-s
returns-then-at-s c = search (byte_laws, rules)

pub returns : goal.returns
returns c = search (byte_laws, rules)
