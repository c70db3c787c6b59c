-- `base_cursor::Cursor::varint` meets its contract.
-- Assumes nothing.
use borrow.Author.Rules.{rules}
use Rattle.base_cursor.proofs.ShortLaws.{varint_laws}
use Rattle.base_cursor.proofs.Cursor.varint.Goals as goal

pub returns-in-Some : goal.returns-in-Some
returns-in-Some c = search (varint_laws, rules)

pub returns-in-None : goal.returns-in-None
returns-in-None c = search (varint_laws, rules)
