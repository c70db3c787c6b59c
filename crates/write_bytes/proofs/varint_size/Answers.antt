-- `write_bytes::varint_size` meets its contract: one to five bytes, by the number's size.
-- Assumes nothing.
use borrow.Author.Rules.{rules}
use Rattle.write_bytes.proofs.NumberLaws.{size_laws}
use Rattle.write_bytes.proofs.varint_size.Goals as goal

pub returns-then-number-lt128 : goal.returns-then-number-lt128
returns-then-number-lt128 c = search (size_laws, rules)

pub returns-then-number-lt16384 : goal.returns-then-number-lt16384
returns-then-number-lt16384 c = search (size_laws, rules)

pub returns-then-number-lt2097152 : goal.returns-then-number-lt2097152
returns-then-number-lt2097152 c = search (size_laws, rules)

pub returns-then-number-lt268435456 : goal.returns-then-number-lt268435456
returns-then-number-lt268435456 c = search (size_laws, rules)

pub returns : goal.returns
returns c = search (size_laws, rules)
