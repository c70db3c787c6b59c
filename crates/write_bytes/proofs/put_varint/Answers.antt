-- `write_bytes::put_varint` meets its contract: each turn of the loop writes one byte of the definition's varint.
-- Assumes nothing.
use borrow.Author.Rules.{rules}
use Rattle.write_bytes.proofs.NumberLaws.{varint_laws}
use Rattle.write_bytes.proofs.put_varint.Goals as goal

pub loop-rest-init : goal.loop-rest-init
loop-rest-init c = search (varint_laws, rules)

pub loop-rest-preserved : goal.loop-rest-preserved
loop-rest-preserved c = search (varint_laws, rules)

pub returns : goal.returns
returns c = search (varint_laws, rules)
