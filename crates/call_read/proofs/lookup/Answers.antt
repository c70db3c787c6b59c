-- `call_read::lookup` meets its contract.
-- Assumes nothing.
use borrow.Author.Rules.{rules}
use Rattle.format.proofs.Exits.{handed_on}
use Rattle.call_read.proofs.LookupLaws.{lookup_laws}
use Rattle.call_read.proofs.lookup.Goals as goal

pub returns-in_err-f : goal.returns-in_err-f
returns-in_err-f c = rw (handed_on c.from_residual.ensures) (search (lookup_laws, c.in_err-f.was, rules))

pub returns-then-sample-n : goal.returns-then-sample-n
returns-then-sample-n c = search (lookup_laws, c.in_ok-f.was, rules)

pub read_row-requires : goal.read_row-requires
read_row-requires c = search (lookup_laws, c.in_ok-f.was, rules)

pub returns-in_err-read_row : goal.returns-in_err-read_row
returns-in_err-read_row c = rw (handed_on c.from_residual-in_err-read_row.ensures) (search (lookup_laws, c.in_ok-f.was, c.in_err-read_row.was, rules))

pub bounds-work-sample : goal.bounds-work-sample
bounds-work-sample c = search (lookup_laws, c.in_ok-f.was, c.in_ok-read_row.was, rules)

pub clear-requires : goal.clear-requires
clear-requires c = search (lookup_laws, c.in_ok-f.was, c.in_ok-read_row.was, rules)

pub returns : goal.returns
returns c = search (lookup_laws, c.in_ok-f.was, c.in_ok-read_row.was, rules)
