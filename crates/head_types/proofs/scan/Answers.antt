-- `head_types::scan` meets its contract: the loop's invariant is `Scanning`.
-- Assumes nothing.
use borrow.Author.Rules.{rules}
use Rattle.head_types.proofs.Scanning.{scan_laws}
use Rattle.head_types.proofs.scan.Goals as goal

pub returns-then-not-type_allowed : goal.returns-then-not-type_allowed
returns-then-not-type_allowed c = search (scan_laws, rules)

pub loop-i-preserved : goal.loop-i-preserved
loop-i-preserved c = search (scan_laws, rules)

pub returns : goal.returns
returns c = search (scan_laws, rules)
