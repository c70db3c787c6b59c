-- `head_columns::bad_type` meets its contract: the loop's invariant is `Over`.
-- Assumes nothing.
use Prim.Native.Nat.{◌+◌, ◌/◌, ◌<◌}
use native.Mathlib.Omega.{arith}
use borrow.Author.Rules.{rules}
use Rattle.head_columns.proofs.Over.{over_laws}
use Rattle.head_columns.proofs.bad_type.Goals as goal

pub bad_in_block-requires : goal.bad_in_block-requires
bad_in_block-requires c = search (over_laws, rules)

pub in_file-requires : goal.in_file-requires
in_file-requires c = search (over_laws, rules)

pub returns-in-Some : goal.returns-in-Some
returns-in-Some c =
    let h : c.loop-j.j < (c.args.m + 65535) / 65536 = omega arith in
    search (over_laws, rules)

pub loop-j-preserved : goal.loop-j-preserved
loop-j-preserved c = search (over_laws, rules)

pub returns : goal.returns
returns c = search (over_laws, rules)
