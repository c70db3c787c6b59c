-- `head_columns::records_end` meets its contract: the loop's invariant is `OverOffsets`.
-- Assumes nothing.
use Prim.Native.Nat.{◌+◌, ◌/◌, ◌≤◌, ◌<◌}
use native.Mathlib.Omega.{arith}
use borrow.Author.Rules.{rules}
use Rattle.head_columns.proofs.OverOffsets.{stops, goes_on, offsets_laws}
use Rattle.head_columns.proofs.records_end.Goals as goal

pub loop-j-init : goal.loop-j-init
loop-j-init c = search (offsets_laws, rules)

pub number_at-requires : goal.number_at-requires
number_at-requires c =
    let h : c.loop-j.j < (c.args.m + 65535) / 65536 = omega arith in
    search (offsets_laws, rules)

pub returns-then-number_at-start : goal.returns-then-number_at-start
returns-then-number_at-start c = search (stops c.loop-j.invariant, rules)

pub sum_lengths-start-requires : goal.sum_lengths-start-requires
sum_lengths-start-requires c =
    let h : c.loop-j.j < (c.args.m + 65535) / 65536 = omega arith in
    search (offsets_laws, rules)

pub loop-j-preserved : goal.loop-j-preserved
loop-j-preserved c =
    let h : c.loop-j.j < (c.args.m + 65535) / 65536 = omega arith in
    search (goes_on c.loop-j.invariant, rules)

pub returns : goal.returns
returns c =
    let h : (c.args.m + 65535) / 65536 ≤ c.loop-j.j = omega arith in
    search (offsets_laws, rules)
