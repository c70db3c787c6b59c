-- Before each variant the check's promise holds of the state and the buffers.
use Rattle.std.proofs.Common.{◌-◌}
use Rattle.pgenlist.proofs.ListingLaws.{Listing}
use Rattle.pgenlist.proofs.put_rows.Given as goal

abbrev pub invariant-loop-rows : goal.invariant-loop-rows
invariant-loop-rows g l = Listing l.file l.f l.initial.work l.initial.row l.work l.row l.rows

abbrev pub decreases-loop-rows : goal.decreases-loop-rows
decreases-loop-rows g l = l.f.variants - l.rows.variant.0
