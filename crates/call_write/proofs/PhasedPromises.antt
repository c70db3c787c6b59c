-- What the phased writer's contract promises its caller: DEMAND 2 for what it wrote, nothing else changed, and which numbers it refuses with.
-- Assumes nothing.
use Rattle.std.specs.Prelude.{Ok, Err}
use mathlib.Core.Path.{◌≡◌, ap, ◌∙◌, subst}
use Prim.Native.Nat.{ℕ, ◌+◌, ◌≤◌}
use native.Mathlib.Omega.{arith}
use mathlib.Core.List.{List, []}
use lib.ListN.{length, take, drop, length-append, length-drop}
use Rattle.format.specs.declared.Refusal.{Refusal}
use Rattle.format.specs.Base.{Out, ok, map_out}
use Rattle.format.specs.Body.{read_body, body_reading}
use Rattle.format.specs.Writer.{write_phased}
use Rattle.format.proofs.Rules.{Holds}
use Rattle.format.proofs.Refuses.{Refuses}
use Rattle.format.proofs.CallRefusals.{PhasedWriteNumber, write_phased_refusals}
use Rattle.format.proofs.WritePhasedLaws.{PhasedReadsBack, write_phased_read}
use Rattle.call_write.proofs.PhasedLaws.{phased_fits}
use Rattle.call_write.proofs.Allowed.{AllowsPhased, Accepted, Refused, allows_phased_count, allows_phased_refused}
use Rattle.call_write.proofs.Promises.{take_first, drop_first}

module _ (categories phases : List ℕ) (number code : ℕ) (anchor output : List ℕ) where
  abbrev out : Out (List ℕ)
  out = write_phased categories phases number code anchor (length output)

  -- ---- a count was replied

  module _ (count : ℕ) (after : List ℕ) (e : AllowsPhased categories phases number code anchor output (Ok count) after) where
    wrote : Accepted out output count after
    wrote = allows_phased_count categories phases number code anchor output count after e

    abbrev bytes : List ℕ
    bytes = wrote.bytes

    fits : (1 ≤ length bytes) × (length bytes ≤ length output)
    fits =
        subst (Holds (λ (bs left : List ℕ). (1 ≤ length bs) × (length bs ≤ length output))) wrote.is
        (phased_fits categories phases number code anchor (length output))

    first : take count after ≡ bytes
    first = take_first count bytes (drop (length bytes) output) after wrote.counted wrote.stored

    -- DEMAND 2: what was written, set as the body of a record of that kind with bit 4, is accepted and read back as the categories and the phases
    pub phased_reads_back : (end : ℕ)
        → map_out (body_reading (length categories) anchor) (read_body end (length categories) anchor (number + 16) (take count after))
        ≡ ok (record { categories = categories; phases = phases }) []
    phased_reads_back end =
        let reads : PhasedReadsBack number anchor categories phases bytes wrote.left
        = subst (Holds (PhasedReadsBack number anchor categories phases)) wrote.is
        (write_phased_read categories phases number code anchor (length output)) in
        rw first (reads.0 end)

    -- 01, Replies: "It replies with the byte count; bytes past it are untouched."
    pub phased_past_untouched : drop count after ≡ drop count output
    phased_past_untouched = drop_first count bytes output after wrote.counted wrote.stored

    pub phased_count_fits : (1 ≤ count) × (count ≤ length output) × (length after ≡ length output)
    phased_count_fits = (
      omega (arith, fits.0, wrote.counted),
      omega (arith, fits.1, wrote.counted),
      ap length wrote.stored ∙ omega (arith, fits.1, length-append bytes (drop (length bytes) output), length-drop (length bytes) output),
    )

  -- ---- a refusal was replied

  module _ (why : Refusal) (after : List ℕ) (e : AllowsPhased categories phases number code anchor output (Err why) after) where
    stopped : Refused out output why after
    stopped = allows_phased_refused categories phases number code anchor output why after e

    -- DEMAND 1: a refusal leaves the output untouched
    pub phased_refused_untouched : after ≡ output
    phased_refused_untouched = stopped.kept

    -- 02, Ask 1: the phased writer refuses with 4, 10, 19, 20 and 22 only
    pub phased_refused_number : PhasedWriteNumber why.number
    phased_refused_number = subst (Refuses PhasedWriteNumber) stopped.is (write_phased_refusals categories phases number code anchor (length output))
