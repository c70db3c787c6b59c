-- What the writer's contract promises its caller: DEMAND 2 for what it wrote, nothing else changed, and which numbers it refuses with.
-- Assumes nothing.
use Rattle.std.specs.Prelude.{Ok, Err}
use mathlib.Core.Path.{◌≡◌, ap, ◌∙◌, subst}
use Prim.Native.Nat.{ℕ, ◌≤◌}
use native.Mathlib.Omega.{arith}
use mathlib.Core.Bool.{true}
use mathlib.Core.List.{List, [], ◌++◌}
use lib.ListN.{length, take, drop, length-append, length-drop}
use lib.Seq.{take-append_seam, drop-append_seam}
use Rattle.format.specs.declared.Refusal.{Refusal}
use Rattle.format.specs.Base.{Bytes, Out, ok, map_out}
use Rattle.format.specs.Limits.{most_samples}
use Rattle.format.specs.Track.{track_bytes}
use Rattle.format.specs.Body.{Body, read_body, body_categories, kind_of, type_leans}
use Rattle.format.specs.Layout.{from_1_to}
use Rattle.format.specs.Writer.{write_record, track_code, cleared}
use Rattle.format.specs.Reply.{write_left, write_call}
use Rattle.format.proofs.Rules.{Holds}
use Rattle.format.proofs.Refuses.{Refuses}
use Rattle.format.proofs.RowLaws.{IsRow}
use Rattle.format.proofs.CallRefusals.{WriteNumber, write_refusals}
use Rattle.format.proofs.WriteBackLaws.{lent_for}
use Rattle.format.proofs.WriteReadLaws.{ReadsBack, write_read, read_write}
use Rattle.call_write.proofs.CallLaws.{write_fits}
use Rattle.call_write.proofs.Allowed.{Allows, Accepted, Refused, allows_count, allows_refused}

pub take_first : (count : ℕ) (bytes rest after : List ℕ) → count ≡ length bytes → after ≡ bytes ++ rest → take count after ≡ bytes
take_first count bytes rest after c e = rw (c, e) (take-append_seam bytes rest)

pub drop_first : (count : ℕ) (bytes output after : List ℕ) → count ≡ length bytes → after ≡ bytes ++ drop (length bytes) output
    → drop count after ≡ drop count output
drop_first count bytes output after c e = rw (c, e) (drop-append_seam bytes (drop (length bytes) output))

module _ (categories : List ℕ) (number code : ℕ) (anchor output : List ℕ) where
  abbrev out : Out (List ℕ)
  out = write_record categories number code anchor (length output)

  -- ---- a count was replied

  module _ (count : ℕ) (after : List ℕ) (e : Allows categories number code anchor output (Ok count) after) where
    wrote : Accepted out output count after
    wrote = allows_count categories number code anchor output count after e

    abbrev bytes : List ℕ
    bytes = wrote.bytes

    fits : (1 ≤ length bytes) × (length bytes ≤ length output)
    fits =
        subst (Holds (λ (bs left : List ℕ). (1 ≤ length bs) × (length bs ≤ length output))) wrote.is
        (write_fits categories number code anchor (length output))

    first : take count after ≡ bytes
    first = take_first count bytes (drop (length bytes) output) after wrote.counted wrote.stored

    -- DEMAND 2: "Categories written in any of the seven main-track kinds read back as themselves." The first `count` bytes of the output, set as the body
    -- of a record of that kind, wherever it ends in a file, are accepted and read back as the categories.
    pub written_reads_back : (end : ℕ)
        → map_out (body_categories (length categories) anchor) (read_body end (length categories) anchor number (take count after)) ≡ ok categories []
    written_reads_back end =
        let reads : ReadsBack number anchor categories bytes wrote.left
        = subst (Holds (ReadsBack number anchor categories)) wrote.is (write_read categories number code anchor (length output)) in
        rw first (reads.0 end)

    -- 01, Replies: "It replies with the byte count; bytes past it are untouched."
    pub past_untouched : drop count after ≡ drop count output
    past_untouched = drop_first count bytes output after wrote.counted wrote.stored

    pub count_fits : (1 ≤ count) × (count ≤ length output) × (length after ≡ length output)
    count_fits = (
      omega (arith, fits.0, wrote.counted),
      omega (arith, fits.1, wrote.counted),
      ap length wrote.stored ∙ omega (arith, fits.1, length-append bytes (drop (length bytes) output), length-drop (length bytes) output),
    )

  -- ---- a refusal was replied

  module _ (why : Refusal) (after : List ℕ) (e : Allows categories number code anchor output (Err why) after) where
    stopped : Refused out output why after
    stopped = allows_refused categories number code anchor output why after e

    -- DEMAND 1: a refusal leaves the output untouched
    pub refused_untouched : after ≡ output
    refused_untouched = stopped.kept

    -- 01, Replies: the writer refuses with 4, 10, 19 and 20 only
    pub refused_number : WriteNumber why.number
    refused_number = subst (Refuses WriteNumber) stopped.is (write_refusals categories number code anchor (length output))

-- DEMAND 2: an accepted record, read and written again in its own kind and pair code, gives the same bytes, except the bits that kind 1 holds for
-- samples it also lists. This is what the call leaves of it, in an output that has room.
pub rewritten : (end N : ℕ) (anchor : List ℕ) (type : ℕ) (bs : List ℕ) (body : Body) (output : List ℕ) → from_1_to most_samples N ≡ true → Bytes bs
    → (type_leans type ≡ true → IsRow N anchor) → read_body end N anchor type bs ≡ ok body [] → length (track_bytes N (cleared body.main)) ≤ length output
    → write_left (Ok (length (track_bytes N (cleared body.main))))
    (track_bytes N (cleared body.main) ++ drop (length (track_bytes N (cleared body.main))) output)
    ≡ write_call (body_categories N anchor body) (kind_of type) (track_code body.main) (lent_for body.main anchor) output
unfolding write_call
rewritten end N anchor type bs body output sized y row e fits = simp (read_write end N anchor type bs body (length output) sized y row e fits)
