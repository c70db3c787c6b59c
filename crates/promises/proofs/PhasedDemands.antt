-- WHAT THE THREE DEMANDS SAY OF PHASES (02, Ask 1): a part of each, which Demands has as its field `phased`. "demands 2 and 3 read categories and phase
-- together": a variant reads as what `read` gives and what the reading of phases gives, and one step of rows gives both. Above each field stands its plain
-- sentence; proofs are below. What a call replies and leaves is its definition in format's specs/Reply, of rows in call_rows' specs/Phased.
-- Assumes nothing.
use Rattle.std.specs.Prelude.{Err}
use mathlib.Core.Path.{◌≡◌, refl}
use mathlib.Core.Logic.{◌↔◌}
use mathlib.Core.Bool.{true, false}
use mathlib.Core.List.{List, [], ◌∷◌, ◌++◌}
use Prim.Native.Nat.{ℕ, min, ◌+◌, ◌≤◌, ◌<◌}
use lib.ListN.{length, take, drop, get_or, replicate}
use lib.Dec.{lit<}
use Rattle.format.specs.declared.FileVariant.{FileVariant}
use Rattle.format.specs.Base.{Bytes, ok, refusal, named, map_out}
use Rattle.format.specs.Limits.{variants_to_a_block}
use Rattle.format.specs.Classes.{header_numbers, record_numbers, phased_writer_numbers}
use Rattle.format.specs.Track.{Track}
use Rattle.format.specs.Phase.{PhaseTrack, exchange_phases}
use Rattle.format.specs.Body.{body_bytes, read_body, body_phases, body_reading}
use Rattle.format.specs.Variant.{no_variant, anchor}
use Rattle.format.specs.Layout.{Layout, layout_bytes, LayoutObeys}
use Rattle.format.specs.File.{File, file_bytes, phase_rows, Obeys, variant_leans}
use Rattle.format.specs.Writer.{write_phased}
use Rattle.format.specs.Reply.{Verdict, keeps_work, samples_of, check_call, Read, out_as, read_call, phases_call, Written, write_phased_call, member, flip_call}
use Rattle.format.proofs.CallRefusals.{read_call_numbers, read_refusals, write_phased_refusals}
use Rattle.call_rows.specs.declared.Rows.{Rows}
use Rattle.call_rows.specs.Calls.{answered, start_rows_call}
use Rattle.call_rows.proofs.RowRefusals.{StepNames}
use Rattle.call_rows.specs.Phased.{LeftPhased, phased_row_left, next_phased_row_call}
use Rattle.promises.proofs.DemandLaws.{Numbered, verdict_numbered, both_numbered, both_names, both_untouched, both_stays}
use Rattle.promises.proofs.CallLaws.{refused_phases, refused_phased_write}
use Rattle.promises.proofs.RecordFaults.{RecordOf}
use Rattle.promises.proofs.CallPlaces.{PlaceIs, AskedFor, phases_place}
use Rattle.promises.proofs.WritePlaces.{PhasedPlaceIs, write_phased_place}
use Rattle.promises.proofs.WorkLeft.{WorkLeft, phases_work}
use Rattle.promises.proofs.CallPromises.{phases_call_reads}
use Rattle.promises.proofs.ReadExactly.{MayRead, read_exactly}
use Rattle.promises.proofs.Readings.{phases_reading}
use Rattle.promises.proofs.PhasedWriteExactly.{PhasesFor, PhasesAllowed, phases_for_exactly, phased_record, MayWritePhased, write_phased_exactly}
use Rattle.promises.proofs.PhasedWriteExactly.{write_phased_gives, phased_written_back}
use Rattle.promises.proofs.WrittenAgain
use Rattle.promises.proofs.RowsAreReads.{from}
use Rattle.promises.proofs.PhasedSteps.{both_called, AsBothRead}
use Rattle.promises.proofs.PhasedRowsAreReads.{Lent, Room, either_walked, phased_rows_are_reads, short_phased_row, no_phased_row_refused}
use Rattle.promises.proofs.FlipCalls.{ReadsExchanged, flip_call_reads, flip_call_others}

abbrev K : ℕ
K = variants_to_a_block

abbrev Accepted : Verdict → Type 0
Accepted reply = reply.refusal.number ≡ 0

abbrev Refused : Verdict → Type 0
Refused reply = Accepted reply → ⊥

-- the calls: what each replies and leaves
abbrev read : List ℕ → FileVariant → List ℕ → List ℕ → Read
read file v output work = read_call K file v output work

abbrev phases_of : List ℕ → FileVariant → List ℕ → List ℕ → Read
phases_of file v output work = phases_call K file v output work

abbrev next_phased_row : Rows → List ℕ → List ℕ → List ℕ → List ℕ → LeftPhased
next_phased_row state file output phases work = next_phased_row_call state file output phases work

abbrev write : List ℕ → List ℕ → ℕ → ℕ → List ℕ → List ℕ → Written
write categories phases kind code anchor output = write_phased_call categories phases kind code anchor output

-- "Every input gets a reply; no caller has to check first. A refusal has a number and a place, names the variant at fault, and leaves every output and the
-- file untouched."
pub record Phased1 : Type 0 where
  -- The reading of phases refuses with 1 to 18 and 23 to 25, as a read does;
  pub phases_numbers_are : (file : List ℕ) (v : FileVariant) (output work : List ℕ) → Bytes file
      → Numbered (header_numbers ++ (10 ∷ 11 ∷ record_numbers)) (phases_of file v output work).verdict
  -- a step that gives phases too with 4, 8 to 18 and 23 to 25, as one that gives categories alone;
  pub next_phased_row_numbers_are : (state : Rows) (file output phases work : List ℕ) → Bytes file
      → Numbered (4 ∷ 8 ∷ 9 ∷ 10 ∷ 11 ∷ record_numbers) (next_phased_row state file output phases work).row.verdict
  -- the writer of phased records with 4, 10, 19, 20 and 22.
  pub write_numbers_are : (categories phases : List ℕ) (kind code : ℕ) (anchor output : List ℕ)
      → Numbered phased_writer_numbers (write categories phases kind code anchor output).verdict
  -- Place and variant are a read's; the writer's 20 and 22 stand at the index of the first category above 3 and of the first phase that is not allowed, and
  -- each of its refusals names 0; what a step names from any state is as of one that gives categories alone.
  pub phases_place_is : (file : List ℕ) (v : FileVariant) (output work : List ℕ) → Bytes file
      → PlaceIs K file (AskedFor v) (RecordOf K v) (phases_of file v output work).verdict.refusal
  pub write_place_is : (categories phases : List ℕ) (kind code : ℕ) (anchor output : List ℕ)
      → PhasedPlaceIs categories phases anchor (write categories phases kind code anchor output).verdict.refusal
  pub next_phased_row_names : (state : Rows) (file output phases work : List ℕ) → Bytes file
      → StepNames state (next_phased_row state file output phases work).row.verdict.refusal
  -- Refused, they leave the output as it was, a step both outputs; the work area is left as a read leaves it, or as a step does.
  pub phases_untouched : (file : List ℕ) (v : FileVariant) (output work : List ℕ) → Refused (phases_of file v output work).verdict
      → (phases_of file v output work).output ≡ output
  pub write_untouched : (categories phases : List ℕ) (kind code : ℕ) (anchor output : List ℕ)
      → Refused (write categories phases kind code anchor output).verdict → (write categories phases kind code anchor output).output ≡ output
  pub phases_leaves : (file : List ℕ) (v : FileVariant) (output work : List ℕ)
      → WorkLeft (samples_of K file) (phases_of file v output work).verdict.refusal.number work (phases_of file v output work).work
  pub next_phased_row_untouched : (state : Rows) (file output phases work : List ℕ) → Bytes file
      → Refused (next_phased_row state file output phases work).row.verdict
      → ((next_phased_row state file output phases work).row.output ≡ output) × ((next_phased_row state file output phases work).phases ≡ phases)
  pub next_phased_row_stays : (state : Rows) (file output phases work : List ℕ) → Bytes file
      → Refused (next_phased_row state file output phases work).row.verdict
      → keeps_work (next_phased_row state file output phases work).row.verdict.refusal.number ≡ true
      → ((next_phased_row state file output phases work).row.rows ≡ state) × ((next_phased_row state file output phases work).row.work ≡ work)

-- "A file is accepted exactly when it obeys the format, and each variant then reads as the format defines. What is written reads back. What is read and
-- written again gives the same bytes", except for tracks with presence bits where no call is unphased: "other tracks with presence bits leave the same-bytes
-- clause".
pub record Phased2 : Type 0 where
  -- The reading of phases is accepted exactly when the header, the variant's record and its anchor's obey, the variant is there, and output and work
  -- area have N bytes.
  pub phases_accepts : (file : List ℕ) (v : FileVariant) (output work : List ℕ) → Bytes file
      → Accepted (phases_of file v output work).verdict ↔ ((row : List ℕ) × MayRead body_phases K file v output work row)
  -- Of a file that obeys it gives the variant's phases in the output's first N bytes, and leaves N zero bytes in the work area.
  pub reads : (f : File) (v : FileVariant) → Obeys K f → v.0 < length f.bodies → (output work : List ℕ)
      → f.samples ≤ length output → f.samples ≤ length work
      → Accepted (phases_of (file_bytes K f) v output work).verdict
      × ((phases_of (file_bytes K f) v output work).output ≡ get_or (phase_rows f.samples [] f.bodies) v.0 [] ++ drop f.samples output)
      × ((phases_of (file_bytes K f) v output work).work ≡ replicate f.samples 0 ++ drop f.samples work)
  -- Started and stepped, by this call or the one for categories alone, the v-th step replies and leaves in both outputs what a read and a reading of phases of
  -- variant v do, refusals too, where all outputs had N bytes;
  pub rows_are_reads : (file work : List ℕ) (state : Rows) → Bytes file → start_rows_call file work ≡ ok state []
      → (lent : ℕ → Lent) (v : ℕ) → ((u : ℕ) → u < v → Room state.fields.samples (lent u))
      → (output phases : List ℕ) → state.fields.samples ≤ length output → state.fields.samples ≤ length phases
      → AsBothRead file work v output phases (both_called file (either_walked file lent (from state work) v) output phases)
  -- where its own are shorter, it is refused with 10, which names M, and leaves all as it was;
  pub short_row : (file work : List ℕ) (state : Rows) → Bytes file → start_rows_call file work ≡ ok state []
      → (lent : ℕ → Lent) (v : ℕ) → ((u : ℕ) → u < v → Room state.fields.samples (lent u))
      → (output phases : List ℕ) → min (length output) (length phases) < state.fields.samples
      → both_called file (either_walked file lent (from state work) v) output phases
      ≡ phased_row_left
      (answered (either_walked file lent (from state work) v).rows (Err (named (no_variant state.fields.variants) (refusal 10 0)))) output phases
      (either_walked file lent (from state work) v).work
  -- and of a file that the whole-file check accepts no step below M is refused, where its own outputs have N bytes too.
  pub no_row_refused : (file work : List ℕ) (state : Rows) → Bytes file → start_rows_call file work ≡ ok state []
      → (lent : ℕ → Lent) (v : ℕ) → ((u : ℕ) → u < v → Room state.fields.samples (lent u))
      → (work₁ : List ℕ) → Accepted (check_call K file work₁).reply.verdict → v < state.fields.variants
      → (output phases : List ℕ) → state.fields.samples ≤ length output → state.fields.samples ≤ length phases
      → Accepted (both_called file (either_walked file lent (from state work) v) output phases).row.verdict
  -- The writer accepts exactly what there is a record and a phase track for that the output has room for,
  pub write_accepts : (categories phases : List ℕ) (kind code : ℕ) (anchor output : List ℕ)
      → Accepted (write categories phases kind code anchor output).verdict
      ↔ ((track : Track) × (t : PhaseTrack) × MayWritePhased categories phases kind code anchor output track t)
  -- and writes them; bytes behind stay.
  pub writes : (categories phases : List ℕ) (kind code : ℕ) (anchor output : List ℕ) (track : Track) (t : PhaseTrack)
      → MayWritePhased categories phases kind code anchor output track t
      → ((write categories phases kind code anchor output).count ≡ length (body_bytes (length categories) (phased_record track t)))
      × ((write categories phases kind code anchor output).output
      ≡ body_bytes (length categories) (phased_record track t) ++ drop (length (body_bytes (length categories) (phased_record track t))) output)
  -- There is such a phase track exactly when the phases are N and none is above 2 or nonzero outside category 1.
  pub phases_allowed : (categories phases : List ℕ)
      → ((t : PhaseTrack) × PhasesFor categories phases t) ↔ ((length phases ≡ length categories) × PhasesAllowed categories phases)
  -- What it wrote is a record of that kind with type bit 4, wherever in a file it ends, and over the same anchor reads back as the categories and phases.
  pub reads_back : (categories phases : List ℕ) (kind code : ℕ) (anchor output : List ℕ) → Accepted (write categories phases kind code anchor output).verdict
      → (end : ℕ)
      → map_out (body_reading (length categories) anchor) (read_body end (length categories) anchor (kind + 16)
      (take (write categories phases kind code anchor output).count (write categories phases kind code anchor output).output))
      ≡ ok (record { categories = categories; phases = phases }) []
  -- What accepted readings gave of a phased variant, written in the record's own kind and code, is the record again, but for the bits that kind 1 holds for
  -- listed samples, if the record stores presence bits only where a call is unphased.
  pub written_again : (file : List ℕ) (l : Layout) (v : FileVariant) → Bytes file → LayoutObeys K l → file ≡ layout_bytes K l
      → (output work lent_output lent_work : List ℕ) → Accepted (read file v output work).verdict
      → (variant_leans l v ≡ true → Accepted (read file (anchor K l.types v) lent_output lent_work).verdict)
      → (phases_output phases_work : List ℕ) → Accepted (phases_of file v phases_output phases_work).verdict
      → WrittenAgain.IsPhasedAgain K file l v (read file v output work) (phases_of file v phases_output phases_work)
      (read file (anchor K l.types v) lent_output lent_work)

-- "Flip any set of variants in the stored bytes ..": "A flip turns each phase bit of a flipped variant, exchanging readings 1 and 2"
pub record Phased3 : Type 0 where
  -- Any reading of phases, before and after: members have 1 and 2 exchanged, and all else that it replies and leaves is as it was;
  pub members_exchanged : (file set work : List ℕ) → Bytes file → Bytes set → Accepted (flip_call K file set work).verdict
      → (v : FileVariant) (output work₁ : List ℕ)
      → ReadsExchanged exchange_phases (member set v) (samples_of K file) (phases_of file v output work₁)
      (phases_of (flip_call K file set work).file v output work₁)
  -- of a variant that is not in the set the reading is the same, also where it leans on a member.
  pub others_as_before : (file set work : List ℕ) → Bytes file → Bytes set → Accepted (flip_call K file set work).verdict
      → (v : FileVariant) (output work₁ : List ℕ) → member set v ≡ false
      → phases_of (flip_call K file set work).file v output work₁ ≡ phases_of file v output work₁

pub phased_1 : Phased1
unfolding phases_call write_phased_call
phased_1 = record {
  phases_numbers_are = λ file v output work y.
      verdict_numbered read_call_numbers refl (out_as body_phases K file v output work) (read_refusals body_phases K file v output work (lit< tt) y);
  next_phased_row_numbers_are = λ state file output phases work y. both_numbered state file output work phases y;
  next_phased_row_names = λ state file output phases work y. both_names state file output work phases y;
  write_numbers_are = λ categories phases kind code anchor output.
      verdict_numbered phased_writer_numbers refl (write_phased categories phases kind code anchor (length output))
      (write_phased_refusals categories phases kind code anchor (length output));
  phases_place_is = λ file v output work y. phases_place K file (lit< tt) y v output work;
  write_place_is = λ categories phases kind code anchor output. write_phased_place categories kind code anchor phases output;
  phases_untouched = refused_phases K;
  write_untouched = refused_phased_write;
  phases_leaves = phases_work K;
  next_phased_row_untouched = λ state file output phases work y h. both_untouched state file output work phases y h;
  next_phased_row_stays = λ state file output phases work y h. both_stays state file output work phases y h;
}

pub phased_2 : Phased2
unfolding phases_call write_phased_call
phased_2 = record {
  phases_accepts = λ file v output work y. read_exactly body_phases K file v output work (lit< tt) y;
  reads = λ f v h there. phases_call_reads K f v (lit< tt) h there;
  rows_are_reads = phased_rows_are_reads;
  short_row = short_phased_row;
  no_row_refused = no_phased_row_refused;
  write_accepts = write_phased_exactly;
  writes = write_phased_gives;
  phases_allowed = phases_for_exactly;
  reads_back = phased_written_back;
  written_again = λ file l v y h w output work lent_output lent_work q k phases_output phases_work q₂.
      WrittenAgain.phased_again K file l (lit< tt) y h w v output work lent_output lent_work q k phases_output phases_work q₂;
}

pub phased_3 : Phased3
unfolding phases_call
phased_3 = record {
  members_exchanged = λ file set work y z q. flip_call_reads K (lit< tt) file set work y z q body_phases exchange_phases (phases_reading K (lit< tt));
  others_as_before = λ file set work y z q. flip_call_others K (lit< tt) file set work y z q body_phases exchange_phases (phases_reading K (lit< tt));
}
