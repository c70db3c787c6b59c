-- THE THREE DEMANDS, each as one statement about the public calls: open this file first; the field `phased` of each is its part in PhasedDemands, so that
-- demands 2 and 3 read categories and phases together. Above each field stands its plain sentence; DemandsHold has the proofs, by laws that docs/THEOREMS.md
-- names. What a call replies and leaves is its definition in format's specs/Reply, of rows in call_rows' specs/Calls, and that the program does so is the
-- first thing said. A file, a set and an output are lists of numbers; `Bytes` says that each is below 256: every lent slice of `u8` is so by its type, so
-- what is said of `Bytes` holds of whatever a program is lent.
-- Assumes nothing.
use mathlib.Core.Path.{◌≡◌}
use mathlib.Core.Logic.{◌↔◌}
use mathlib.Core.Bool.{true, false}
use mathlib.Core.List.{List, [], ◌∷◌, ◌++◌}
use Prim.Native.Nat.{ℕ, ◌≤◌, ◌<◌}
use lib.ListN.{length, take, drop, get_or, replicate}
use Rattle.format.specs.declared.FileVariant.{FileVariant}
use Rattle.format.specs.Base.{pick, Below, Bytes, Out, ok, map_out}
use Rattle.format.specs.Limits.{variants_to_a_block}
use Rattle.format.specs.Classes.{header_numbers, record_numbers, writer_numbers}
use Rattle.format.specs.Category.{exchange_all, just_one}
use Rattle.format.specs.Track.{leans, Track, track_bytes}
use Rattle.format.specs.Body.{read_body, body_categories}
use Rattle.format.specs.Variant.{anchor}
use Rattle.format.specs.Layout.{Layout, layout_bytes, record_start, LayoutObeys}
use Rattle.format.specs.File.{File, layout_of_file, file_bytes, rows, Obeys, variant_leans}
use Rattle.format.specs.Reply.{Verdict, verdict, keeps_work, samples_of, Summary, header_call, Checked, check_call, Read, read_call, Lookup, lookup_call}
use Rattle.format.specs.Reply.{View, view_call, Written, write_call, member, Flipped, flip_call}
use Rattle.format.proofs.FlipLaws.{SameLayout}
use Rattle.call_rows.specs.declared.Rows.{Rows}
use Rattle.call_rows.specs.Calls.{Left, start_rows_call, next_row_call}
use Rattle.call_rows.proofs.RowRefusals.{StepNames}
use Rattle.promises.proofs.Programs.{Meets, Says}
use Rattle.promises.proofs.DemandLaws.{OneOf, Numbered}
use Rattle.promises.proofs.PhasedDemands.{Phased1, Phased2, Phased3}
use Rattle.promises.proofs.RecordFaults.{InRecord, RecordOf}
use Rattle.promises.proofs.CallPlaces.{PlaceIs, Never, AskedFor}
use Rattle.promises.proofs.WritePlaces.{WritePlaceIs}
use Rattle.promises.proofs.WorkLeft.{WorkLeft}
use Rattle.promises.proofs.ReadExactly.{MayRead, MayLookUp}
use Rattle.promises.proofs.WriteExactly.{RecordFor, MayWrite, kind_and_code_allowed}
use Rattle.promises.proofs.WrittenAgain.{IsWrittenAgain}
use Rattle.promises.proofs.RowsAreReads.{called, walked, from, AsRead}
use Rattle.promises.proofs.FlipExactly.{MayFlip}
use Rattle.promises.proofs.FlipCalls.{ReadsExchanged}
use Rattle.promises.proofs.KeptPlaces.{Outside}

-- 01, The header: "blocks of 65,536 variants"
abbrev K : ℕ
K = variants_to_a_block

-- 01, Replies: "An accepted call has refusal 0"; that no refused one has it is said by `Numbered`, below
abbrev Accepted : Verdict → Type 0
Accepted reply = reply.refusal.number ≡ 0

abbrev Refused : Verdict → Type 0
Refused reply = Accepted reply → ⊥

-- the calls: what each replies and leaves
abbrev header : List ℕ → Summary
header file = header_call K file

abbrev check : List ℕ → List ℕ → Checked
check file work = check_call K file work

abbrev read : List ℕ → FileVariant → List ℕ → List ℕ → Read
read file v output work = read_call K file v output work

abbrev lookup : List ℕ → FileVariant → ℕ → List ℕ → Lookup
lookup file v sample work = lookup_call K file v sample work

abbrev view : List ℕ → FileVariant → View
view file v = view_call K file v

abbrev write : List ℕ → ℕ → ℕ → List ℕ → List ℕ → Written
write categories kind code anchor output = write_call categories kind code anchor output

abbrev flip : List ℕ → List ℕ → List ℕ → Flipped
flip file set work = flip_call K file set work

abbrev start_rows : List ℕ → List ℕ → Out Rows
start_rows file work = start_rows_call file work

abbrev next_row : Rows → List ℕ → List ℕ → List ℕ → Left
next_row state file output work = next_row_call state file output work

-- "Every input gets a reply; no caller has to check first. A refusal has a number and a place, names the variant at fault, and leaves every output and the
-- file untouched."
pub record Demand1 (M : Type 1) : Type 2 where
  -- Each call, as a program, does nothing undefined and returns, whatever it is lent.
  pub every_input : Meets M
  -- What it replies and leaves in all that it was lent is what its definition gives.
  pub as_defined : Says
  -- An accepted reply has number 0, place 0 and variant 0, and a refused one a number, never 0, that the call can give: header check 1 to 9;
  pub header_numbers_are : (file : List ℕ) → Numbered header_numbers (header file).verdict
  -- whole-file check 1 to 10, 12 to 18 and 23 to 25;
  pub check_numbers_are : (file work : List ℕ) → Bytes file → Numbered (header_numbers ++ (10 ∷ record_numbers)) (check file work).reply.verdict
  -- read and lookup 1 to 18 and 23 to 25;
  pub read_numbers_are : (file : List ℕ) (v : FileVariant) (output work : List ℕ) → Bytes file
      → Numbered (header_numbers ++ (10 ∷ 11 ∷ record_numbers)) (read file v output work).verdict
  pub lookup_numbers_are : (file : List ℕ) (v : FileVariant) (sample : ℕ) (work : List ℕ) → Bytes file
      → Numbered (header_numbers ++ (10 ∷ 11 ∷ record_numbers)) (lookup file v sample work).verdict
  -- writer 4, 10, 19 and 20;
  pub write_numbers_are : (categories : List ℕ) (kind code : ℕ) (anchor output : List ℕ)
      → Numbered writer_numbers (write categories kind code anchor output).verdict
  -- flip those of the whole-file check, and 21;
  pub flip_numbers_are : (file set work : List ℕ) → Bytes file → Numbered (header_numbers ++ (10 ∷ 21 ∷ record_numbers)) (flip file set work).verdict
  -- a start of rows 1 to 10; a step 4, 8 to 18 and 23 to 25, from any state, also one that no start gave.
  pub start_rows_numbers_are : (file work : List ℕ) → Numbered (header_numbers ++ (10 ∷ [])) (verdict (start_rows file work))
  pub next_row_numbers_are : (state : Rows) (file output work : List ℕ) → Bytes file
      → Numbered (4 ∷ 8 ∷ 9 ∷ 10 ∷ 11 ∷ record_numbers) (next_row state file output work).verdict
  -- A view answers by its number alone: 0, or 1 to 9 or 11.
  pub view_numbers_are : (file : List ℕ) (v : FileVariant) → OneOf (header_numbers ++ (11 ∷ [])) (view file v).refusal
  -- The place: 1 to 9 within the file or at its length; 10, 11 and 21 at 0; 12 at the end of the record at fault, 13 to 18 and 23 to 25 at one of its
  -- bytes. The variant: 0 in 1 to 4; M in 5, 6, 7, 9, 10 and 21; in 8 the first whose type is not allowed, and the place is the byte that holds it; in 11
  -- the one that was asked for, or M if it is not below M; in 12 to 18 and 23 to 25 the one whose record is at fault: it is below M, the place lies in its
  -- record, and that record is refused so, read over some row; of a read and a lookup it is the variant that was asked for, or its anchor.
  pub header_place_is : (file : List ℕ) → Bytes file → PlaceIs K file Never Never (header file).verdict.refusal
  pub check_place_is : (file work : List ℕ) → Bytes file → PlaceIs K file Never (InRecord K) (check file work).reply.verdict.refusal
  pub read_place_is : (file : List ℕ) (v : FileVariant) (output work : List ℕ) → Bytes file
      → PlaceIs K file (AskedFor v) (RecordOf K v) (read file v output work).verdict.refusal
  pub lookup_place_is : (file : List ℕ) (v : FileVariant) (sample : ℕ) (work : List ℕ) → Bytes file
      → PlaceIs K file (AskedFor v) (RecordOf K v) (lookup file v sample work).verdict.refusal
  pub view_place_is : (file : List ℕ) (v : FileVariant) → Bytes file → PlaceIs K file (AskedFor v) Never (view file v).refusal
  pub flip_place_is : (file set work : List ℕ) → Bytes file → PlaceIs K file Never (InRecord K) (flip file set work).verdict.refusal
  pub start_rows_place_is : (file work : List ℕ) → Bytes file
      → PlaceIs K file Never Never (verdict (start_rows file work)).refusal
  -- (A step from a start has the place and the variant that a read has, by demand 2.) From any state a step's 4 names 0, its 9, 10 and 11 the state's M, its 8
  -- the state's variant, at the byte that holds its type. Of a record's refusals nothing more is said where no start gave the state.
  pub next_row_names : (state : Rows) (file output work : List ℕ) → Bytes file → StepNames state (next_row state file output work).verdict.refusal
  -- The writer's: 20 at the index of the first category above 3, in the categories or else in the anchor; every other at 0. Each names 0.
  pub write_place_is : (categories : List ℕ) (kind code : ℕ) (anchor output : List ℕ)
      → WritePlaceIs categories anchor (write categories kind code anchor output).verdict.refusal
  -- A refused read, a refused step and a refused write leave the output as it was, a refused flip the file.
  pub read_untouched : (file : List ℕ) (v : FileVariant) (output work : List ℕ) → Refused (read file v output work).verdict
      → (read file v output work).output ≡ output
  pub next_row_untouched : (state : Rows) (file output work : List ℕ) → Bytes file → Refused (next_row state file output work).verdict
      → (next_row state file output work).output ≡ output
  pub write_untouched : (categories : List ℕ) (kind code : ℕ) (anchor output : List ℕ)
      → Refused (write categories kind code anchor output).verdict → (write categories kind code anchor output).output ≡ output
  pub flip_untouched : (file set work : List ℕ) → Refused (flip file set work).verdict → (flip file set work).file ≡ file
  -- "After 1 to 11 and 21 the work area is unchanged; after every other reply its first N bytes are zero and the rest unchanged."
  pub check_leaves : (file work : List ℕ)
      → WorkLeft (samples_of K file) (check file work).reply.verdict.refusal.number work (check file work).work
  pub read_leaves : (file : List ℕ) (v : FileVariant) (output work : List ℕ)
      → WorkLeft (samples_of K file) (read file v output work).verdict.refusal.number work (read file v output work).work
  pub lookup_leaves : (file : List ℕ) (v : FileVariant) (sample : ℕ) (work : List ℕ)
      → WorkLeft (samples_of K file) (lookup file v sample work).verdict.refusal.number work (lookup file v sample work).work
  pub flip_leaves : (file set work : List ℕ)
      → WorkLeft (samples_of K file) (flip file set work).verdict.refusal.number work (flip file set work).work
  -- A step refused with 4 or 8 to 11 leaves the state and the work area as they were.
  pub next_row_stays : (state : Rows) (file output work : List ℕ) → Bytes file → Refused (next_row state file output work).verdict
      → keeps_work (next_row state file output work).verdict.refusal.number ≡ true
      → ((next_row state file output work).rows ≡ state) × ((next_row state file output work).work ≡ work)
  -- The same of the three calls that read, step through and write phases.
  pub phased : Phased1

-- "A file is accepted exactly when it obeys the format, and each variant's categories and phases then read as the format defines. What is written reads
-- back. What is read and written again gives the same bytes, except the bits that kind 1 holds for samples it also lists, and phase tracks with presence
-- bits though every call is phased."
pub record Demand2 : Type 0 where
  -- The header check accepts exactly the bytes of a header and of records in their places that obey.
  pub header_accepts : (file : List ℕ) → Bytes file
      → Accepted (header file).verdict ↔ ((l : Layout) × LayoutObeys K l × (file ≡ layout_bytes K l))
  -- The whole-file check accepts exactly the bytes of a file that obeys, with a work area of N bytes.
  pub check_accepts : (file work : List ℕ) → Bytes file
      → Accepted (check file work).reply.verdict ↔ ((f : File) × Obeys K f × (file ≡ file_bytes K f) × (f.samples ≤ length work))
  -- A read is accepted exactly when the header, the variant's record and its anchor's obey, the variant is there, and output and work area have N bytes;
  pub read_accepts : (file : List ℕ) (v : FileVariant) (output work : List ℕ) → Bytes file
      → Accepted (read file v output work).verdict ↔ ((row : List ℕ) × MayRead body_categories K file v output work row)
  -- a lookup likewise, and when the sample is below N;
  pub lookup_accepts : (file : List ℕ) (v : FileVariant) (sample : ℕ) (work : List ℕ) → Bytes file
      → Accepted (lookup file v sample work).verdict ↔ ((row : List ℕ) × MayLookUp K file v sample work row)
  -- a view exactly when the header obeys and the variant is there, and then it is the record's bytes, from where the record starts in the
  -- file.
  pub view_accepts : (file : List ℕ) (v : FileVariant) → Bytes file
      → ((view file v).refusal.number ≡ 0) ↔ ((l : Layout) × LayoutObeys K l × (file ≡ layout_bytes K l) × (v.0 < length l.bodies))
  pub views : (l : Layout) (v : FileVariant) → LayoutObeys K l → v.0 < length l.bodies → (view (layout_bytes K l) v).part ≡ get_or l.bodies v.0 []
  pub view_starts_at : (l : Layout) (v : FileVariant) → LayoutObeys K l → v.0 < length l.bodies
      → (view (layout_bytes K l) v).start ≡ record_start K l v
  -- Of a file that obeys a read gives the variant's row in the output's first N bytes, and leaves N zero bytes in the work area.
  pub reads : (f : File) (v : FileVariant) → Obeys K f → v.0 < length f.bodies → (output work : List ℕ)
      → f.samples ≤ length output → f.samples ≤ length work
      → Accepted (read (file_bytes K f) v output work).verdict
      × ((read (file_bytes K f) v output work).output ≡ get_or (rows f.samples [] f.bodies) v.0 [] ++ drop f.samples output)
      × ((read (file_bytes K f) v output work).work ≡ replicate f.samples 0 ++ drop f.samples work)
  -- A lookup gives the row's category of the sample.
  pub looks_up : (f : File) (v : FileVariant) → Obeys K f → v.0 < length f.bodies → (sample : ℕ) (work : List ℕ)
      → sample < f.samples → f.samples ≤ length work
      → Accepted (lookup (file_bytes K f) v sample work).verdict
      × ((lookup (file_bytes K f) v sample work).category ≡ get_or (get_or (rows f.samples [] f.bodies) v.0 []) sample 0)
  -- Started and stepped, the v-th step (from 0) replies and leaves in the output what a read of variant v does, refusals too, where each output before had N
  -- bytes;
  pub rows_are_reads : (file work : List ℕ) (state : Rows) → Bytes file → start_rows file work ≡ ok state []
      → (outputs : ℕ → List ℕ) (v : ℕ) → ((u : ℕ) → u < v → state.fields.samples ≤ length (outputs u)) → (output : List ℕ)
      → AsRead file work v output (called file (walked file outputs (from state work) v) output)
  -- and of a file that the whole-file check accepts no step below M is refused, where its own output has N bytes too.
  pub no_row_refused : (file work : List ℕ) → Bytes file → Accepted (check file work).reply.verdict
      → (work₁ : List ℕ) (state : Rows) → start_rows file work₁ ≡ ok state []
      → (outputs : ℕ → List ℕ) (v : ℕ) → v < state.fields.variants → ((u : ℕ) → u < v → state.fields.samples ≤ length (outputs u))
      → (output : List ℕ) → state.fields.samples ≤ length output
      → Accepted (called file (walked file outputs (from state work₁) v) output).verdict
  -- The writer accepts exactly what there is a record for that the output has room for.
  pub write_accepts : (categories : List ℕ) (kind code : ℕ) (anchor output : List ℕ)
      → Accepted (write categories kind code anchor output).verdict ↔ ((t : Track) × MayWrite categories kind code anchor output t)
  -- It writes that record, which has the kind and the pair code, and replies with the count of its bytes; those behind it stay.
  pub writes : (categories : List ℕ) (kind code : ℕ) (anchor output : List ℕ) (t : Track) → MayWrite categories kind code anchor output t
      → ((write categories kind code anchor output).count ≡ length (track_bytes (length categories) t))
      × ((write categories kind code anchor output).output
      ≡ track_bytes (length categories) t ++ drop (length (track_bytes (length categories) t)) output)
  -- Where the anchor is as long as the kind asks and every category is below 4, there is one for kinds 0, 2, 3, 4, 6 and 7 with code 0, for kind 1 with
  -- code 1, 2, 3, 5, 6 or 9, and for no other.
  pub kinds_and_codes : (categories : List ℕ) (kind code : ℕ) (anchor : List ℕ) → length anchor ≡ pick (leans kind) (length categories) 0
      → Below 4 categories → ((t : Track) × RecordFor categories kind code anchor t) ↔ (kind_and_code_allowed kind code ≡ true)
  -- What it wrote is a record of that kind, wherever in a file it ends, and over the same anchor it reads back as the categories.
  pub reads_back : (categories : List ℕ) (kind code : ℕ) (anchor output : List ℕ) → Accepted (write categories kind code anchor output).verdict
      → (end : ℕ)
      → map_out (body_categories (length categories) anchor) (read_body end (length categories) anchor kind
      (take (write categories kind code anchor output).count (write categories kind code anchor output).output)) ≡ ok categories []
  -- Of a file whose header obeys, what an accepted read gave of a variant with no phase track, written in the record's own kind and code against what an
  -- accepted read gave of its anchor, if it leans, is the record again, but for the bits that kind 1 holds for listed samples.
  pub written_again : (file : List ℕ) (l : Layout) (v : FileVariant) → Bytes file → LayoutObeys K l → file ≡ layout_bytes K l
      → (output work lent_output lent_work : List ℕ) → Accepted (read file v output work).verdict
      → (variant_leans l v ≡ true → Accepted (read file (anchor K l.types v) lent_output lent_work).verdict)
      → IsWrittenAgain K file l v (read file v output work) (read file (anchor K l.types v) lent_output lent_work)
  -- Each variant reads as its categories and its phases: the same of the calls that read, step through and write both.
  pub phased : Phased2

-- "Flip any set of variants in the stored bytes: the file is still accepted, with the same lengths and offsets. Members read with categories 0 and 2
-- exchanged, and phases 1 and 2, all others as before. Flipping one set and then a second is flipping the variants in just one of the two."
pub record Demand3 : Type 0 where
  -- A flip is accepted exactly when the file obeys, the set has a bit for each variant and none past the last, and the work area has N bytes.
  pub flip_accepts : (file set work : List ℕ) → Bytes file → Bytes set
      → Accepted (flip file set work).verdict ↔ ((f : File) × MayFlip K file set work f)
  -- The whole-file check accepts what an accepted flip left.
  pub still_accepted : (file set work work₁ : List ℕ) → Bytes file → Bytes set → Accepted (flip file set work).verdict
      → samples_of K file ≤ length work₁ → Accepted (check (flip file set work).file work₁).reply.verdict
  -- The file that it is then has the same mode, M, N, form and flags, and every length and offset;
  pub same_lengths_and_offsets : (file set work : List ℕ) (f g : File) → Bytes file → Obeys K f → file ≡ file_bytes K f
      → Accepted (flip file set work).verdict → Obeys K g → (flip file set work).file ≡ file_bytes K g
      → SameLayout K (layout_of_file f) (layout_of_file g)
  -- it has as many bytes, and only types and record bodies differ: every other byte place has the byte that it had.
  pub same_length : (file set work : List ℕ) → Bytes file → Accepted (flip file set work).verdict
      → length (flip file set work).file ≡ length file
  pub same_elsewhere : (file set work : List ℕ) (f : File) → Bytes file → Obeys K f → file ≡ file_bytes K f → Accepted (flip file set work).verdict
      → (place : ℕ) → Outside K (layout_of_file f) place → get_or (flip file set work).file place 0 ≡ get_or file place 0
  -- Any read, before and after: members have 0 and 2 exchanged, and all else that the read replies and leaves is as it was;
  pub members_exchanged : (file set work : List ℕ) → Bytes file → Bytes set → Accepted (flip file set work).verdict
      → (v : FileVariant) (output work₁ : List ℕ)
      → ReadsExchanged exchange_all (member set v) (samples_of K file) (read file v output work₁) (read (flip file set work).file v output work₁)
  -- of a variant that is not in the set the read is the same.
  pub others_as_before : (file set work : List ℕ) → Bytes file → Bytes set → Accepted (flip file set work).verdict
      → (v : FileVariant) (output work₁ : List ℕ) → member set v ≡ false
      → read (flip file set work).file v output work₁ ≡ read file v output work₁
  -- One set and then a second: both are accepted, and so is the set of the variants in just one of the two, which leaves the same bytes.
  pub just_one_of_two : (file set work second work₁ both work₂ : List ℕ) → Bytes file → Bytes set → Bytes second → Bytes both
      → Accepted (flip file set work).verdict → Accepted (flip file second work₁).verdict
      → length both ≡ length set → ((v : FileVariant) → member both v ≡ just_one (member second v) (member set v)) → samples_of K file ≤ length work₂
      → Accepted (flip (flip file set work).file second work₁).verdict × Accepted (flip file both work₂).verdict
      × ((flip (flip file set work).file second work₁).file ≡ (flip file both work₂).file)
  -- The same set twice: the second flip is accepted, and the file is as it was.
  pub twice_restores : (file set work work₁ : List ℕ) → Bytes file → Bytes set → Accepted (flip file set work).verdict
      → samples_of K file ≤ length work₁
      → Accepted (flip (flip file set work).file set work₁).verdict
      × ((flip (flip file set work).file set work₁).file ≡ file)
  -- Members read with their phases exchanged too, all others as before.
  pub phased : Phased3
