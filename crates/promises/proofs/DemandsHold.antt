-- The three demands of Demands hold.
-- Assumes nothing.
use Prim.Native.Nat.{ℕ}
use mathlib.Core.Path.{refl}
use lib.ListN.{length}
use lib.Dec.{lit<}
use Rattle.format.specs.Limits.{variants_to_a_block}
use Rattle.format.specs.Classes.{header_numbers, writer_numbers}
use Rattle.format.specs.Category.{exchange_all}
use Rattle.format.specs.Body.{body_categories}
use Rattle.format.specs.Layout.{Layout, fields_of, fixed_of}
use Rattle.format.specs.Header.{read_layout}
use Rattle.format.specs.Writer.{write_record}
use Rattle.format.specs.Reply.{header_call, check_out, check_call, read_out, read_call, lookup_out, lookup_call, view_out, view_call, write_call}
use Rattle.format.specs.Reply.{flip_out, flip_call}
use Rattle.format.proofs.HeaderRefusals.{header_refusals}
use Rattle.format.proofs.CallRefusals.{check_numbers, check_refusals, read_call_numbers, read_refusals, lookup_refusals, view_numbers, view_refusals}
use Rattle.format.proofs.CallRefusals.{write_refusals, flip_numbers, flip_refusals}
use Rattle.call_rows.specs.Calls.{first_row, start_rows_call}
use Rattle.call_rows.proofs.RowRefusals.{start_rows_numbers, start_rows_refusals}
use Rattle.promises.proofs.Programs.{meets, says}
use Rattle.promises.proofs.DemandLaws.{one_of, verdict_numbered, step_numbered, step_names, step_untouched, step_stays, written_back, kept_places, same_layout}
use Rattle.promises.proofs.CallLaws.{refused_read, refused_write, refused_flip, check_exactly}
use Rattle.promises.proofs.CallPlaces.{header_place, check_place, read_place, lookup_place, view_place, flip_place, start_place}
use Rattle.promises.proofs.WritePlaces.{write_place}
use Rattle.promises.proofs.WorkLeft.{check_work, read_work, lookup_work, flip_work}
use Rattle.promises.proofs.CallPromises.{header_call_exactly, view_exactly, view_gives, view_starts, read_call_reads, lookup_call_reads}
use Rattle.promises.proofs.ReadExactly.{read_exactly, lookup_exactly}
use Rattle.promises.proofs.Readings.{categories_reading}
use Rattle.promises.proofs.WriteExactly.{record_for_exactly, write_exactly, write_gives}
use Rattle.promises.proofs.WrittenAgain
use Rattle.promises.proofs.RowsAreReads.{rows_are_reads}
use Rattle.promises.proofs.CheckedRows.{no_row_refused}
use Rattle.promises.proofs.FlipExactly.{flip_exactly}
use Rattle.promises.proofs.FlipCalls.{flip_call_checked, flip_call_reads, flip_call_others, flip_call_xor, flip_call_twice}
use Rattle.promises.proofs.KeptPlaces.{call_same_length}
use Rattle.promises.proofs.PhasedDemands.{phased_1, phased_2, phased_3}
use Rattle.promises.proofs.Demands.{Demand1, Demand2, Demand3}

abbrev K : ℕ
K = variants_to_a_block

pub demand_1 : {M : Type 1} → Demand1 M
unfolding header_call check_call read_call lookup_call view_call write_call flip_call start_rows_call
demand_1 = record {
  every_input = meets;
  as_defined = says;
  header_numbers_are = λ file. verdict_numbered header_numbers refl (read_layout K file) (header_refusals K file);
  check_numbers_are = λ file work y. verdict_numbered check_numbers refl (check_out K file work) (check_refusals K file work (lit< tt) y);
  read_numbers_are = λ file v output work y.
      verdict_numbered read_call_numbers refl (read_out K file v output work) (read_refusals body_categories K file v output work (lit< tt) y);
  lookup_numbers_are = λ file v sample work y.
      verdict_numbered read_call_numbers refl (lookup_out K file v sample work) (lookup_refusals K file v sample work (lit< tt) y);
  view_numbers_are = λ file v. one_of view_numbers (view_out K file v) (view_refusals K file v);
  write_numbers_are = λ categories kind code anchor output.
      verdict_numbered writer_numbers refl (write_record categories kind code anchor (length output))
      (write_refusals categories kind code anchor (length output));
  flip_numbers_are = λ file set work y. verdict_numbered flip_numbers refl (flip_out K file set work) (flip_refusals K file set work (lit< tt) y);
  start_rows_numbers_are = λ file work.
      verdict_numbered start_rows_numbers refl (start_rows_call file work) (start_rows_refusals file work);
  next_row_numbers_are = step_numbered;
  next_row_names = step_names;
  header_place_is = λ file y. header_place K file (lit< tt) y;
  check_place_is = λ file work y. check_place K file (lit< tt) y work;
  read_place_is = λ file v output work y. read_place K file (lit< tt) y v output work;
  lookup_place_is = λ file v sample work y. lookup_place K file (lit< tt) y v sample work;
  view_place_is = λ file v y. view_place K file (lit< tt) y v;
  flip_place_is = λ file set work y. flip_place K file (lit< tt) y set work;
  start_rows_place_is = λ file work y. start_place K file (lit< tt) y work (λ (l : Layout). first_row (fields_of (fixed_of l)));
  write_place_is = write_place;
  read_untouched = refused_read K;
  next_row_untouched = step_untouched;
  write_untouched = refused_write;
  flip_untouched = refused_flip K;
  check_leaves = check_work K;
  read_leaves = read_work K;
  lookup_leaves = lookup_work K;
  flip_leaves = flip_work K;
  next_row_stays = step_stays;
  phased = phased_1;
}

pub demand_2 : Demand2
unfolding read_call
demand_2 = record {
  header_accepts = λ file y. header_call_exactly K file (lit< tt) y;
  check_accepts = λ file work y. check_exactly K file work (lit< tt) y;
  read_accepts = λ file v output work y. read_exactly body_categories K file v output work (lit< tt) y;
  lookup_accepts = λ file v sample work y. lookup_exactly K file v sample work (lit< tt) y;
  view_accepts = λ file v y. view_exactly K file v (lit< tt) y;
  views = λ l v h there. view_gives K l v (lit< tt) h there;
  view_starts_at = λ l v h there. view_starts K l v (lit< tt) h there;
  reads = λ f v h there. read_call_reads K f v (lit< tt) h there;
  looks_up = λ f v h there. lookup_call_reads K f v (lit< tt) h there;
  rows_are_reads = rows_are_reads;
  no_row_refused = no_row_refused;
  write_accepts = write_exactly;
  writes = write_gives;
  kinds_and_codes = record_for_exactly;
  reads_back = written_back;
  written_again = λ file l v y h w. WrittenAgain.written_again K file l (lit< tt) y h w v;
  phased = phased_2;
}

pub demand_3 : Demand3
unfolding read_call
demand_3 = record {
  flip_accepts = λ file set work y z. flip_exactly K file set work (lit< tt) z y;
  still_accepted = λ file set work work₁ y z q r. flip_call_checked K (lit< tt) file set work y z q work₁ r;
  same_lengths_and_offsets = same_layout;
  same_length = call_same_length;
  same_elsewhere = kept_places;
  members_exchanged = λ file set work y z q. flip_call_reads K (lit< tt) file set work y z q body_categories exchange_all (categories_reading K (lit< tt));
  others_as_before = λ file set work y z q. flip_call_others K (lit< tt) file set work y z q body_categories exchange_all (categories_reading K (lit< tt));
  just_one_of_two = λ file set work second work₁ both work₂ y z z₁ z₂ q q₁ n e r.
      flip_call_xor K (lit< tt) file set work y z q second work₁ both work₂ z₁ z₂ q₁ n e r;
  twice_restores = λ file set work work₁ y z q r. flip_call_twice K (lit< tt) file set work y z q work₁ r;
  phased = phased_3;
}
