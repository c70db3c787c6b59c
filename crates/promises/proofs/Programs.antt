-- The public calls as programs. Each meets its contract whatever it is lent: it does nothing undefined, and it returns. And each contract is one equation
-- between what the call replied and left, and its definition: `Post` is what the contract asks, as the prover reads it from the code; `lent` has the
-- parameters in their order, `left` the same as the call leaves them.
-- Assumes nothing.
use mathlib.Core.Path.{◌≡◌}
use contract.Lifetimes.{Lfts}
use borrow.Fn.World.{ArgsD, ResD}
use denote.Triple.Clauses.{AtExit}
use Rattle.format.specs.Limits.{variants_to_a_block}
use Rattle.format.specs.Reply.{answer, header_left, header_call, check_left, check_call, read_left, read_call, phases_call, lookup_left, lookup_call}
use Rattle.format.specs.Reply.{view_left, part_of_file, view_call, write_left, write_call, write_phased_call, flip_left, flip_call}
use Rattle.head_check.proofs as head
use Rattle.head_check.specs.contracts as head_lent
use Rattle.call_read.proofs as reading
use Rattle.call_read.specs.contracts as reading_lent
use Rattle.call_write.proofs as writing
use Rattle.call_write.specs.contracts as writing_lent
use Rattle.call_flip.proofs as flipping
use Rattle.call_flip.specs.contracts as flipping_lent
use Rattle.call_rows.specs.Calls.{start_rows_call, row_left, next_row_call}
use Rattle.call_rows.specs.Phased.{phased_row_left, next_phased_row_call}
use Rattle.call_rows.proofs as stepping
use Rattle.call_rows.specs.contracts as stepping_lent

-- "Every input gets a reply": no contract has a `requires`, so each call returns, whatever it is lent
pub record Meets (M : Type 1) : Type 2 where
  pub header_check : head.check.Statement.statement M
  pub check : reading.check.Statement.statement M
  pub read : reading.read.Statement.statement M
  pub read_phases : reading.read_phases.Statement.statement M
  pub lookup : reading.lookup.Statement.statement M
  pub view : reading.view.Statement.statement M
  pub write_record : writing.write_record.Statement.statement M
  pub write_phased_record : writing.phased.write_phased_record.Statement.statement M
  pub flip : flipping.flip.Statement.statement M
  pub start_rows : stepping.start_rows.Statement.statement M
  pub next_row : stepping.next_row.Statement.statement M
  pub next_phased_row : stepping.phased.next_phased_row.Statement.statement M

pub meets : {M : Type 1} → Meets M
meets = record {
  header_check = head.check.Met.met;
  check = reading.check.Met.met;
  read = reading.read.Met.met;
  read_phases = reading.read_phases.Met.met;
  lookup = reading.lookup.Met.met;
  view = reading.view.Met.met;
  write_record = writing.write_record.Met.met;
  write_phased_record = writing.phased.write_phased_record.Met.met;
  flip = flipping.flip.Met.met;
  start_rows = stepping.start_rows.Met.met;
  next_row = stepping.next_row.Met.met;
  next_phased_row = stepping.phased.next_phased_row.Met.met;
}

-- and what it replies and leaves is what its definition gives
pub record Says : Type 0 where
  pub header_check : (κs : Lfts 1) (lent : ArgsD head_lent.check.signature κs) (r : ResD head_lent.check.signature κs) (left : AtExit head_lent.check.ended κs)
      → head.check.Reads.Post κs lent r left → header_left r ≡ header_call variants_to_a_block lent.0.now
  pub check : (κs : Lfts 2) (lent : ArgsD reading_lent.check.signature κs) (r : ResD reading_lent.check.signature κs) (left : AtExit reading_lent.check.ended κs)
      → reading.check.Reads.Post κs lent r left
      → check_left r left.1.0.now ≡ check_call variants_to_a_block lent.0.now lent.1.0.now
  pub read : (κs : Lfts 3) (lent : ArgsD reading_lent.read.signature κs) (r : ResD reading_lent.read.signature κs) (left : AtExit reading_lent.read.ended κs)
      → reading.read.Reads.Post κs lent r left
      → read_left r left.1.1.0.now left.1.1.1.0.now
      ≡ read_call variants_to_a_block lent.0.now lent.1.0 lent.1.1.0.now lent.1.1.1.0.now
  pub read_phases : (κs : Lfts 3) (lent : ArgsD reading_lent.read_phases.signature κs) (r : ResD reading_lent.read_phases.signature κs)
      (left : AtExit reading_lent.read_phases.ended κs) → reading.read_phases.Reads.Post κs lent r left
      → read_left r left.1.1.0.now left.1.1.1.0.now
      ≡ phases_call variants_to_a_block lent.0.now lent.1.0 lent.1.1.0.now lent.1.1.1.0.now
  pub lookup : (κs : Lfts 2) (lent : ArgsD reading_lent.lookup.signature κs) (r : ResD reading_lent.lookup.signature κs) (left : AtExit reading_lent.lookup.ended κs)
      → reading.lookup.Reads.Post κs lent r left
      → lookup_left r left.1.1.1.0.now ≡ lookup_call variants_to_a_block lent.0.now lent.1.0 lent.1.1.0 lent.1.1.1.0.now
  pub view : (κs : Lfts 4) (lent : ArgsD reading_lent.view.signature κs) (r : ResD reading_lent.view.signature κs) (left : AtExit reading_lent.view.ended κs)
      → reading.view.Reads.Post κs lent r left
      → view_left left.1.1.0.now left.1.1.1.0.now left.1.1.1.1.0.now r.now r.ref_ptr
      ≡ part_of_file lent.0.ref_ptr (view_call variants_to_a_block lent.0.now lent.1.0)
  pub write_record : (κs : Lfts 3) (lent : ArgsD writing_lent.write_record.signature κs) (r : ResD writing_lent.write_record.signature κs)
      (left : AtExit writing_lent.write_record.ended κs) → writing.write_record.Reads.Post κs lent r left
      → write_left r left.1.1.1.1.0.now
      ≡ write_call lent.0.now lent.1.0 lent.1.1.0 lent.1.1.1.0.now lent.1.1.1.1.0.now
  pub write_phased_record : (κs : Lfts 4) (lent : ArgsD writing_lent.phased.write_phased_record.signature κs)
      (r : ResD writing_lent.phased.write_phased_record.signature κs) (left : AtExit writing_lent.phased.write_phased_record.ended κs)
      → writing.phased.write_phased_record.Reads.Post κs lent r left
      → write_left r left.1.1.1.1.1.0.now
      ≡ write_phased_call lent.0.now lent.1.0.now lent.1.1.0 lent.1.1.1.0 lent.1.1.1.1.0.now lent.1.1.1.1.1.0.now
  pub flip : (κs : Lfts 3) (lent : ArgsD flipping_lent.flip.signature κs) (r : ResD flipping_lent.flip.signature κs) (left : AtExit flipping_lent.flip.ended κs)
      → flipping.flip.Reads.Post κs lent r left
      → flip_left r left.0.now left.1.1.0.now ≡ flip_call variants_to_a_block lent.0.now lent.1.0.now lent.1.1.0.now
  pub start_rows : (κs : Lfts 2) (lent : ArgsD stepping_lent.start_rows.signature κs) (r : ResD stepping_lent.start_rows.signature κs)
      (left : AtExit stepping_lent.start_rows.ended κs) → stepping.start_rows.Reads.Post κs lent r left
      → answer r ≡ start_rows_call lent.0.now lent.1.0.now
  pub next_row : (κs : Lfts 3) (lent : ArgsD stepping_lent.next_row.signature κs) (r : ResD stepping_lent.next_row.signature κs)
      (left : AtExit stepping_lent.next_row.ended κs) → stepping.next_row.Reads.Post κs lent r left
      → row_left r left.1.1.0.now left.1.1.1.0.now ≡ next_row_call lent.0 lent.1.0.now lent.1.1.0.now lent.1.1.1.0.now
  pub next_phased_row : (κs : Lfts 4) (lent : ArgsD stepping_lent.phased.next_phased_row.signature κs)
      (r : ResD stepping_lent.phased.next_phased_row.signature κs) (left : AtExit stepping_lent.phased.next_phased_row.ended κs)
      → stepping.phased.next_phased_row.Reads.Post κs lent r left
      → phased_row_left r left.1.1.0.now left.1.1.1.0.now left.1.1.1.1.0.now
      ≡ next_phased_row_call lent.0 lent.1.0.now lent.1.1.0.now lent.1.1.1.0.now lent.1.1.1.1.0.now

pub says : Says
says = record {
  header_check = λ κs lent r left p. p;
  check = λ κs lent r left p. p;
  read = λ κs lent r left p. p;
  read_phases = λ κs lent r left p. p;
  lookup = λ κs lent r left p. p;
  view = λ κs lent r left p. p;
  write_record = λ κs lent r left p. p;
  write_phased_record = λ κs lent r left p. p;
  flip = λ κs lent r left p. p;
  start_rows = λ κs lent r left p. p;
  next_row = λ κs lent r left p. p;
  next_phased_row = λ κs lent r left p. p;
}
