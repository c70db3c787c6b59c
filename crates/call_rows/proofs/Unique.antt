-- Of each call: two replies that the contract allows are equal (format, proofs/Unique).
-- Assumes nothing.
use Rattle.std.specs.Prelude.{Result, Ok, Err}
use Rattle.call_rows.specs.declared.Rows.{Rows}
use Rattle.format.specs.declared.Refusal.{Refusal}
use mathlib.Core.Path.{◌≡◌, sym, ap, ap₂, ◌∙◌}
use contract.Lifetimes.{Lfts}
use borrow.Fn.World.{ArgsD}
use denote.Triple.Clauses.{AtExit}
use Rattle.format.specs.Reply.{answer, Read}
use Rattle.format.proofs.Unique.{same_read}
use Rattle.call_rows.specs.declared.RowStep.{RowStep}
use Rattle.call_rows.specs.Calls.{Left, answered, row_left}
use Rattle.call_rows.specs.Phased.{LeftPhased, phased_row_left}
use Rattle.call_rows.specs.contracts.start_rows as start
use Rattle.call_rows.proofs.start_rows.Reads as start_contract
use Rattle.call_rows.specs.contracts.next_row as next
use Rattle.call_rows.proofs.next_row.Reads as next_contract
use Rattle.call_rows.specs.contracts.phased.next_phased_row as phased
use Rattle.call_rows.proofs.phased.next_phased_row.Reads as phased_contract

same_start : (r s : Result Rows Refusal) → answer r ≡ answer s → r ≡ s
same_start (Ok rows) (Ok other) e = cc
same_start (Ok rows) (Err why) e = cc
same_start (Err why) (Ok rows) e = cc
same_start (Err why) (Err other) e = cc

-- the answers
pub start_rows_unique : (κs : Lfts 2) (lent : ArgsD start.signature κs) (r s : Result Rows Refusal) (left left₁ : AtExit start.ended κs)
    → start_contract.Post κs lent r left → start_contract.Post κs lent s left₁ → r ≡ s
start_rows_unique κs lent r s left left₁ p q = same_start r s (p ∙ sym q)

-- all but the state, as a read leaves it
abbrev as_of_read : Left → Read
as_of_read left = record { verdict = left.verdict; output = left.output; work = left.work }

-- the answers with the state, the outputs and the work areas
pub next_row_unique : (κs : Lfts 3) (lent : ArgsD next.signature κs) (r s : RowStep) (left left₁ : AtExit next.ended κs)
    → next_contract.Post κs lent r left → next_contract.Post κs lent s left₁
    → (r ≡ s) × (left.1.1.0.now ≡ left₁.1.1.0.now) × (left.1.1.1.0.now ≡ left₁.1.1.1.0.now)
next_row_unique κs lent r s left left₁ p q =
    let e : row_left r left.1.1.0.now left.1.1.1.0.now ≡ row_left s left₁.1.1.0.now left₁.1.1.1.0.now = p ∙ sym q in
    let same = same_read r.reply s.reply _ _ _ _ (ap as_of_read e) in
    (ap₂ answered (ap (λ (z : Left). z.rows) e) same.0, same.1, same.2)

-- the same, and the phases
pub next_phased_row_unique : (κs : Lfts 4) (lent : ArgsD phased.signature κs) (r s : RowStep) (left left₁ : AtExit phased.ended κs)
    → phased_contract.Post κs lent r left → phased_contract.Post κs lent s left₁
    → (r ≡ s) × (left.1.1.0.now ≡ left₁.1.1.0.now) × (left.1.1.1.0.now ≡ left₁.1.1.1.0.now)
    × (left.1.1.1.1.0.now ≡ left₁.1.1.1.1.0.now)
next_phased_row_unique κs lent r s left left₁ p q =
    let e : phased_row_left r left.1.1.0.now left.1.1.1.0.now left.1.1.1.1.0.now
    ≡ phased_row_left s left₁.1.1.0.now left₁.1.1.1.0.now left₁.1.1.1.1.0.now = p ∙ sym q in
    let row = ap (λ (z : LeftPhased). z.row) e in
    let same = same_read r.reply s.reply _ _ _ _ (ap as_of_read row) in
    (ap₂ answered (ap (λ (z : Left). z.rows) row) same.0, same.1, ap (λ (z : LeftPhased). z.phases) e, same.2)
