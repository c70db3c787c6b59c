-- Of each call: two replies that the contract allows are equal (format, proofs/Unique).
-- Assumes nothing.
use Rattle.std.specs.Prelude.{ℕ, Result, ⊤}
use Rattle.format.specs.declared.Refusal.{Refusal}
use Rattle.format.specs.declared.Fields.{Fields}
use mathlib.Core.Path.{◌≡◌, sym, ◌∙◌}
use contract.Lifetimes.{Lfts}
use borrow.Fn.World.{ArgsD, ResD}
use denote.Triple.Clauses.{AtExit}
use Rattle.format.proofs.Unique.{same_check, same_read, same_lookup, same_view}
use Rattle.call_read.specs.contracts.check as check
use Rattle.call_read.proofs.check.Reads as check_contract
use Rattle.call_read.specs.contracts.read as read
use Rattle.call_read.proofs.read.Reads as read_contract
use Rattle.call_read.specs.contracts.read_phases as read_phases
use Rattle.call_read.proofs.read_phases.Reads as read_phases_contract
use Rattle.call_read.specs.contracts.lookup as lookup
use Rattle.call_read.proofs.lookup.Reads as lookup_contract
use Rattle.call_read.specs.contracts.view as view
use Rattle.call_read.proofs.view.Reads as view_contract

-- the answers and the work areas
pub check_unique : (κs : Lfts 2) (lent : ArgsD check.signature κs) (r s : Result Fields Refusal) (left left₁ : AtExit check.ended κs)
    → check_contract.Post κs lent r left → check_contract.Post κs lent s left₁ → (r ≡ s) × (left.1.0.now ≡ left₁.1.0.now)
check_unique κs lent r s left left₁ p q = same_check r s _ _ (p ∙ sym q)

-- the answers, the outputs and the work areas
pub read_unique : (κs : Lfts 3) (lent : ArgsD read.signature κs) (r s : Result ⊤ Refusal) (left left₁ : AtExit read.ended κs)
    → read_contract.Post κs lent r left → read_contract.Post κs lent s left₁
    → (r ≡ s) × (left.1.1.0.now ≡ left₁.1.1.0.now) × (left.1.1.1.0.now ≡ left₁.1.1.1.0.now)
read_unique κs lent r s left left₁ p q = same_read r s _ _ _ _ (p ∙ sym q)

pub read_phases_unique : (κs : Lfts 3) (lent : ArgsD read_phases.signature κs) (r s : Result ⊤ Refusal) (left left₁ : AtExit read_phases.ended κs)
    → read_phases_contract.Post κs lent r left → read_phases_contract.Post κs lent s left₁
    → (r ≡ s) × (left.1.1.0.now ≡ left₁.1.1.0.now) × (left.1.1.1.0.now ≡ left₁.1.1.1.0.now)
read_phases_unique κs lent r s left left₁ p q = same_read r s _ _ _ _ (p ∙ sym q)

-- the answers and the work areas
pub lookup_unique : (κs : Lfts 2) (lent : ArgsD lookup.signature κs) (r s : Result ℕ Refusal) (left left₁ : AtExit lookup.ended κs)
    → lookup_contract.Post κs lent r left → lookup_contract.Post κs lent s left₁
    → (r ≡ s) × (left.1.1.1.0.now ≡ left₁.1.1.1.0.now)
lookup_unique κs lent r s left left₁ p q = same_lookup r s _ _ (p ∙ sym q)

-- the three lent numbers, the bytes of the part, and where they lie
pub view_unique : (κs : Lfts 4) (lent : ArgsD view.signature κs) (part part₁ : ResD view.signature κs) (left left₁ : AtExit view.ended κs)
    → view_contract.Post κs lent part left → view_contract.Post κs lent part₁ left₁
    → (left.1.1.0.now ≡ left₁.1.1.0.now) × (left.1.1.1.0.now ≡ left₁.1.1.1.0.now)
    × (left.1.1.1.1.0.now ≡ left₁.1.1.1.1.0.now) × (part.now ≡ part₁.now) × (part.ref_ptr ≡ part₁.ref_ptr)
view_unique κs lent part part₁ left left₁ p q = same_view _ _ _ _ _ _ _ _ _ _ (p ∙ sym q)
