-- Two replies that a contract of the writer allows are equal (format, proofs/Unique).
-- Assumes nothing.
use Rattle.std.specs.Prelude.{ℕ, Result}
use Rattle.format.specs.declared.Refusal.{Refusal}
use mathlib.Core.Path.{◌≡◌, sym, ◌∙◌}
use contract.Lifetimes.{Lfts}
use borrow.Fn.World.{ArgsD}
use denote.Triple.Clauses.{AtExit}
use Rattle.format.proofs.Unique.{same_write}
use Rattle.call_write.specs.contracts.write_record as write
use Rattle.call_write.proofs.write_record.Reads as write_contract
use Rattle.call_write.specs.contracts.phased.write_phased_record as phased
use Rattle.call_write.proofs.phased.write_phased_record.Reads as phased_contract

-- the answers and the outputs
pub write_unique : (κs : Lfts 3) (lent : ArgsD write.signature κs) (r s : Result ℕ Refusal) (left left₁ : AtExit write.ended κs)
    → write_contract.Post κs lent r left → write_contract.Post κs lent s left₁
    → (r ≡ s) × (left.1.1.1.1.0.now ≡ left₁.1.1.1.1.0.now)
write_unique κs lent r s left left₁ p q = same_write r s _ _ (p ∙ sym q)

pub phased_unique : (κs : Lfts 4) (lent : ArgsD phased.signature κs) (r s : Result ℕ Refusal) (left left₁ : AtExit phased.ended κs)
    → phased_contract.Post κs lent r left → phased_contract.Post κs lent s left₁
    → (r ≡ s) × (left.1.1.1.1.1.0.now ≡ left₁.1.1.1.1.1.0.now)
phased_unique κs lent r s left left₁ p q = same_write r s _ _ (p ∙ sym q)
