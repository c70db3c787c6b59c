-- Two replies that the contract allows are equal (format, proofs/Unique).
-- Assumes nothing.
use Rattle.std.specs.Prelude.{Result, ⊤}
use Rattle.format.specs.declared.Refusal.{Refusal}
use mathlib.Core.Path.{◌≡◌, sym, ◌∙◌}
use contract.Lifetimes.{Lfts}
use borrow.Fn.World.{ArgsD}
use denote.Triple.Clauses.{AtExit}
use Rattle.format.proofs.Unique.{same_flip}
use Rattle.call_flip.specs.contracts.flip as flip
use Rattle.call_flip.proofs.flip.Reads as flip_contract

-- the answers, the files and the work areas
pub flip_unique : (κs : Lfts 3) (lent : ArgsD flip.signature κs) (r s : Result ⊤ Refusal) (left left₁ : AtExit flip.ended κs)
    → flip_contract.Post κs lent r left → flip_contract.Post κs lent s left₁
    → (r ≡ s) × (left.0.now ≡ left₁.0.now) × (left.1.1.0.now ≡ left₁.1.1.0.now)
flip_unique κs lent r s left left₁ p q = same_flip r s _ _ _ _ (p ∙ sym q)
