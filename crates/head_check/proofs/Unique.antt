-- Two replies that the contract allows are equal (format, proofs/Unique).
-- Assumes nothing.
use Rattle.std.specs.Prelude.{Result}
use Rattle.format.specs.declared.Refusal.{Refusal}
use Rattle.format.specs.declared.Fields.{Fields}
use mathlib.Core.Path.{◌≡◌, sym, ◌∙◌}
use contract.Lifetimes.{Lfts}
use borrow.Fn.World.{ArgsD}
use denote.Triple.Clauses.{AtExit}
use Rattle.format.proofs.Unique.{same_header}
use Rattle.head_check.specs.contracts.check as check
use Rattle.head_check.proofs.check.Reads as check_contract

pub header_unique : (κs : Lfts 1) (lent : ArgsD check.signature κs) (r s : Result Fields Refusal) (left left₁ : AtExit check.ended κs)
    → check_contract.Post κs lent r left → check_contract.Post κs lent s left₁ → r ≡ s
header_unique κs lent r s left left₁ p q = same_header r s (p ∙ sym q)
