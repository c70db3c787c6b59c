-- What a test of a call's answer says, where the contract gives the answer as a fact.
-- Assumes nothing.
use mathlib.Core.Path.{◌≡◌, sym, ◌∙◌}
use mathlib.Core.Bool.{Bool, true, false, not}
use borrow.Author.Tests.{not-true, not-false}

pub holds : {answer fact : Bool} → answer ≡ fact → answer ≡ true → fact ≡ true
holds e t = sym e ∙ t

pub fails : {answer fact : Bool} → answer ≡ fact → answer ≡ false → fact ≡ false
fails e t = sym e ∙ t

pub granted : {answer fact : Bool} → answer ≡ fact → not answer ≡ false → fact ≡ true
granted {answer} e t = sym e ∙ not-false answer t

pub denied : {answer fact : Bool} → answer ≡ fact → not answer ≡ true → fact ≡ false
denied {answer} e t = sym e ∙ not-true answer t
