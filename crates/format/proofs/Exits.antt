-- What a `?` hands on, and what a pair in an answer holds.
-- Assumes nothing.
use Rattle.std.specs.Prelude.{Option, Some, Result, Ok, Err, IsErr, IsErrAnd}
use Rattle.std.proofs.lemmas.Result.{err_from_is_err_and}
use mathlib.Core.Path.{◌≡◌, refl, ap}

-- the exit of a `?` returns what was refused
pub passed_on : {T E : Type 0} {r x : Result T E} {e : E} → IsErr r × IsErrAnd r (λ (y : E). y ≡ e) → Err e ≡ x → r ≡ x
passed_on {r = r} h k = let p = err_from_is_err_and r h.1 in rw (p.1, p.2) k

pub handed_on : {T E : Type 0} {r : Result T E} {e : E} → IsErr r × IsErrAnd r (λ (y : E). y ≡ e) → r ≡ Err e
handed_on h = passed_on h refl

both : {A B : Type 0} {a c : A} {b d : B} → ◌≡◌ {A = A × B} (a, b) (c, d) → (a ≡ c) × (b ≡ d)
both {A} {B} e = (ap (λ (x : A × B). x.0) e, ap (λ (x : A × B). x.1) e)

pub ok_parts : {A B E : Type 0} {a c : A} {b d : B} → ◌≡◌ {A = Result (A × B) E} (Ok (a, b)) (Ok (c, d)) → (a ≡ c) × (b ≡ d)
ok_parts e = both cc

pub some_parts : {A B : Type 0} {a c : A} {b d : B} → ◌≡◌ {A = Option (A × B)} (Some (a, b)) (Some (c, d)) → (a ≡ c) × (b ≡ d)
some_parts e = both cc
