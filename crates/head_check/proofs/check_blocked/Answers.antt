-- `head_check::check_blocked` meets its contract.
-- Assumes nothing.
use Rattle.std.specs.Prelude.{◌≡◌, Err, refl}
use borrow.Author.Rules.{rules}
use Rattle.format.proofs.Exits.{passed_on}
use Rattle.head_check.proofs.Chain.{Chain_laws}
use Rattle.head_check.proofs.check_blocked.Goals as goal

pub returns-in_err-find_unused : goal.returns-in_err-find_unused
returns-in_err-find_unused c =
    let e : c.from_residual.result ≡ Err c.in_err-find_unused.field-0.0 = passed_on c.from_residual.ensures refl in
    rw e (search (Chain_laws, c.in_err-find_unused.was, rules))

pub returns-in_err-bad_types : goal.returns-in_err-bad_types
returns-in_err-bad_types c =
    let e : c.from_residual-in_err-bad_types.result ≡ Err c.in_err-bad_types.field-0.0
    = passed_on c.from_residual-in_err-bad_types.ensures refl in
    rw e (search (Chain_laws, c.in_ok-find_unused.was, c.in_err-bad_types.was, rules))

pub returns : goal.returns
returns c = search (Chain_laws, c.in_ok-find_unused.was, c.in_ok-bad_types.was, rules)
