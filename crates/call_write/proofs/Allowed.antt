-- What the writer's contracts allow: a count, with the definition's bytes at the output's start, or the definition's refusal, with the output as before.
-- Assumes nothing.
use Rattle.std.specs.Prelude.{Result, Ok, Err}
use mathlib.Core.Path.{◌≡◌, refl, sym, ap}
use Prim.Native.Nat.{ℕ}
use mathlib.Core.List.{List, ◌++◌}
use lib.ListN.{length, drop}
use Rattle.format.specs.declared.Refusal.{Refusal}
use Rattle.format.specs.Base.{Out, ok, refused}
use Rattle.format.specs.Writer.{write_record, write_phased}
use Rattle.format.specs.Reply.{Written, written, write_left, write_call, write_phased_call}
use Rattle.format.proofs.Unique.{apart}

-- the contracts of `write_record` and `write_phased_record`: they allow this reply and this output
abbrev pub Allows : List ℕ → ℕ → ℕ → List ℕ → List ℕ → Result ℕ Refusal → List ℕ → Type 0
Allows categories number code anchor output reply after = write_left reply after ≡ write_call categories number code anchor output

abbrev pub AllowsPhased : List ℕ → List ℕ → ℕ → ℕ → List ℕ → List ℕ → Result ℕ Refusal → List ℕ → Type 0
AllowsPhased categories phases number code anchor output reply after =
    write_left reply after ≡ write_phased_call categories phases number code anchor output

-- a count was replied: there are bytes, and they stand at the output's start
pub record Accepted (out : Out (List ℕ)) (output : List ℕ) (count : ℕ) (after : List ℕ) : Type 0 where
  pub bytes : List ℕ
  pub left : List ℕ
  pub is : out ≡ ok bytes left
  pub counted : count ≡ length bytes
  pub stored : after ≡ bytes ++ drop (length bytes) output

accepted : (output : List ℕ) (out : Out (List ℕ)) (count : ℕ) (after : List ℕ) → write_left (Ok count) after ≡ written out output
    → Accepted out output count after
accepted output (ok bytes left) count after e =
    record { bytes = bytes; left = left; is = refl; counted = ap (λ (x : Written). x.count) e; stored = ap (λ (x : Written). x.output) e }
accepted output (refused why) count after e = apart (ap (λ (x : Written). x.verdict.accepted) e)

-- a refusal was replied: it is the definition's, and the output is as before
pub record Refused (out : Out (List ℕ)) (output : List ℕ) (why : Refusal) (after : List ℕ) : Type 0 where
  pub is : out ≡ refused why
  pub kept : after ≡ output

denied : (output : List ℕ) (out : Out (List ℕ)) (why : Refusal) (after : List ℕ)
    → write_left (Err why) after ≡ written out output → Refused out output why after
denied output (ok bytes left) why after e = apart (sym (ap (λ (x : Written). x.verdict.accepted) e))
denied output (refused other) why after e =
    record { is = ap refused (sym (ap (λ (x : Written). x.verdict.refusal) e)); kept = ap (λ (x : Written). x.output) e }

module _ (categories : List ℕ) (number code : ℕ) (anchor output : List ℕ) where
  pub allows_count : (count : ℕ) (after : List ℕ) → Allows categories number code anchor output (Ok count) after
      → Accepted (write_record categories number code anchor (length output)) output count after
  unfolding write_call
  allows_count count after e =
      accepted output (write_record categories number code anchor (length output)) count after e

  pub allows_refused : (why : Refusal) (after : List ℕ) → Allows categories number code anchor output (Err why) after
      → Refused (write_record categories number code anchor (length output)) output why after
  unfolding write_call
  allows_refused why after e =
      denied output (write_record categories number code anchor (length output)) why after e

module _ (categories phases : List ℕ) (number code : ℕ) (anchor output : List ℕ) where
  pub allows_phased_count : (count : ℕ) (after : List ℕ) → AllowsPhased categories phases number code anchor output (Ok count) after
      → Accepted (write_phased categories phases number code anchor (length output)) output count after
  unfolding write_phased_call
  allows_phased_count count after e = accepted output (write_phased categories phases number code anchor (length output)) count after e

  pub allows_phased_refused : (why : Refusal) (after : List ℕ) → AllowsPhased categories phases number code anchor output (Err why) after
      → Refused (write_phased categories phases number code anchor (length output)) output why after
  unfolding write_phased_call
  allows_phased_refused why after e = denied output (write_phased categories phases number code anchor (length output)) why after e
