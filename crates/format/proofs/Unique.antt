-- 01, How far each contract reaches: "Prove that two replies allowed by it are equal". What a call replied and left, as the `-left` of specs/Reply has it,
-- tells the answer and every buffer. The laws about the contracts stand with the calls, in proofs/Unique of their crates: `Post` there is what a contract
-- asks of a reply and of what was lent, as the prover reads it from the code, so that a contract that says less is refused; `left` has the parameters
-- as the call leaves them, in order.
-- Assumes nothing.
use Rattle.std.specs.Prelude.{Result, Ok, Err, ⊤}
use mathlib.Core.Path.{◌≡◌, refl, sym, ap, ◌∙◌}
use Prim.Native.Nat.{ℕ}
use mathlib.Core.Bool.{true, false}
use mathlib.Core.List.{List}
use native.Mathlib.Omega.{arith}
use Rattle.format.specs.declared.Fields.{Fields}
use Rattle.format.specs.declared.Refusal.{Refusal}
use Rattle.format.specs.Base.{Out, ok, refused}
use Rattle.format.specs.Reply.{Verdict, verdict, given_or, answer, Summary, no_fields, header_left}
use Rattle.format.specs.Reply.{Checked, check_left, Read, read_left, Lookup, lookup_left, Viewed, view_left, Written, write_left, Flipped, flip_left}

-- acceptance is never a refusal
pub apart : {A : Type 0} → true ≡ false → A
apart e = let z : ◌≡◌ {A = ℕ} 0 1 = cc in absurd (omega arith)

-- ---- an answer of two ways

-- R is an answer of two ways: accepted with a value, or refused
abbrev made : {A R : Type 0} → (A → R) → (Refusal → R) → Out A → R
made accept deny (ok a left) = accept a
made accept deny (refused why) = deny why

record TwoWay (R A : Type 0) : Type 0 where
  accept : A → R
  deny : Refusal → R
  as_out : R → Out A
  back : (r : R) → made accept deny (as_out r) ≡ r

-- its verdict, and its value with `none` where it is refused, tell it
same_made : {A R : Type 0} (accept : A → R) (deny : Refusal → R) (none : A) (m n : Out A) → verdict m ≡ verdict n → given_or none m ≡ given_or none n
    → made accept deny m ≡ made accept deny n
same_made accept deny none (ok a left) (ok b rest) e d = ap accept d
same_made accept deny none (ok a left) (refused why) e d = apart (ap (λ (z : Verdict). z.accepted) e)
same_made accept deny none (refused why) (ok b rest) e d = apart (sym (ap (λ (z : Verdict). z.accepted) e))
same_made accept deny none (refused why) (refused why₁) e d = ap deny (ap (λ (z : Verdict). z.refusal) e)

same_answer : {A R : Type 0} (w : TwoWay R A) (none : A) (r s : R) → verdict (w.as_out r) ≡ verdict (w.as_out s)
    → given_or none (w.as_out r) ≡ given_or none (w.as_out s) → r ≡ s
same_answer w none r s e d = sym (w.back r) ∙ same_made w.accept w.deny none (w.as_out r) (w.as_out s) e d ∙ w.back s

-- a `Result` is one
abbrev result_ways : {A : Type 0} → TwoWay (Result A Refusal) A
result_ways {A = A} = record { accept = Ok; deny = Err; as_out = answer; back = same }
  where
    same : (r : Result A Refusal) → made Ok Err (answer r) ≡ r
    same (Ok a) = refl
    same (Err why) = refl

-- ---- the calls

pub same_header : (r s : Result Fields Refusal) → header_left r ≡ header_left s → r ≡ s
same_header r s e = same_answer result_ways no_fields r s (ap (λ (z : Summary). z.verdict) e) (ap (λ (z : Summary). z.fields) e)

pub same_check : (r s : Result Fields Refusal) (work work₁ : List ℕ) → check_left r work ≡ check_left s work₁ → (r ≡ s) × (work ≡ work₁)
same_check r s work work₁ e = (same_header r s (ap (λ (z : Checked). z.reply) e), ap (λ (z : Checked). z.work) e)

pub same_read : (r s : Result ⊤ Refusal) (output output₁ work work₁ : List ℕ) → read_left r output work ≡ read_left s output₁ work₁
    → (r ≡ s) × (output ≡ output₁) × (work ≡ work₁)
same_read r s output output₁ work work₁ e =
    (same_answer result_ways tt r s (ap (λ (z : Read). z.verdict) e) refl, ap (λ (z : Read). z.output) e, ap (λ (z : Read). z.work) e)

pub same_lookup : (r s : Result ℕ Refusal) (work work₁ : List ℕ) → lookup_left r work ≡ lookup_left s work₁ → (r ≡ s) × (work ≡ work₁)
same_lookup r s work work₁ e =
    (same_answer result_ways 0 r s (ap (λ (z : Lookup). z.verdict) e) (ap (λ (z : Lookup). z.category) e), ap (λ (z : Lookup). z.work) e)

-- the view, whose refusal stands in three lent numbers: the same bytes, in the same place
pub same_view : (number number₁ place place₁ variant variant₁ : ℕ) (part part₁ : List ℕ) (lies lies₁ : ℕ × ℕ)
    → view_left number place variant part lies ≡ view_left number₁ place₁ variant₁ part₁ lies₁
    → (number ≡ number₁) × (place ≡ place₁) × (variant ≡ variant₁) × (part ≡ part₁) × (lies ≡ lies₁)
same_view number number₁ place place₁ variant variant₁ part part₁ lies lies₁ e = (
  ap (λ (z : Viewed). z.refusal.number) e,
  ap (λ (z : Viewed). z.refusal.place) e,
  ap (λ (z : Viewed). z.refusal.variant.0) e,
  ap (λ (z : Viewed). z.part) e,
  ap (λ (z : Viewed). z.lies) e,
)

pub same_write : (r s : Result ℕ Refusal) (output output₁ : List ℕ) → write_left r output ≡ write_left s output₁ → (r ≡ s) × (output ≡ output₁)
same_write r s output output₁ e =
    (same_answer result_ways 0 r s (ap (λ (z : Written). z.verdict) e) (ap (λ (z : Written). z.count) e), ap (λ (z : Written). z.output) e)

pub same_flip : (r s : Result ⊤ Refusal) (file file₁ work work₁ : List ℕ) → flip_left r file work ≡ flip_left s file₁ work₁
    → (r ≡ s) × (file ≡ file₁) × (work ≡ work₁)
same_flip r s file file₁ work work₁ e =
    (same_answer result_ways tt r s (ap (λ (z : Flipped). z.verdict) e) refl, ap (λ (z : Flipped). z.file) e, ap (λ (z : Flipped). z.work) e)
