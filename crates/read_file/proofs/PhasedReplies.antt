-- What a caller learns from the reply of a read of one variant, its phases too.
-- Assumes nothing.
use Rattle.std.specs.Prelude.{Result, Ok, Err, ⊤}
use mathlib.Core.Path.{◌≡◌, refl, sym, ap, ◌∙◌}
use Prim.Native.Nat.{ℕ, ◌≤◌}
use mathlib.Core.List.{List, ◌++◌}
use lib.ListN.{length, drop, length-append, length-drop}
use lib.Seq.{drop_at}
use native.Mathlib.Omega.{arith}
use Rattle.format.specs.declared.FileVariant.{FileVariant}
use Rattle.format.specs.declared.Fields.{Fields}
use Rattle.format.specs.declared.Refusal.{Refusal}
use Rattle.format.specs.Base.{Bytes, Out, ok, refused}
use Rattle.format.specs.Limits.{variants_to_a_block}
use Rattle.format.specs.Body.{Reading, body_reading}
use Rattle.format.specs.Layout.{Layout}
use Rattle.format.specs.Reply.{emptied}
use Rattle.format.specs.File.{variant_as}
use Rattle.head_records.proofs.AcceptedLaws.{samples_are}
use Rattle.read_record.specs.Recorded.{replied, PhasedLeft, phased_left}
use Rattle.read_file.specs.Rows.{reading_replied, VariantPhased}
use Rattle.read_file.proofs.Replies.{WasRead, was_accepted, was_refused, Clears, clears_work, refuses_record}

-- N categories and N phases: the phases stand in the output's first N bytes
pub record ReadingRead (N : ℕ) (row row₁ output output₁ : List ℕ) (m : Out Reading) : Type 0 where
  pub value : Reading
  pub left : List ℕ
  pub is : m ≡ ok value left
  pub phases : output₁ ≡ value.phases ++ drop N output
  pub rest : drop N row₁ ≡ drop N row

abbrev phased_reply : PhasedLeft → Result ⊤ Refusal
phased_reply (phased_left reply row output) = reply

abbrev phased_row : PhasedLeft → List ℕ
phased_row (phased_left reply row output) = row

abbrev phased_output : PhasedLeft → List ℕ
phased_output (phased_left reply row output) = output

reading_reply : (N : ℕ) (row output : List ℕ) (m : Out Reading) → phased_reply (reading_replied N row output m) ≡ replied m
reading_reply N row output (ok reading left) = refl
reading_reply N row output (refused why) = refl

module _ {index held : List ℕ} {f : Fields} {v : FileVariant} {row output : List ℕ} {r : Result ⊤ Refusal} {later out : List ℕ}
    (c : VariantPhased index held f v row output r later out) where
  abbrev l : Layout
  l = c.has.has.layout

  abbrev m : Out Reading
  m = variant_as body_reading variants_to_a_block l v

  samples : f.samples ≡ l.samples
  samples = samples_are c.has.has.stored c.has.has.fields_are

  told : phased_left r later out ≡ reading_replied f.samples row output m
  told = c.is ∙ ap (λ (n : ℕ). reading_replied n row output m) (sym samples)

  reply : replied m ≡ r
  reply = sym (ap phased_reply told ∙ reading_reply f.samples row output m)

  pub phases_accepted : r ≡ Ok tt → length later ≡ length row → f.samples ≤ length row → ReadingRead f.samples row later output out m
  phases_accepted q same room =
      let N : ℕ = f.samples in
      let w : WasRead Reading m = was_accepted m (reply ∙ q) in
      let as_read : phased_left r later out ≡ reading_replied N row output (ok w.value w.left) = told ∙ ap (reading_replied N row output) w.is in
      let e : later ≡ w.value.categories ++ drop N row = ap phased_row as_read in
      let count : length w.value.categories ≡ N = omega (arith, ap length e, length-append w.value.categories (drop N row), length-drop N row) in
      record {
        value = w.value;
        left = w.left;
        is = w.is;
        phases = ap phased_output as_read;
        rest = ap (drop N) e ∙ drop_at w.value.categories (drop N row) N count;
      }

  module _ (why : Refusal) (q : r ≡ Err why) where
    no_reading : m ≡ refused why
    no_reading = was_refused m why (reply ∙ q)

    pub phases_refused : Bytes held → Clears m why
    phases_refused y = clears_work m why (refuses_record c.has y body_reading) no_reading

    pub phases_kept : (later ≡ emptied f.samples row) × (out ≡ output)
    phases_kept =
        let as_refused : phased_left r later out ≡ reading_replied f.samples row output (refused why)
        = told ∙ ap (reading_replied f.samples row output) no_reading in
        (ap phased_row as_refused, ap phased_output as_refused)
