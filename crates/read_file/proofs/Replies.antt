-- What a reply tells of the format's own reading, and what its caller learns from it.
-- Assumes nothing.
use Rattle.std.specs.Prelude.{Result, Ok, Err, ⊤}
use mathlib.Core.Path.{◌≡◌, refl, sym, ap, ◌∙◌, subst}
use mathlib.Core.Bool.{false}
use Prim.Native.Nat.{ℕ, ◌≤◌}
use mathlib.Core.List.{List, ◌++◌}
use lib.ListN.{length, take, drop, length-append, length-drop}
use lib.Seq.{take_at, drop_at}
use lib.Dec.{lit<}
use native.Mathlib.Omega.{arith}
use Rattle.format.specs.declared.FileVariant.{FileVariant}
use Rattle.format.specs.declared.Fields.{Fields}
use Rattle.format.specs.declared.Refusal.{Refusal}
use Rattle.format.specs.Base.{Bytes, Out, ok, refused}
use Rattle.format.specs.Limits.{variants_to_a_block}
use Rattle.format.specs.Body.{Body, body_categories}
use Rattle.format.specs.Layout.{Layout}
use Rattle.format.specs.Reply.{keeps_work, emptied}
use Rattle.format.specs.File.{read_all, variant_as, read_variant}
use Rattle.format.proofs.Refuses.{Refuses, RecordNumber}
use Rattle.format.proofs.CallRefusals.{all_refusals, variant_refusals, record_clears_work}
use Rattle.head_index.proofs.StoredLaws.{stored_bodies}
use Rattle.head_records.proofs.AcceptedLaws.{samples_are}
use Rattle.head_places.specs.Located.{HasVariant}
use Rattle.head_places.proofs.AcceptedLaws.{below_in}
use Rattle.read_record.specs.Recorded.{replied, record_left}
use Rattle.read_record.proofs.BodyLaws.{reply_of, row_of}
use Rattle.read_check.specs.Straight.{straight_replied}
use Rattle.read_file.specs.Rows.{row_replied, RecordsChecked, VariantRead, VariantGiven}

-- accepted, with what was read
pub record WasRead (A : Type 0) (m : Out A) : Type 0 where
  pub value : A
  pub left : List ℕ
  pub is : m ≡ ok value left

pub was_accepted : {A : Type 0} (m : Out A) → replied m ≡ Ok tt → WasRead A m
was_accepted (ok value left) e = record { value = value; left = left; is = refl }
was_accepted (refused why) e = let z : ◌≡◌ {A = ℕ} 0 1 = cc in absurd (omega arith)

pub was_refused : {A : Type 0} (m : Out A) (why : Refusal) → replied m ≡ Err why → m ≡ refused why
was_refused (ok value left) why e = let z : ◌≡◌ {A = ℕ} 0 1 = cc in absurd (omega arith)
was_refused (refused other) why e = cc

-- of N categories: they stand in a row's first N bytes
pub record RowRead (N : ℕ) (row row₁ : List ℕ) (m : Out (List ℕ)) : Type 0 where
  pub value : List ℕ
  pub left : List ℕ
  pub is : m ≡ ok value left
  pub front : take N row₁ ≡ value
  pub rest : drop N row₁ ≡ drop N row

module _ (N : ℕ) (row row₁ : List ℕ) (r : Result ⊤ Refusal) (m : Out (List ℕ)) (d : record_left r row₁ ≡ row_replied N row m) where
  row_reply : (m : Out (List ℕ)) → reply_of (row_replied N row m) ≡ replied m
  row_reply (ok categories left) = refl
  row_reply (refused why) = refl

  pub row_accepted : r ≡ Ok tt → length row₁ ≡ length row → N ≤ length row → RowRead N row row₁ m
  row_accepted q same room =
      let w : WasRead (List ℕ) m = was_accepted m (sym (row_reply m) ∙ sym (ap reply_of d) ∙ q) in
      let e : row₁ ≡ w.value ++ drop N row = ap row_of (d ∙ ap (row_replied N row) w.is) in
      let count : length w.value ≡ N = omega (arith, ap length e, length-append w.value (drop N row), length-drop N row) in
      record {
        value = w.value;
        left = w.left;
        is = w.is;
        front = ap (take N) e ∙ take_at w.value (drop N row) N count;
        rest = ap (drop N) e ∙ drop_at w.value (drop N row) N count;
      }

  pub row_refused : (why : Refusal) → r ≡ Err why → m ≡ refused why
  row_refused why q = was_refused m why (sym (row_reply m) ∙ sym (ap reply_of d) ∙ q)

-- ---- what a caller learns. 01, Replies: "after every other reply its first N bytes are zero and the rest unchanged": so after 12 to 18 and 23 to 25

-- why a reading was refused, and that the work area is cleared then
pub record Clears {A : Type 0} (m : Out A) (why : Refusal) : Type 0 where
  pub is : m ≡ refused why
  pub clears : keeps_work why.number ≡ false

pub clears_work : {A : Type 0} (m : Out A) (why : Refusal) → Refuses RecordNumber m → m ≡ refused why → Clears m why
clears_work m why all e = record { is = e; clears = record_clears_work why.number (subst (Refuses RecordNumber) e all) }

-- of the check of all records
module _ {index held : List ℕ} {f : Fields} {row : List ℕ} {r : Result ⊤ Refusal} {later : List ℕ} (c : RecordsChecked index held f row r later) where
  pub checked_row : later ≡ emptied f.samples row
  checked_row = rw (samples_are c.has.stored c.has.fields_are) (ap row_of c.is)

  pub checked_accepted : r ≡ Ok tt → WasRead (List Body) (read_all variants_to_a_block c.has.layout)
  checked_accepted q = was_accepted (read_all variants_to_a_block c.has.layout) (sym (ap reply_of c.is) ∙ q)

  pub checked_refused : Bytes held → (why : Refusal) → r ≡ Err why → Clears (read_all variants_to_a_block c.has.layout) why
  checked_refused y why q =
      let l : Layout = c.has.layout in
      clears_work (read_all variants_to_a_block l) why
      (all_refusals variants_to_a_block l (lit< tt) c.has.stored.obeys (stored_bodies variants_to_a_block index held l c.has.stored y))
      (was_refused (read_all variants_to_a_block l) why (sym (ap reply_of c.is) ∙ q))

-- whatever is read of one variant, it is refused by those numbers
pub refuses_record : {index held : List ℕ} {f : Fields} {v : FileVariant} (h : HasVariant index held f v) → Bytes held
    → {A : Type 0} (what : ℕ → List ℕ → Body → A) → Refuses RecordNumber (variant_as what variants_to_a_block h.has.layout v)
refuses_record {index} {held} {f} {v} h y what =
    let l : Layout = h.has.layout in
    variant_refusals variants_to_a_block l (lit< tt) h.has.stored.obeys (stored_bodies variants_to_a_block index held l h.has.stored y) what v
    (below_in h.has h.below)

-- of one variant
module _ {index held : List ℕ} {f : Fields} {v : FileVariant} {row : List ℕ} {r : Result ⊤ Refusal} {later : List ℕ}
    (c : VariantRead index held f v row r later) where
  abbrev l : Layout
  l = c.has.has.layout

  samples : f.samples ≡ l.samples
  samples = samples_are c.has.has.stored c.has.has.fields_are

  pub read_accepted : r ≡ Ok tt → length later ≡ length row → f.samples ≤ length row
      → RowRead f.samples row later (read_variant variants_to_a_block l v)
  read_accepted q same room =
      subst (λ (n : ℕ). RowRead n row later (read_variant variants_to_a_block l v)) (sym samples)
      (row_accepted l.samples row later r (read_variant variants_to_a_block l v) c.is q same (omega (arith, samples)))

  pub read_refused : Bytes held → (why : Refusal) → r ≡ Err why → Clears (read_variant variants_to_a_block l v) why
  read_refused y why q =
      clears_work (read_variant variants_to_a_block l v) why
      (refuses_record c.has y body_categories)
      (row_refused l.samples row later r (read_variant variants_to_a_block l v) c.is why q)

  pub refused_row : (why : Refusal) → r ≡ Err why → later ≡ emptied f.samples row
  refused_row why q =
      let e : read_variant variants_to_a_block l v ≡ refused why = row_refused l.samples row later r (read_variant variants_to_a_block l v) c.is why q in
      rw samples (ap row_of (c.is ∙ ap (row_replied l.samples row) e))

-- of one variant that was given to an output: what it read as, and its reply and the output by that
abbrev pub Given : ℕ → List ℕ → Result ⊤ Refusal → List ℕ → Out (List ℕ) → Type 0
Given N output r out (ok row left) = (r ≡ Ok tt) × (out ≡ row ++ drop N output)
Given N output r out (refused why) = (r ≡ Err why) × (out ≡ output) × (keeps_work why.number ≡ false)

pub given_as : {index held : List ℕ} {f : Fields} {v : FileVariant} {output row : List ℕ} {r : Result ⊤ Refusal} {out later : List ℕ}
    (c : VariantGiven index held f v output row r out later) → Bytes held
    → Given f.samples output r out (read_variant variants_to_a_block c.has.has.layout v)
given_as {f = f} {v} {output} {row} {r} {out} c y =
    go (read_variant variants_to_a_block l v)
    (c.is
    ∙ ap (λ (n : ℕ). straight_replied n output (read_variant variants_to_a_block l v)) (sym (samples_are c.has.has.stored c.has.has.fields_are)))
    (refuses_record c.has y body_categories)
  where
    l : Layout
    l = c.has.has.layout

    go : (m : Out (List ℕ)) → record_left r out ≡ straight_replied f.samples output m → Refuses RecordNumber m → Given f.samples output r out m
    go (ok row left) e all = (ap reply_of e, ap row_of e)
    go (refused why) e all = (ap reply_of e, ap row_of e, record_clears_work why.number all)
