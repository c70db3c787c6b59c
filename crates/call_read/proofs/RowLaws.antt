-- What a row that was read over an opening tells.
-- Assumes nothing.
use Rattle.std.specs.Prelude.{Result, Ok, Err, ⊤}
use mathlib.Core.Path.{◌≡◌, subst}
use Prim.Native.Nat.{ℕ, ◌≤◌}
use mathlib.Core.List.{List}
use lib.ListN.{length}
use native.Mathlib.Omega.{arith}
use Rattle.format.specs.declared.FileVariant.{FileVariant}
use Rattle.format.specs.declared.Fields.{Fields}
use Rattle.format.specs.declared.Refusal.{Refusal}
use Rattle.format.specs.Limits.{variants_to_a_block}
use Rattle.format.specs.Layout.{Layout}
use Rattle.format.specs.File.{read_variant}
use Rattle.call_open.specs.Open.{OpenAt}
use Rattle.head_places.proofs.AcceptedLaws.{one_layout}
use Rattle.read_file.specs.Rows.{HasVariantRow, VariantRead}
use Rattle.read_file.proofs.Replies.{RowRead, Clears, read_accepted, read_refused}

module _ (file : List ℕ) (v : FileVariant) (lent : ℕ) (f : Fields) (o : OpenAt file v lent f) where
  pub variant_row : (work : List ℕ) → f.samples ≤ length work → HasVariantRow file file f v work
  variant_row work room = record {
    has = record { has = record { layout = o.has.layout; stored = o.has.stored; fields_are = o.has.fields_are }; below = o.below };
    room = room;
  }

  -- what was read is read of the layout that was opened
  module _ (work : List ℕ) (got : Result ⊤ Refusal) (work₁ : List ℕ) (d : VariantRead file file f v work got work₁) where
    same_layout : d.has.has.layout ≡ o.has.layout
    same_layout = one_layout o.has.stored d.has.has

    pub refused_as : (why : Refusal) → got ≡ Err why → Clears (read_variant variants_to_a_block o.has.layout v) why
    refused_as why s =
        subst (λ (l : Layout). Clears (read_variant variants_to_a_block l v) why) same_layout (read_refused d o.has.bytes why s)

    pub filled_as : got ≡ Ok tt → length work₁ ≡ length work → lent ≤ length work
        → RowRead f.samples work work₁ (read_variant variants_to_a_block o.has.layout v)
    filled_as s same room =
        subst (λ (l : Layout). RowRead f.samples work work₁ (read_variant variants_to_a_block l v)) same_layout
        (read_accepted d s same (omega (arith, o.has.room)))
