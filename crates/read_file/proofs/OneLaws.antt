-- One variant, read over its anchor if it leans: its categories, and its phases too.
-- Assumes nothing.
use Rattle.std.specs.Prelude.{Result, Ok, Err, ⊤}
use mathlib.Core.Path.{◌≡◌, refl, sym, ap, ◌∙◌}
use Prim.Native.Nat.{ℕ, ◌≤◌}
use mathlib.Core.List.{List, [], ◌++◌}
use lib.ListN.{length, take, drop, get_or, replicate}
use Rattle.format.specs.declared.FileVariant.{FileVariant}
use Rattle.format.specs.declared.Fields.{Fields}
use Rattle.format.specs.declared.Refusal.{Refusal}
use Rattle.format.specs.Base.{Bytes, Out, ok, refused, map_out, naming}
use Rattle.format.specs.Limits.{variants_to_a_block}
use Rattle.format.specs.Body.{Body, read_body, body_categories, Reading, body_reading}
use Rattle.format.specs.Variant.{next_variant}
use Rattle.format.specs.Layout.{Layout, record_start}
use Rattle.format.specs.Reply.{named_reply}
use Rattle.format.specs.File.{type_of, over_as, variant_as}
use Rattle.format.proofs.RowLaws.{row_anchor_unused, reading_anchor_unused}
use Rattle.head_blocks.proofs.Sizes.{known_bytes}
use Rattle.head_records.proofs.AcceptedLaws.{samples_are}
use Rattle.head_places.specs.declared.Place.{Place}
use Rattle.head_places.specs.Located.{Located}
use Rattle.head_places.proofs.PartLaws.{part_inside}
use Rattle.read_record.specs.Recorded.{record_left, phased_left, phased_replied, phased_recorded, named_phased}
use Rattle.read_file.specs.Rows.{HasVariantRow, row_replied, AnchorRead, VariantRead, reading_replied, VariantPhased}
use Rattle.read_file.proofs.Cut.{kind_known, cut_end, cut_start, phased_is}
use Rattle.read_file.proofs.LentLaws.{at_layout, Told, read_it, few, lent_accepted, lent_refused}

abbrev K : ℕ
K = variants_to_a_block

-- what stands behind the first N bytes is all that counts of a row
same_rest : (N : ℕ) (row row₁ : List ℕ) (m : Out (List ℕ)) → drop N row₁ ≡ drop N row → row_replied N row₁ m ≡ row_replied N row m
same_rest N row row₁ (ok categories left) e = ap (λ (z : List ℕ). record_left (Ok tt) (categories ++ z)) e
same_rest N row row₁ (refused why) e = ap (λ (z : List ℕ). record_left (Err why) (replicate N 0 ++ z)) e

same_rest_phased : (N : ℕ) (row row₁ output : List ℕ) (m : Out Reading) → drop N row₁ ≡ drop N row
    → reading_replied N row₁ output m ≡ reading_replied N row output m
same_rest_phased N row row₁ output (ok reading left) e =
    ap (λ (z : List ℕ). phased_left (Ok tt) (reading.categories ++ z) (reading.phases ++ drop N output)) e
same_rest_phased N row row₁ output (refused why) e = ap (λ (z : List ℕ). phased_left (Err why) (replicate N 0 ++ z) output) e

-- a record's categories in a row, and its phases in an output, or a refusal that names its variant
phased_too : (N : ℕ) (v : FileVariant) (row output : List ℕ) (m : Out Body)
    → named_phased v (phased_replied N row output m) ≡ reading_replied N row output (map_out (body_reading N (take N row)) (naming v m))
phased_too N v row output (ok body left) = refl
phased_too N v row output (refused why) = refl

-- what the code is told of a record that was located, whose phases are read too, before its variant is named
abbrev ToldPhased : List ℕ → Fields → Place → List ℕ → List ℕ → List ℕ → List ℕ → Result ⊤ Refusal → Type 0
ToldPhased held f p row row₁ output output₁ got =
    phased_left got row₁ output₁ ≡ phased_recorded f.samples p.record_type (take p.end held) p.start row output

phased_it : {index held : List ℕ} {f : Fields} {v : FileVariant} {p : Place} (g : Located index held f v p) (row row₁ output output₁ : List ℕ)
    (got r : Result ⊤ Refusal) → ToldPhased held f p row row₁ output output₁ got → r ≡ named_reply v got → let N : ℕ = g.has.layout.samples in
    phased_left r row₁ output₁ ≡ reading_replied N row output (over_as body_reading K g.has.layout (take N row) v)
unfolding over_as
phased_it {v = v} g row row₁ output output₁ got r d n =
    let l : Layout = g.has.layout in
    rw n
    (ap (named_phased v) (rw (samples_are g.has.stored g.has.fields_are) at d ∙ phased_is g row output))
    ∙ phased_too l.samples v row output
    (read_body (record_start K l (next_variant v)) l.samples (take l.samples row) (type_of l v) (get_or l.bodies v.0 []))

-- ---- in the code's own terms

pub still_room : {index held : List ℕ} {f : Fields} {v : FileVariant} {row : List ℕ} → HasVariantRow index held f v row → (row₁ : List ℕ)
    → length row₁ ≡ length row → f.samples ≤ length row₁
still_room h row₁ e = rw e h.room

module _ {index held : List ℕ} {f : Fields} {v : FileVariant} {row : List ℕ} {r : Result ⊤ Refusal} {row₁ : List ℕ}
    (c : AnchorRead index held f v row r row₁) where
  abbrev l : Layout
  l = c.has.has.layout

  abbrev N : ℕ
  N = l.samples

  pub row_none : (why : Refusal) → r ≡ Err why → VariantRead index held f v row (Err why) row₁
  row_none why q = let x = lent_refused c body_categories why q in record { has = c.has; is = rw (x.0, x.1) refl }

  pub phased_none : (output : List ℕ) (why : Refusal) → r ≡ Err why → VariantPhased index held f v row output (Err why) row₁ output
  phased_none output why q = let x = lent_refused c body_reading why q in record { has = c.has; is = rw (x.0, x.1) refl }

  module _ (q : r ≡ Ok tt) (y : Bytes held) (same : length row₁ ≡ length row) (room : HasVariantRow index held f v row) {p : Place}
      (g : Located index held f v p) (row₂ : List ℕ) (got r₂ : Result ⊤ Refusal) (n : r₂ ≡ named_reply v got) where
    pub row_over : Told held f p row₁ row₂ got → VariantRead index held f v row r₂ row₂
    row_over d =
        let x = lent_accepted c body_categories y (row_anchor_unused N) q same room.room in
        record {
          has = c.has;
          is =
              read_it (at_layout c.has.has g) row₁ row₂ got r₂ d n
              ∙ ap (row_replied N row₁) (sym x.0)
              ∙ same_rest N row row₁ (variant_as body_categories K l v) x.1;
        }

    pub phased_over : (output output₂ : List ℕ) → ToldPhased held f p row₁ row₂ output output₂ got → VariantPhased index held f v row output r₂ row₂ output₂
    phased_over output output₂ d =
        let x = lent_accepted c body_reading y (reading_anchor_unused N) q same room.room in
        record {
          has = c.has;
          is =
              phased_it (at_layout c.has.has g) row₁ row₂ output output₂ got r₂ d n
              ∙ ap (reading_replied N row₁ output) (sym x.0)
              ∙ same_rest_phased N row row₁ output (variant_as body_reading K l v) x.1;
        }

pub ruleset row_laws = (known_bytes, few, still_room, part_inside, cut_end, cut_start, kind_known, row_none, row_over)

pub ruleset phases_laws = (known_bytes, few, still_room, part_inside, cut_end, cut_start, kind_known, phased_none, phased_over)
