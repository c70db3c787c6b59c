-- One variant's categories given to an output: each way out of `copy_leaning` and `read_output`.
-- Assumes nothing.
use Rattle.std.specs.Prelude.{Result, Ok, Err, ⊤}
use mathlib.Core.Path.{◌≡◌, refl, sym, ap, ◌∙◌}
use mathlib.Core.Bool.{Bool, false}
use Prim.Native.Nat.{ℕ, ◌≤◌}
use mathlib.Core.List.{List, [], ◌++◌}
use lib.ListN.{length, take, drop, get_or, replicate}
use Rattle.format.specs.declared.FileVariant.{FileVariant}
use Rattle.format.specs.declared.Fields.{Fields}
use Rattle.format.specs.declared.Refusal.{Refusal}
use Rattle.format.specs.Base.{Out, ok, refused, map_out, naming}
use Rattle.format.specs.Limits.{variants_to_a_block}
use Rattle.format.specs.Body.{type_leans, Body, read_body, body_categories}
use Rattle.format.specs.Variant.{next_variant}
use Rattle.format.specs.Layout.{Layout, record_start}
use Rattle.format.specs.Reply.{named_reply}
use Rattle.format.specs.File.{type_of, over_as, variant_as, read_variant}
use Rattle.head_blocks.proofs.Sizes.{known_bytes}
use Rattle.head_records.proofs.AcceptedLaws.{samples_are}
use Rattle.head_places.specs.declared.Place.{Place}
use Rattle.head_places.specs.Located.{Located}
use Rattle.head_places.proofs.PartLaws.{part_inside}
use Rattle.read_record.specs.Recorded.{record_left, named_left}
use Rattle.read_check.specs.Straight.{own_as, straight_replied, straight}
use Rattle.read_file.specs.Rows.{HasVariantRow, VariantRead, VariantGiven}
use Rattle.read_file.proofs.Cut.{kind_known, cut_end, cut_start, body_is}
use Rattle.read_file.proofs.Replies.{RowRead, row_refused, read_accepted, refused_row}
use Rattle.read_file.proofs.LentLaws.{at_layout, few, leans_as}

abbrev K : ℕ
K = variants_to_a_block

-- ---- a record that leans: read in the row

module _ {index held : List ℕ} {f : Fields} {v : FileVariant} {row : List ℕ} {r : Result ⊤ Refusal} {row₁ : List ℕ} (c : VariantRead index held f v row r row₁)
    (output : List ℕ) where
  abbrev l : Layout
  l = c.has.has.layout

  pub given_refused : (why : Refusal) → r ≡ Err why → VariantGiven index held f v output row (Err why) output row₁
  given_refused why q =
      let e : read_variant K l v ≡ refused why = row_refused l.samples row row₁ r (read_variant K l v) c.is why q in
      record { has = c.has; is = rw e refl; cleared = refused_row c why q }

  pub given_copied : r ≡ Ok tt → length row₁ ≡ length row → HasVariantRow index held f v row → (output₁ row₂ : List ℕ)
      → output₁ ≡ take f.samples row₁ ++ drop f.samples output → row₂ ≡ replicate f.samples 0 ++ drop f.samples row₁
      → VariantGiven index held f v output row (Ok tt) output₁ row₂
  given_copied q same room output₁ row₂ a b =
      let x : RowRead f.samples row row₁ (read_variant K l v) = read_accepted c q same room.room in
      record {
        has = c.has;
        is =
            ap (record_left (Ok tt)) (a ∙ ap (λ (z : List ℕ). z ++ drop f.samples output) x.front)
            ∙ ap (straight_replied f.samples output) (sym x.is)
            ∙ ap (λ (n : ℕ). straight_replied n output (read_variant K l v)) (samples_are c.has.has.stored c.has.has.fields_are);
        cleared = b ∙ ap (λ (z : List ℕ). replicate f.samples 0 ++ z) x.rest;
      }

-- room in a row that was read into
pub room_after : {index held : List ℕ} {f : Fields} {v : FileVariant} {row : List ℕ} → HasVariantRow index held f v row → (row₁ : List ℕ)
    → length row₁ ≡ length row → f.samples ≤ length row₁
room_after h row₁ e = rw e h.room

pub ruleset copied_laws = (room_after, given_refused, given_copied)

-- ---- one that leans on none: read straight

-- its categories in an output, or a refusal that names its variant
given_too : (N : ℕ) (v : FileVariant) (output : List ℕ) (m : Out Body)
    → named_left v (straight_replied N output (map_out (body_categories N []) m)) ≡ straight_replied N output (map_out (body_categories N []) (naming v m))
given_too N v output (ok body left) = refl
given_too N v output (refused why) = refl

module _ {index held : List ℕ} {f : Fields} {v : FileVariant} {row : List ℕ} (h : HasVariantRow index held f v row) {p : Place}
    (g : Located index held f v p) {t : Bool} (k : t ≡ type_leans p.record_type) (s : t ≡ false) where
  abbrev there : Layout
  there = h.has.has.layout

  abbrev N : ℕ
  N = there.samples

  abbrev read : Out Body
  read = read_body (record_start K there (next_variant v)) N [] (type_of there v) (get_or there.bodies v.0 [])

  own_is : own_as body_categories N p.record_type (take p.end held) p.start ≡ map_out (body_categories N []) read
  own_is = ap (map_out (body_categories N [])) (body_is (at_layout h.has.has g) [])

  alone_is : read_variant K there v ≡ map_out (body_categories N []) (naming v read)
  unfolding variant_as over_as
  alone_is = rw (leans_as h g k ∙ s) refl

  pub stands : type_leans p.record_type ≡ false
  stands = sym k ∙ s

  pub given_straight : (output output₁ row₁ : List ℕ) (got r : Result ⊤ Refusal)
      → record_left got output₁ ≡ straight f.samples p.record_type (take p.end held) p.start output
      → row₁ ≡ replicate f.samples 0 ++ drop f.samples row → r ≡ named_reply v got
      → VariantGiven index held f v output row r output₁ row₁
  unfolding straight
  given_straight output output₁ row₁ got r d b n =
      let told : record_left got output₁ ≡ straight_replied N output (own_as body_categories N p.record_type (take p.end held) p.start)
      = d ∙ ap (λ (n : ℕ). straight_replied n output (own_as body_categories n p.record_type (take p.end held) p.start))
      (samples_are h.has.has.stored h.has.has.fields_are) in
      record {
        has = h.has;
        is =
            rw n (ap (named_left v) (told ∙ ap (straight_replied N output) own_is))
            ∙ given_too N v output read
            ∙ ap (straight_replied N output) (sym alone_is);
        cleared = b;
      }

pub ruleset given_laws = (known_bytes, few, part_inside, cut_end, cut_start, kind_known, stands, given_straight)
