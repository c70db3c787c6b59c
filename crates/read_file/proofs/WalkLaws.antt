-- A walk through all records in variant order: what is left to check, and what the row holds.
-- Assumes nothing.
use Rattle.std.specs.Prelude.{Result, Ok, Err, ⊤}
use mathlib.Core.Path.{◌≡◌, refl, sym, ap, ◌∙◌, subst}
use mathlib.Core.Bool.{Bool, false}
use Prim.Native.Nat.{ℕ, zero, suc, ◌+◌, ◌≤◌, ◌<◌}
use native.Mathlib.Nat.{add-zero}
use mathlib.Core.List.{List, [], ◌++◌}
use mathlib.Core.Logic.{◌⊎◌, ⊎_elim}
use lib.ListN.{length, take, drop, replicate, get_or}
use lib.Dec.{lit<}
use mir.Syntax.{w64}
use mir.Val.{Fits}
use native.Mathlib.Omega.{arith}
use Rattle.format.specs.declared.FileVariant.{FileVariant}
use Rattle.format.specs.declared.Fields.{Fields}
use Rattle.format.specs.declared.Refusal.{Refusal}
use Rattle.format.specs.Base.{pick, Bytes, Out, ok, refused, naming, named}
use Rattle.format.specs.Limits.{most_samples, most_variants, variants_to_a_block}
use Rattle.format.specs.Body.{kind_of, type_leans, Body, read_body, body_categories}
use Rattle.format.specs.Variant.{file_variant}
use Rattle.format.specs.Layout.{sum, first_record, Layout, LayoutObeys, fixed_of, record_start}
use Rattle.format.specs.Reply.{emptied}
use Rattle.format.specs.File.{next_anchor, read_all, variant_leans, type_of}
use Rattle.format.proofs.OffsetsLaws.{from_1_to_positive}
use Rattle.format.proofs.AnchorLaws.{stands_at}
use Rattle.format.proofs.FileLaws.{one_type_each}
use Rattle.head_index.proofs.RecordTurns.{outcome, left_to_check, record_over, then_check, all_left, none_left, turn_check}
use Rattle.head_index.proofs.RecordTurns.{over_any, next_any, row_after, row_carried}
use Rattle.head_blocks.specs.Parts.{fixed}
use Rattle.head_blocks.proofs.Sizes.{known_bytes}
use Rattle.head_records.specs.Extent.{record_type, record_size}
use Rattle.head_records.proofs.AcceptedLaws.{fields_are, count_is, samples_are, type_is}
use Rattle.head_places.specs.declared.Place.{Place}
use Rattle.head_places.specs.Located.{HasLayout, Located}
use Rattle.head_places.proofs.PartLaws.{part_inside}
use Rattle.head_places.proofs.AcceptedLaws.{variants_few, samples_few, below_in, place_is}
use Rattle.read_record.specs.Recorded.{replied, record_left}
use Rattle.read_check.specs.Next.{next_checked}
use Rattle.read_check.proofs.NextLaws.{next_reply, next_row, next_rest}
use Rattle.read_file.specs.Rows.{HasRow, TypeIfAny, RecordsChecked}
use Rattle.read_file.proofs.Replies.{WasRead, was_accepted, was_refused}
use Rattle.read_file.proofs.Cut.{body_is_bytes, kind_known, cut_end, cut_start, body_is}

abbrev K : ℕ
K = variants_to_a_block

-- before the record of variant v, that starts at `start` and has the type, with what a turn's needs ask
pub record Checking (index held : List ℕ) (f : Fields) (row₀ row : List ℕ) (start v type : ℕ) : Type 0 where
  pub bytes : Bytes held
  pub has : HasLayout index held f
  pub reached : v ≤ f.variants
  pub start_is : start ≡ record_start K has.layout (file_variant v)
  pub type_is : TypeIfAny index f (file_variant v) type
  pub left_is : left_to_check K has.layout v (take has.layout.samples row) ≡ outcome (read_all K has.layout)
  pub rest_is : drop has.layout.samples row ≡ drop has.layout.samples row₀
  pub variants : f.variants ≤ most_variants
  pub samples : f.samples ≤ most_samples
  pub long : length row ≡ length row₀
  pub room : f.samples ≤ length row

replied_outcome : {A : Type 0} (m : Out A) → replied (outcome m) ≡ replied m
replied_outcome (ok a left) = refl
replied_outcome (refused why) = refl

-- ---- before the loop

module _ {index held : List ℕ} {f : Fields} {row : List ℕ} (h : HasRow index held f row) where
  pub some_variants : f.variants ≤ most_variants
  some_variants = variants_few h.has

  -- the first record leans on nothing
  pub check_starts : Bytes held → (start type : ℕ) → start ≡ first_record K (fixed f) → TypeIfAny index f (file_variant 0) type
      → Checking index held f row row start 0 type
  unfolding record_start sum
  check_starts y start type s t =
      let l : Layout = h.has.layout in
      let o : LayoutObeys K l = h.has.stored.obeys in
      let some : zero < length l.bodies = omega (arith, from_1_to_positive most_variants (length l.bodies) o.fixed.variants) in
      let first : variant_leans l (file_variant 0) ≡ false
      = stands_at K l.types (lit< tt) o.types (file_variant 0) (omega (arith, one_type_each K l o)) refl in
      record {
        bytes = y;
        has = h.has;
        reached = omega arith;
        start_is = s ∙ ap (first_record K) (fields_are h.has.stored h.has.fields_are) ∙ sym (add-zero (first_record K (fixed_of l)));
        type_is = t;
        left_is = over_any K l (lit< tt) o 0 (take l.samples row) [] (body_is_bytes h.has y 0) some first ∙ all_left K l;
        rest_is = refl;
        variants = some_variants;
        samples = samples_few h.has;
        long = refl;
        room = h.room;
      }

-- ---- a turn

module _ {index held : List ℕ} {f : Fields} {row₀ row : List ℕ} {start v type : ℕ} (w : Checking index held f row₀ row start v type) where
  abbrev l : Layout
  l = w.has.layout

  abbrev N : ℕ
  N = l.samples

  abbrev here : FileVariant
  here = file_variant v

  obeyed : LayoutObeys K l
  obeyed = w.has.stored.obeys

  samples_there : f.samples ≡ N
  samples_there = samples_are w.has.stored w.has.fields_are

  -- what was left to check is settled, and the row emptied
  settled : (m : Out (Unit {0})) → outcome (read_all K l) ≡ m → (row₁ last : List ℕ) → drop N row₁ ≡ drop N row₀ → last ≡ emptied f.samples row₁
      → RecordsChecked index held f row₀ (replied m) last
  settled m e row₁ last d g =
      let reply : replied m ≡ replied (read_all K l) = ap replied (sym e) ∙ replied_outcome (read_all K l) in
      let left : last ≡ emptied N row₀ =
      g ∙ ap (λ (n : ℕ). emptied n row₁) samples_there ∙ ap (λ (z : List ℕ). replicate N 0 ++ z) d in
      record { has = w.has; is = rw (reply, left) refl }

  -- nothing is left
  pub check_ends : f.variants ≤ v → (last : List ℕ) → last ≡ emptied f.samples row → RecordsChecked index held f row₀ (Ok tt) last
  check_ends m last g =
      let all : v ≡ length l.bodies = omega (arith, w.reached, count_is w.has.stored w.has.fields_are) in
      let none : left_to_check K l v (take N row) ≡ ok tt [] =
      ap (λ (u : ℕ). left_to_check K l u (take N row)) all ∙ none_left K l (take N row) obeyed in
      settled (ok tt []) (sym w.left_is ∙ none) row last w.rest_is g

  module _ (m : v < f.variants) (size : ℕ) (z : size ≡ record_size K (fixed f) index here) where
    abbrev place : Place
    place = record { start = start; end = start + size; record_type = type }

    abbrev there : Located index held f here place
    there = record { has = w.has; below = below_in w.has m; is = place_is w.has m w.start_is z (w.type_is.is m) }

    pub kind_there : kind_of type ≡ 5 → ⊥
    kind_there = kind_known there

    pub end_fits : Fits w64 (length held) → Fits w64 (start + size)
    end_fits h = omega (arith, part_inside there)

    pub end_is : start + size ≡ length (take (start + size) held)
    end_is = cut_end there

    pub body_inside : start ≤ length (take (start + size) held)
    body_inside = cut_start there

    module _ (row₁ : List ℕ) (r : Result ⊤ Refusal) (after : ℕ)
        (d : record_left r row₁ ≡ next_checked f.samples type after (take (start + size) held) start row) where
      -- the record, and a refusal of it that names its variant
      abbrev plain : Out Body
      plain = read_body (record_start K l (file_variant (suc v))) N (take N row) (type_of l here) (get_or l.bodies v [])

      abbrev body : Out Body
      body = record_over K l v (take N row)

      -- what the code read of it
      abbrev read : Out Body
      read = read_body (length (take (start + size) held)) f.samples (take f.samples row) type (drop start (take (start + size) held))

      read_as : read ≡ plain
      read_as =
          ap (λ (n : ℕ). read_body (length (take (start + size) held)) n (take n row) type (drop start (take (start + size) held))) samples_there
          ∙ body_is there (take N row)

      found : r ≡ replied plain
      found = next_reply f.samples type after (take (start + size) held) start row r row₁ d ∙ ap replied read_as

      -- what is left then
      turn : outcome (read_all K l) ≡ then_check K l v (take N row) body
      turn = sym w.left_is ∙ turn_check K l v (take N row) obeyed (below_in w.has m)

      module _ (x : WasRead Body plain) where
        -- the row that those after it lean on, and what there is of it
        abbrev made : List ℕ
        made = row_after K l (lit< tt) obeyed v row x.value

        abbrev Held : ℕ → Bool → Type 0
        Held n leaning = (row₁ ≡ pick leaning row (body_categories n (take n row) x.value ++ drop n row)) ⊎ ((row₁ ≡ row) × (type_leans after ≡ false))

        was_held : Held N (variant_leans l here)
        was_held =
            subst (Held N) (ap (λ (z : Place). type_leans z.record_type) there.is)
            (subst (λ (n : ℕ). Held n (type_leans type)) samples_there
            (next_row f.samples type after (take (start + size) held) start row r row₁ d x.value x.left (read_as ∙ x.is)))

        carried : (take N made ≡ next_anchor (variant_leans l here) (take N row) (body_categories N (take N row) x.value)) × (drop N made ≡ drop N row)
        carried = row_carried K l (lit< tt) obeyed v row x.value x.left (body_is_bytes w.has w.bytes v) (ap (naming here) x.is)

        -- what stands behind stays
        behind : drop N row₁ ≡ drop N row
        behind = ⊎_elim (λ same. ap (drop N) same ∙ carried.1) (λ stays. ap (drop N) stays.0) was_held

        -- and what is left to check is the same over either row
        over_either : TypeIfAny index f (file_variant (v + 1)) after → left_to_check K l (suc v) (take N row₁) ≡ left_to_check K l (suc v) (take N made)
        over_either t =
            ⊎_elim (λ same. ap (λ (z : List ℕ). left_to_check K l (suc v) (take N z)) same)
            (λ stays.
            ap (λ (z : List ℕ). left_to_check K l (suc v) (take N z)) stays.0
            ∙ next_any K l (lit< tt) obeyed v (take N row) (take N made) (body_is_bytes w.has w.bytes (suc v)) (below_in w.has m)
            (λ b. stands b stays.1))
            was_held
          where
            stands : suc v < length l.bodies → type_leans after ≡ false → variant_leans l (file_variant (suc v)) ≡ false
            stands b s =
                let next : v + 1 ≡ suc v = omega arith in
                let is : after ≡ record_type K (fixed f) index (file_variant (suc v))
                = rw next at (t.is (omega (arith, count_is w.has.stored w.has.fields_are))) in
                ap type_leans (sym (is ∙ type_is w.has.stored w.has.fields_are (file_variant (suc v)) b)) ∙ s

      pub check_goes_on : TypeIfAny index f (file_variant (v + 1)) after → r ≡ Ok tt → length row₁ ≡ length row
          → Checking index held f row₀ row₁ (start + size) (v + 1) after
      check_goes_on t q g =
          let x : WasRead Body plain = was_accepted plain (sym found ∙ q) in
          let next : v + 1 ≡ suc v = omega arith in
          record {
            bytes = w.bytes;
            has = w.has;
            reached = omega arith;
            start_is = rw next (ap (λ (p : Place). p.end) there.is);
            type_is = t;
            left_is =
                rw next
                (over_either x t ∙ ap (left_to_check K l (suc v)) (carried x).0
                ∙ sym (turn ∙ ap (λ (m : Out Body). then_check K l v (take N row) (naming here m)) x.is));
            rest_is = behind x ∙ w.rest_is;
            variants = w.variants;
            samples = w.samples;
            long = g ∙ w.long;
            room = omega (arith, w.room);
          }

      -- the row is emptied then
      pub check_stops : (why later : Refusal) → r ≡ Err why → later ≡ named here why → (last : List ℕ) → last ≡ emptied f.samples row₁
          → RecordsChecked index held f row₀ (Err later) last
      check_stops why later q n last g =
          let x : plain ≡ refused why = was_refused plain why (sym found ∙ q) in
          let behind : drop N row₁ ≡ drop N row
          = subst (λ (n : ℕ). drop n row₁ ≡ drop n row) samples_there
          (next_rest f.samples type after (take (start + size) held) start row r row₁ d why (read_as ∙ x)) in
          settled (refused later) (turn ∙ ap (λ (m : Out Body). then_check K l v (take N row) (naming here m)) x ∙ ap refused (sym n)) row₁ last
          (behind ∙ w.rest_is) g

pub ruleset check_laws =
    (known_bytes, some_variants, check_starts, end_fits, end_is, body_inside, kind_there, check_goes_on, check_stops, check_ends)
