-- What a variant leans on, read into the row before its own record is: each way out of `read_anchor`, and what its reply tells.
-- Assumes nothing.
use Rattle.std.specs.Prelude.{Result, Ok, Err, ⊤}
use mathlib.Core.Path.{◌≡◌, refl, sym, ap, ◌∙◌}
use mathlib.Core.Bool.{Bool, true, false}
use Prim.Native.Nat.{ℕ, ◌≤◌}
use mathlib.Core.List.{List, []}
use lib.ListN.{length, take, drop, get_or}
use lib.Dec.{lit<}
use native.Mathlib.Omega.{arith}
use Rattle.format.specs.declared.FileVariant.{FileVariant}
use Rattle.format.specs.declared.Fields.{Fields}
use Rattle.format.specs.declared.Refusal.{Refusal}
use Rattle.format.specs.Base.{pick, Bytes, Out, ok, refused, bind, map_out, naming}
use Rattle.format.specs.Limits.{most_samples, variants_to_a_block}
use Rattle.format.specs.Body.{type_leans, Body, read_body, body_categories}
use Rattle.format.specs.Variant.{next_variant, anchor}
use Rattle.format.specs.Layout.{Layout, LayoutObeys, record_start}
use Rattle.format.specs.Reply.{emptied, named_reply}
use Rattle.format.specs.File.{type_of, variant_leans, read_over, over_as, variant_as}
use Rattle.format.proofs.AnchorLaws.{IsAnchor, anchor_is}
use Rattle.format.proofs.FileLaws.{one_type_each}
use Rattle.head_index.proofs.InOrderLaws.{Unleaning, stands_alike, stands_alike_as}
use Rattle.head_blocks.proofs.Sizes.{known_bytes}
use Rattle.head_records.proofs.AcceptedLaws.{count_is, samples_are}
use Rattle.head_places.specs.declared.Place.{Place}
use Rattle.head_places.specs.Located.{HasLayout, HasVariant, HasLeaner, Located, Anchored}
use Rattle.head_places.proofs.PartLaws.{part_inside}
use Rattle.head_places.proofs.AcceptedLaws.{samples_few, below_in, located, anchored}
use Rattle.read_record.specs.Recorded.{record_left, record_replied, recorded, named_left}
use Rattle.read_record.proofs.BodyLaws.{reply_of, row_of}
use Rattle.read_file.specs.Rows.{HasVariantRow, row_replied, AnchorRead}
use Rattle.read_file.proofs.Cut.{body_is_bytes, kind_known, cut_end, cut_start, recorded_is}
use Rattle.read_file.proofs.Replies.{RowRead, row_accepted, row_refused}

abbrev K : ℕ
K = variants_to_a_block

-- a record's categories in a row, or a refusal that names its variant
pub read_too : (N : ℕ) (v : FileVariant) (row : List ℕ) (m : Out Body)
    → named_left v (record_replied N row m) ≡ row_replied N row (map_out (body_categories N (take N row)) (naming v m))
read_too N v row (ok body left) = refl
read_too N v row (refused why) = refl

-- a place, by any layout that index and data stand for
abbrev pub at_layout : {index held : List ℕ} {f : Fields} {v : FileVariant} {p : Place} → HasLayout index held f → Located index held f v p
    → Located index held f v p
at_layout h g = record {
  has = h;
  below = omega (arith, g.below, count_is g.has.stored g.has.fields_are, count_is h.stored h.fields_are);
  is = located h.stored g;
}

-- ---- a record that was located, read over a row

-- what the code is told of it, before its variant is named
abbrev pub Told : List ℕ → Fields → Place → List ℕ → List ℕ → Result ⊤ Refusal → Type 0
Told held f p row row₁ got = record_left got row₁ ≡ recorded f.samples p.record_type (take p.end held) p.start row

module _ {index held : List ℕ} {f : Fields} {v : FileVariant} {p : Place} (g : Located index held f v p) (row row₁ : List ℕ) (got r : Result ⊤ Refusal)
    (d : Told held f p row row₁ got) (n : r ≡ named_reply v got) where
  abbrev there : Layout
  there = g.has.layout

  abbrev anchored_row : List ℕ
  anchored_row = take there.samples row

  pub read_it : record_left r row₁ ≡ row_replied there.samples row (read_over K there anchored_row v)
  unfolding over_as
  read_it =
      rw n
      (ap (named_left v) (rw (samples_are g.has.stored g.has.fields_are) at d ∙ recorded_is g row))
      ∙ read_too there.samples v row
      (read_body (record_start K there (next_variant v)) there.samples anchored_row (type_of there v) (get_or there.bodies v.0 []))

  -- one that leans on none is read alike over the row and over nothing
  over_nothing : Bytes held → variant_leans there v ≡ false → record_left r row₁ ≡ row_replied there.samples row (read_over K there [] v)
  unfolding over_as
  over_nothing y s =
      read_it
      ∙ ap (row_replied there.samples row)
      (sym (stands_alike K there (lit< tt) g.has.stored.obeys v.0 anchored_row (body_is_bytes g.has y v.0) s))

-- ---- what the reply tells, whatever is read of the variant's body

module _ {index held : List ℕ} {f : Fields} {v : FileVariant} {row : List ℕ} {r : Result ⊤ Refusal} {row₁ : List ℕ} (c : AnchorRead index held f v row r row₁)
    {A : Type 0} (what : ℕ → List ℕ → Body → A) where
  abbrev l : Layout
  l = c.has.has.layout

  abbrev N : ℕ
  N = l.samples

  -- its anchor's categories, if it leans
  abbrev lent : Out (List ℕ)
  lent = read_over K l [] (anchor K l.types v)

  abbrev Left : Bool → Type 0
  Left t = record_left r row₁ ≡ pick t (row_replied N row lent) (record_left (Ok tt) row)

  abbrev over_lent : Bool → Out A
  over_lent t = pick t (bind lent (λ anchor left. over_as what K l anchor v)) (over_as what K l [] v)

  -- accepted: it is read over the row's first N bytes, and what stands behind them stays
  pub lent_accepted : Bytes held → Unleaning K l (lit< tt) c.has.has.stored.obeys what → r ≡ Ok tt → length row₁ ≡ length row → f.samples ≤ length row
      → (variant_as what K l v ≡ over_as what K l (take N row₁) v) × (drop N row₁ ≡ drop N row)
  unfolding variant_as over_as
  lent_accepted y unleaning q same room = go (variant_leans l v) refl c.is
    where
      go : (t : Bool) → variant_leans l v ≡ t → Left t → (over_lent t ≡ over_as what K l (take N row₁) v) × (drop N row₁ ≡ drop N row)
      go true s d =
          let w : RowRead N row row₁ lent
          = row_accepted N row row₁ r lent d q same (omega (arith, samples_are c.has.has.stored c.has.has.fields_are)) in (
            ap (λ (m : Out (List ℕ)). bind m (λ anchor left. over_as what K l anchor v)) w.is
                ∙ ap (λ (z : List ℕ). over_as what K l z v) (sym w.front),
            w.rest,
          )
      go false s d =
          let stays : row₁ ≡ row = ap row_of d in (
            stands_alike_as K l (lit< tt) c.has.has.stored.obeys what unleaning v.0 (take N row₁) (body_is_bytes c.has.has y v.0) s,
            ap (drop N) stays,
          )

  -- refused: so is the variant, and the row's first N bytes are zero
  pub lent_refused : (why : Refusal) → r ≡ Err why → (variant_as what K l v ≡ refused why) × (row₁ ≡ emptied N row)
  unfolding variant_as
  lent_refused why q = go (variant_leans l v) c.is
    where
      go : (t : Bool) → Left t → (over_lent t ≡ refused why) × (row₁ ≡ emptied N row)
      go true d =
          let e : lent ≡ refused why = row_refused N row row₁ r lent d why q in
          (ap (λ (m : Out (List ℕ)). bind m (λ anchor left. over_as what K l anchor v)) e, ap row_of (d ∙ ap (row_replied N row) e))
      go false d = absurd (let e : Err why ≡ (Ok tt) = sym q ∙ ap reply_of d in let z : ◌≡◌ {A = ℕ} 0 1 = cc in omega arith)

-- ---- in the code's own terms

pub few : {index held : List ℕ} {f : Fields} {v : FileVariant} {row : List ℕ} → HasVariantRow index held f v row → f.samples ≤ most_samples
few h = samples_few h.has.has

pub anchor_has : {index held : List ℕ} {f : Fields} {v x : FileVariant} → Anchored index held f v x → HasVariant index held f x
anchor_has a = record { has = a.has; below = a.below }

module _ {index held : List ℕ} {f : Fields} {v : FileVariant} {row : List ℕ} (h : HasVariantRow index held f v row) {p : Place} (g : Located index held f v p)
    {t : Bool} (k : t ≡ type_leans p.record_type) where
  -- it leans, or not
  pub leans_as : variant_leans h.has.has.layout v ≡ t
  leans_as = sym (k ∙ ap (λ (z : Place). type_leans z.record_type) (located h.has.has.stored g))

  pub leans_there : t ≡ true → HasLeaner index held f v
  leans_there s = record { has = h.has; leaner = leans_as ∙ s }

  pub none_lent : t ≡ false → AnchorRead index held f v row (Ok tt) row
  none_lent s = record { has = h.has; is = rw (leans_as ∙ s) refl }

  -- its anchor x, which was located and read
  pub some_lent : Bytes held → t ≡ true → {x : FileVariant} → Anchored index held f v x → {q : Place} → Located index held f x q
      → (row₁ : List ℕ) (got r : Result ⊤ Refusal) → Told held f q row row₁ got → r ≡ named_reply x got → AnchorRead index held f v row r row₁
  some_lent y s {x} a {q} e row₁ got r d n =
      let l : Layout = h.has.has.layout in
      let o : LayoutObeys K l = h.has.has.stored.obeys in
      let leaner : variant_leans l v ≡ true = leans_as ∙ s in
      let x_is : x ≡ anchor K l.types v = anchored h.has.has.stored a in
      let is : IsAnchor K l.types v x
      = rw x_is (anchor_is K l.types (lit< tt) o.types v (omega (arith, one_type_each K l o, below_in h.has.has h.has.below)) leaner) in
      let read : record_left r row₁ ≡ row_replied l.samples row (read_over K l [] x)
      = over_nothing (at_layout h.has.has e) row row₁ got r d n y is.stands in
      record { has = h.has; is = rw leaner (read ∙ ap (λ (z : FileVariant). row_replied l.samples row (read_over K l [] z)) x_is) }

pub ruleset anchor_laws = (known_bytes, few, part_inside, cut_end, cut_start, kind_known, anchor_has, leans_there, none_lent, some_lent)
