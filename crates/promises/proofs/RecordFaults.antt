-- Which record is at fault where a refusal is a record's: the one of the variant that it names. 12 is at that record's end, the others at one of its bytes.
-- Assumes nothing.
use mathlib.Core.Path.{◌≡◌, refl, sym, ap, ◌∙◌, subst}
use Prim.Native.Nat.{ℕ, zero, suc, ◌+◌, ◌<◌}
use mathlib.Core.Bool.{true}
use mathlib.Core.List.{List, [], ◌∷◌, map}
use lib.ListN.{length, take, get_or}
use native.Mathlib.Omega.{arith}
use Rattle.format.specs.declared.FileVariant.{FileVariant}
use Rattle.format.specs.declared.Refusal.{Refusal}
use Rattle.format.specs.Base.{Out, ok, refused, named, naming, map_out}
use Rattle.format.specs.Body.{Body, body_categories, read_body, type_leans}
use Rattle.format.specs.Variant.{file_variant, next_variant, anchor}
use Rattle.format.specs.Layout.{sum, first_record, Layout, fixed_of, record_start, LayoutObeys}
use Rattle.format.specs.File.{next_anchor, read_records, read_all, type_of, variant_leans, read_over, over_as, variant_as}
use Rattle.format.proofs.Rules.{by_test}
use Rattle.format.proofs.Refuses.{RefusalIs, is_wider, is_map, is_then, RecordNumber}
use Rattle.format.proofs.AnchorLaws.{IsAnchor, anchor_is}
use Rattle.format.proofs.FileLaws.{AllBytes, one_type_each}
use Rattle.format.proofs.CallRefusals.{stored_bytes}
use Rattle.head_index.proofs.StartLaws.{record_end}
use Rattle.promises.proofs.PlaceRules.{Within, RefusedWithin}
use Rattle.promises.proofs.RecordPlaces.{body_places}

-- the record of the variant that is named is refused so, read over some row, at its end (12) or at one of its bytes
pub record InRecord (K : ℕ) (l : Layout) (why : Refusal) : Type 0 where
  pub there : why.variant.0 < length l.bodies
  pub lent : List ℕ
  pub refuses : read_over K l lent why.variant ≡ refused why
  pub within : Within (record_start K l why.variant) (record_start K l (next_variant why.variant)) why

-- 01: "a read or lookup checks only its variant's, and an anchor is checked before the record that leans on it"
pub data IsChecked (K : ℕ) (l : Layout) (v u : FileVariant) : Type 0 where
  its_own : u ≡ v → IsChecked K l v u
  its_anchor : variant_leans l v ≡ true → u ≡ anchor K l.types v → IsChecked K l v u

-- of a read or a lookup of v: its record, or its anchor's
pub record RecordOf (K : ℕ) (v : FileVariant) (l : Layout) (why : Refusal) : Type 0 where
  pub is_checked : IsChecked K l v why.variant
  pub in_record : InRecord K l why

-- a record's refusal is so
abbrev pub IfRecord : (Refusal → Type 0) → Refusal → Type 0
IfRecord Q why = RecordNumber why.number → Q why

-- the variant that is named is not the place
renamed : (start end : ℕ) (u : FileVariant) (why : Refusal) → Within start end why → Within start end (named u why)
renamed start end u why w = record { from_start = w.from_start; at_end = w.at_end; before_end = w.before_end }

module _ (K : ℕ) (l : Layout) (y : AllBytes l.bodies) where
  -- the record of variant u over an anchor's categories
  abbrev record_of : List ℕ → FileVariant → Out Body
  record_of lent u = read_body (record_start K l (next_variant u)) l.samples lent (type_of l u) (get_or l.bodies u.0 [])

  fault : (lent : List ℕ) (u : FileVariant) → u.0 < length l.bodies → (why : Refusal) → record_of lent u ≡ refused why
      → IfRecord (InRecord K l) (named u why)
  unfolding over_as
  fault lent u m why e t = record {
    there = m;
    lent = lent;
    refuses = ap (λ (out : Out Body). map_out (body_categories l.samples lent) (naming u out)) e;
    within =
        renamed (record_start K l u) (record_start K l (next_variant u)) u why
        (subst (RefusalIs (RefusedWithin (record_start K l u) (record_start K l (next_variant u)))) e
        (body_places (record_start K l u) (record_start K l (next_variant u)) l.samples lent (type_of l u) (get_or l.bodies u.0 [])
        (stored_bytes u.0 l.bodies y) (omega (arith, record_end K u l m))) t);
  }

  -- whatever is read of it, a refusal names it and is its own
  as_faults : {A : Type 0} (what : ℕ → List ℕ → Body → A) (lent : List ℕ) (u : FileVariant) → u.0 < length l.bodies
      → RefusalIs (λ (why : Refusal). (why.variant ≡ u) × IfRecord (InRecord K l) why) (over_as what K l lent u)
  unfolding over_as
  as_faults what lent u m = go (record_of lent u) refl
    where
      go : (out : Out Body) → record_of lent u ≡ out
          → RefusalIs (λ (why : Refusal). (why.variant ≡ u) × IfRecord (InRecord K l) why) (map_out (what l.samples lent) (naming u out))
      go (ok body left) e = tt
      go (refused why) e = (refl, fault lent u m why e)

  -- a variant and its anchor
  pub variant_faults : {A : Type 0} (what : ℕ → List ℕ → Body → A) → zero < K → LayoutObeys K l → (v : FileVariant) → v.0 < length l.bodies
      → RefusalIs (IfRecord (RecordOf K v l)) (variant_as what K l v)
  unfolding variant_as
  variant_faults what p h v m =
      by_test (RefusalIs (IfRecord (RecordOf K v l))) (variant_leans l v)
      (λ t.
      let a : IsAnchor K l.types v (anchor K l.types v)
      = anchor_is K l.types p h.types v (omega (arith, one_type_each K l h)) t in
      is_then _ (read_over K l [] (anchor K l.types v)) _
      (is_wider _ _ (read_over K l [] (anchor K l.types v)) (λ why k r. record { is_checked = its_anchor t k.0; in_record = k.1 r })
      (as_faults body_categories [] (anchor K l.types v) (omega (arith, a.before))))
      (λ lent left. own lent))
      (λ t. own [])
    where
      own : (lent : List ℕ) → RefusalIs (IfRecord (RecordOf K v l)) (over_as what K l lent v)
      own lent =
          is_wider _ _ (over_as what K l lent v) (λ why k r. record { is_checked = its_own k.0; in_record = k.1 r }) (as_faults what lent v m)

-- all records, from that of variant v on, which starts at `start`: which one is refused
record StoredFault (N : ℕ) (v : FileVariant) (start : ℕ) (types : List ℕ) (stored : List (List ℕ)) (why : Refusal) : Type 0 where
  index : ℕ
  there : index < length stored
  lent : List ℕ
  raw : Refusal
  refuses : read_body (start + sum (take (suc index) (map length stored))) N lent (get_or types index 0) (get_or stored index []) ≡ refused raw
  is : why ≡ named (file_variant (v.0 + index)) raw

records_faults : (N : ℕ) (v : FileVariant) (start : ℕ) (lent types : List ℕ) (stored : List (List ℕ))
    → RefusalIs (StoredFault N v start types stored) (read_records N v start lent types stored)
unfolding read_records sum
records_faults N v start lent [] stored = tt
records_faults N v start lent (type ∷ types) [] = tt
records_faults N v start lent (type ∷ types) (bs ∷ stored) =
    is_then _ (naming v (read_body (start + length bs) N lent type bs)) _ (here (read_body (start + length bs) N lent type bs) refl) (λ body left.
    let next : List ℕ = next_anchor (type_leans type) lent (body_categories N lent body) in
    is_map _ _ (read_records N (next_variant v) (start + length bs) next types stored)
    (is_wider (StoredFault N (next_variant v) (start + length bs) types stored) _ (read_records N (next_variant v) (start + length bs) next types stored) later
    (records_faults N (next_variant v) (start + length bs) next types stored)))
  where
    here : (m : Out Body) → read_body (start + length bs) N lent type bs ≡ m → RefusalIs (StoredFault N v start (type ∷ types) (bs ∷ stored)) (naming v m)
    here (ok body left) e = tt
    here (refused why) e = record {
      index = 0;
      there = omega arith;
      lent = lent;
      raw = why;
      refuses = ap (λ (end : ℕ). read_body end N lent type bs) (omega arith) ∙ e;
      is = ap (λ (n : ℕ). named (file_variant n) why) (omega arith);
    }

    later : (why : Refusal) → StoredFault N (next_variant v) (start + length bs) types stored why → StoredFault N v start (type ∷ types) (bs ∷ stored) why
    later why f = record {
      index = suc f.index;
      there = omega (arith, f.there);
      lent = f.lent;
      raw = f.raw;
      refuses = ap (λ (end : ℕ). read_body end N f.lent (get_or types f.index 0) (get_or stored f.index [])) (omega arith) ∙ f.refuses;
      is = f.is ∙ ap (λ (n : ℕ). named (file_variant n) f.raw) (omega arith);
    }

pub all_faults : (K : ℕ) (l : Layout) → AllBytes l.bodies → RefusalIs (IfRecord (InRecord K l)) (read_all K l)
unfolding read_all record_start
all_faults K l y =
    is_wider _ _ (read_records l.samples (file_variant 0) (first_record K (fixed_of l)) [] l.types l.bodies) (λ why f t.
    let from_first : 0 + f.index ≡ f.index = omega arith in
    let same : why ≡ named (file_variant f.index) f.raw = rw from_first at f.is in
    subst (InRecord K l) (sym same)
    (fault K l y f.lent (file_variant f.index) f.there f.raw f.refuses (subst (λ (w : Refusal). RecordNumber w.number) same t)))
    (records_faults l.samples (file_variant 0) (first_record K (fixed_of l)) [] l.types l.bodies)
