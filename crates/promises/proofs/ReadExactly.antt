-- A read and a lookup: accepted exactly when the header, the variant's record and its anchor's obey, and what was lent is in order; and what they then give.
-- Assumes nothing.
use mathlib.Core.Path.{◌≡◌, refl, sym, ap, ◌∙◌, subst}
use Prim.Native.Nat.{ℕ, zero, ◌≤◌, ◌<◌}
use mathlib.Core.Bool.{Bool, true, false, ◌&&◌}
use mathlib.Core.Logic.{◌↔◌}
use mathlib.Core.List.{List, [], ◌++◌}
use lib.ListN.{length, drop, get_or}
use lib.Dec.{ltb}
use native.Mathlib.Omega.{arith}
use borrow.Author.Tests.{ltb-true, leb-true, lt-ltb, le-leb}
use Rattle.format.specs.declared.FileVariant.{FileVariant}
use Rattle.format.specs.Base.{pick, Below, Bytes, Out, ok, bind, map_out, naming}
use Rattle.format.specs.Limits.{most_samples}
use Rattle.format.specs.Body.{kind_of, type_phased, Body, body_bytes, BodyFits, read_body, body_categories, body_phases}
use Rattle.format.specs.Track.{leans, track_kind}
use Rattle.format.specs.Phase.{has_phases}
use Rattle.format.specs.Variant.{next_variant, anchor}
use Rattle.format.specs.Layout.{Layout, layout_bytes, record_start, LayoutObeys}
use Rattle.format.specs.Header.{read_layout}
use Rattle.format.specs.File.{type_of, variant_leans, read_over, over_as, variant_as}
use Rattle.format.specs.Reply.{refusal_of, given, samples_of, holds_row, out_as, read_as, lookup_out, lookup_call}
use Rattle.format.proofs.Rules.{Holds, by_bind, by_map, weaken, both, never_both, by_naming, by_need_of}
use Rattle.format.proofs.OffsetsLaws.{from_1_to_most}
use Rattle.format.proofs.AnchorLaws.{IsAnchor, anchor_is}
use Rattle.format.proofs.TrackLaws.{leans_track}
use Rattle.format.proofs.RowLaws.{IsRow, body_row}
use Rattle.format.proofs.BodyLaws.{IsBody, body_as_written, record_exactly}
use Rattle.format.proofs.PhaseLaws.{phases_over_length, phases_over_small}
use Rattle.format.proofs.HeaderLaws.{layout_read_back, IsLayout, layout_as_written}
use Rattle.format.proofs.FileLaws.{bodies_are_bytes, one_type_each}
use Rattle.format.proofs.CallRefusals.{stored_bytes, read_call_numbers, read_refusals, lookup_refusals}
use Rattle.promises.proofs.CallLaws.{accepted}

-- ---- what a variant reads as, of a file whose other records may be wrong; `what` is read of it, its categories or its phases

-- The record of variant v, over an anchor's categories, obeys and stands for `row`: it is the bytes of a body of its type that fits.
pub record RecordReads (what : ℕ → List ℕ → Body → List ℕ) (l : Layout) (lent : List ℕ) (v : FileVariant) (row : List ℕ) : Type 0 where
  pub body : Body
  pub typed : track_kind body.main ≡ kind_of (type_of l v)
  pub phased : has_phases body.phases ≡ type_phased (type_of l v)
  pub fits : BodyFits l.samples lent body
  pub written : get_or l.bodies v.0 [] ≡ body_bytes l.samples body
  pub stands_for : row ≡ what l.samples lent body

-- 01, Replies: "a read or lookup checks only its variant's, and an anchor is checked before the record that leans on it"
-- A variant that leans does so on the row of its anchor's record, any other on nothing.
abbrev pub VariantReads : (ℕ → List ℕ → Body → List ℕ) → ℕ → Layout → FileVariant → List ℕ → Type 0
VariantReads what K l v row =
    pick (variant_leans l v)
    ((lent : List ℕ) × RecordReads body_categories l [] (anchor K l.types v) lent × RecordReads what l lent v row)
    (RecordReads what l [] v row)

-- The file has a header that obeys, the variant is below M, and its record and its anchor's obey: it reads as `row`.
pub record Readable (what : ℕ → List ℕ → Body → List ℕ) (K : ℕ) (file : List ℕ) (v : FileVariant) (l : Layout) (row : List ℕ) : Type 0 where
  pub obeys : LayoutObeys K l
  pub written : file ≡ layout_bytes K l
  pub below : v.0 < length l.bodies
  pub reads : VariantReads what K l v row

-- ---- the format's own reading

module _ (K : ℕ) (file : List ℕ) (p : zero < K) (y : Bytes file) (l : Layout) (h : LayoutObeys K l) (w : file ≡ layout_bytes K l) where
  few : l.samples ≤ most_samples
  few = from_1_to_most most_samples l.samples h.fixed.samples

  body_bytes_are : (v : FileVariant) → Bytes (get_or l.bodies v.0 [])
  body_bytes_are v = stored_bytes v.0 l.bodies (bodies_are_bytes K file l y w)

  -- one record
  over_as_written : (what : ℕ → List ℕ → Body → List ℕ) (lent : List ℕ) (v : FileVariant)
      → Holds (λ (row : List ℕ) (left : List ℕ). RecordReads what l lent v row) (over_as what K l lent v)
  unfolding over_as
  over_as_written what lent v =
      let end : ℕ = record_start K l (next_variant v) in
      let bs : List ℕ = get_or l.bodies v.0 [] in
      by_map (IsBody l.samples lent (type_of l v) bs) (λ (row left : List ℕ). RecordReads what l lent v row)
      (naming v (read_body end l.samples lent (type_of l v) bs)) (what l.samples lent)
      (by_naming _ v (read_body end l.samples lent (type_of l v) bs) (body_as_written end l.samples lent (type_of l v) bs (body_bytes_are v)))
      (λ body left i.
      record { body = body; typed = i.kind; phased = i.phased; fits = i.fits; written = i.written; stands_for = refl })

  -- its body is the one that is read
  pub body_is_read : (what : ℕ → List ℕ → Body → List ℕ) (lent : List ℕ) (v : FileVariant) (row : List ℕ) (r : RecordReads what l lent v row)
      → read_body (record_start K l (next_variant v)) l.samples lent (type_of l v) (get_or l.bodies v.0 []) ≡ ok r.body []
  body_is_read what lent v row r =
      (record_exactly (record_start K l (next_variant v)) l.samples lent (type_of l v) (get_or l.bodies v.0 []) r.body few (body_bytes_are v)).1
      (r.typed, r.phased, r.fits, r.written)

  pub over_read_back : (what : ℕ → List ℕ → Body → List ℕ) (lent : List ℕ) (v : FileVariant) (row : List ℕ) → RecordReads what l lent v row
      → over_as what K l lent v ≡ ok row []
  unfolding over_as
  over_read_back what lent v row r =
      ap (λ (out : Out Body). map_out (what l.samples lent) (naming v out)) (body_is_read what lent v row r)
      ∙ ap (λ (x : List ℕ). ok x []) (sym r.stands_for)

  -- a variant and its anchor
  pub variant_as_written : (what : ℕ → List ℕ → Body → List ℕ) (v : FileVariant)
      → Holds (λ (row left : List ℕ). VariantReads what K l v row) (variant_as what K l v)
  unfolding variant_as
  variant_as_written what v = go (variant_leans l v)
    where
      go : (b : Bool)
          → Holds
          (λ (row left : List ℕ).
          pick b ((lent : List ℕ) × RecordReads body_categories l [] (anchor K l.types v) lent × RecordReads what l lent v row)
          (RecordReads what l [] v row))
          (pick b (bind (read_over K l [] (anchor K l.types v)) (λ row left. over_as what K l row v)) (over_as what K l [] v))
      go true =
          by_bind (λ (lent left : List ℕ). RecordReads body_categories l [] (anchor K l.types v) lent)
          (λ (row left : List ℕ). (lent : List ℕ) × RecordReads body_categories l [] (anchor K l.types v) lent × RecordReads what l lent v row)
          (read_over K l [] (anchor K l.types v)) _
          (over_as_written body_categories [] (anchor K l.types v)) (λ lent left r.
          weaken (λ (row left : List ℕ). RecordReads what l lent v row) _ (over_as what K l lent v) (λ row left q. (lent, r, q))
          (over_as_written what lent v))
      go false = over_as_written what [] v

  variant_read_back : (what : ℕ → List ℕ → Body → List ℕ) (v : FileVariant) (row : List ℕ) → VariantReads what K l v row → variant_as what K l v ≡ ok row []
  unfolding variant_as
  variant_read_back what v row r = go (variant_leans l v) r
    where
      go : (b : Bool)
          → pick b ((lent : List ℕ) × RecordReads body_categories l [] (anchor K l.types v) lent × RecordReads what l lent v row)
          (RecordReads what l [] v row)
          → pick b (bind (read_over K l [] (anchor K l.types v)) (λ row left. over_as what K l row v)) (over_as what K l [] v) ≡ ok row []
      go true q =
          ap (λ (out : Out (List ℕ)). bind out (λ row left. over_as what K l row v))
          (over_read_back body_categories [] (anchor K l.types v) q.0 q.1)
          ∙ over_read_back what q.0 v row q.2
      go false q = over_read_back what [] v row q

-- ---- what is read is a row: N categories, each 0 to 3; or as many phases, each 0 to 2

record_row : (l : Layout) (lent : List ℕ) (v : FileVariant) (row : List ℕ) → RecordReads body_categories l lent v row
    → (variant_leans l v ≡ true → IsRow l.samples lent) → IsRow l.samples row
record_row l lent v row r i =
    subst (IsRow l.samples) (sym r.stands_for)
    (body_row l.samples lent r.body r.fits (λ t. i (sym (ap leans r.typed) ∙ leans_track r.body.main ∙ t)))

-- a variant's record, over the row of its anchor, if it leans
pub record Leant (what : ℕ → List ℕ → Body → List ℕ) (l : Layout) (v : FileVariant) (row : List ℕ) : Type 0 where
  pub lent : List ℕ
  pub lent_row : variant_leans l v ≡ true → IsRow l.samples lent
  pub reads : RecordReads what l lent v row

pub variant_leant : (what : ℕ → List ℕ → Body → List ℕ) (K : ℕ) (l : Layout) (v : FileVariant) (row : List ℕ) → zero < K → LayoutObeys K l
    → v.0 < length l.bodies → VariantReads what K l v row → Leant what l v row
variant_leant what K l v row p h below r = go (variant_leans l v) refl r
  where
    go : (b : Bool) → variant_leans l v ≡ b
        → pick b ((lent : List ℕ) × RecordReads body_categories l [] (anchor K l.types v) lent × RecordReads what l lent v row)
        (RecordReads what l [] v row)
        → Leant what l v row
    go true t q =
        let a : IsAnchor K l.types v (anchor K l.types v)
        = anchor_is K l.types p h.types v (omega (arith, one_type_each K l h)) t in
        record {
          lent = q.0;
          lent_row = λ u. record_row l [] (anchor K l.types v) q.0 q.1 (λ s. never_both s a.stands);
          reads = q.2;
        }
    go false t q = record { lent = []; lent_row = λ s. never_both s t; reads = q }

pub variant_row : (K : ℕ) (l : Layout) (v : FileVariant) (row : List ℕ) → zero < K → LayoutObeys K l → v.0 < length l.bodies
    → VariantReads body_categories K l v row → IsRow l.samples row
variant_row K l v row p h below r =
    let a : Leant body_categories l v row = variant_leant body_categories K l v row p h below r in
    record_row l a.lent v row a.reads a.lent_row

pub variant_phases_row : (K : ℕ) (l : Layout) (v : FileVariant) (row : List ℕ) → zero < K → LayoutObeys K l → v.0 < length l.bodies
    → VariantReads body_phases K l v row → (length row ≡ l.samples) × Below 3 row
variant_phases_row K l v row p h below r =
    let a : Leant body_phases l v row = variant_leant body_phases K l v row p h below r in
    let b : Body = a.reads.body in
    let whole : IsRow l.samples (body_categories l.samples a.lent b)
    = body_row l.samples a.lent b a.reads.fits (λ t. a.lent_row (sym (ap leans a.reads.typed) ∙ leans_track b.main ∙ t)) in (
      ap length a.reads.stands_for ∙ phases_over_length _ b.phases ∙ whole.0,
      subst (Below 3) (sym a.reads.stands_for) (phases_over_small _ b.phases a.reads.fits.1),
    )

-- ---- the calls

module _ (what : ℕ → List ℕ → Body → List ℕ) (K : ℕ) (file : List ℕ) (v : FileVariant) where
  -- a header that obeys and a variant that is there are found so
  module _ (p : zero < K) (l : Layout) (row : List ℕ) (r : Readable what K file v l row) where
    header_found : read_layout K file ≡ ok l []
    header_found = ap (read_layout K) r.written ∙ layout_read_back K l p r.obeys

    row_found : Bytes file → variant_as what K l v ≡ ok row []
    row_found y = variant_read_back K file p y l r.obeys r.written what v row r.reads

    variant_found : ltb v.0 (length l.bodies) ≡ true
    variant_found = lt-ltb v.0 (length l.bodies) r.below

  module _ (p : zero < K) (y : Bytes file) (l : Layout) (left : List ℕ) (w : IsLayout K file l left) where
    found : (Q : List ℕ → List ℕ → Type 0) → ((row left : List ℕ) → Readable what K file v l row → Q row left)
        → ltb v.0 (length l.bodies) ≡ true → Holds Q (variant_as what K l v)
    found Q k t =
        weaken (λ (row left : List ℕ). VariantReads what K l v row) Q (variant_as what K l v) (λ row left r.
        k row left (record { obeys = w.obeys; written = w.written; below = ltb-true v.0 (length l.bodies) t; reads = r }))
        (variant_as_written K file p y l w.obeys w.written what v)

  module _ (output work : List ℕ) where
    -- what a read is accepted for
    abbrev pub MayRead : List ℕ → Type 0
    MayRead row = (l : Layout) × Readable what K file v l row × (l.samples ≤ length output) × (l.samples ≤ length work)

    may_read : zero < K → Bytes file → Holds (λ (row left : List ℕ). MayRead row) (out_as what K file v output work)
    may_read p y =
        by_bind (IsLayout K file) (λ (row left : List ℕ). MayRead row) (read_layout K file) _ (layout_as_written K file p y) (λ l left w.
        by_need_of (λ (row left : List ℕ). MayRead row) _ (holds_row output l && holds_row work l) 10 0 _ (λ t.
        let sizes = both (holds_row output l) (holds_row work l) t in
        by_need_of (λ (row left : List ℕ). MayRead row) _ (ltb v.0 (length l.bodies)) 11 0 _
        (found p y l left w (λ (row left : List ℕ). MayRead row) (λ row left r.
        (l, r, leb-true l.samples (length output) sizes.0, leb-true l.samples (length work) sizes.1)))))

    read_passes : zero < K → Bytes file → (row : List ℕ) → MayRead row → out_as what K file v output work ≡ ok row []
    read_passes p y row m =
        let l : Layout = m.0 in
        simp (
          header_found p l row m.1,
          le-leb l.samples (length output) m.2,
          le-leb l.samples (length work) m.3,
          variant_found p l row m.1,
          row_found p l row m.1 y,
        )

    -- DEMAND 2: a read, of categories or of phases, is accepted exactly when the header, the variant's record and its anchor's obey, the variant is below
    -- M, and output and work area have N bytes
    pub read_exactly : zero < K → Bytes file
        → ((read_as what K file v output work).verdict.refusal.number ≡ 0) ↔ ((row : List ℕ) × MayRead row)
    read_exactly p y = (
      λ e.
          let a = accepted read_call_numbers refl (out_as what K file v output work) (read_refusals what K file v output work p y) e in
          (a.0, subst (Holds (λ (row left : List ℕ). MayRead row)) a.2 (may_read p y)),
      λ h. ap (λ (out : Out (List ℕ)). (refusal_of out).number) (read_passes p y h.0 h.1),
    )

    -- and then it gives that row
    pub read_gives : zero < K → Bytes file → (row : List ℕ) (m : MayRead row)
        → (read_as what K file v output work).output ≡ row ++ drop m.0.samples output
    read_gives p y row m =
        ap (given (λ (x : List ℕ). x ++ drop (samples_of K file) output) output) (read_passes p y row m)
        ∙ ap (λ (out : Out Layout). row ++ drop (given (λ (l : Layout). l.samples) 0 out) output) (header_found p m.0 row m.1)

module _ (K : ℕ) (file : List ℕ) (v : FileVariant) (sample : ℕ) (work : List ℕ) where
  -- what a lookup is accepted for
  abbrev pub MayLookUp : List ℕ → Type 0
  MayLookUp row = (l : Layout) × Readable body_categories K file v l row × (sample < l.samples) × (l.samples ≤ length work)

  may_look_up : zero < K → Bytes file → Holds (λ (row left : List ℕ). MayLookUp row) (lookup_out K file v sample work)
  may_look_up p y =
      by_bind (IsLayout K file) (λ (row left : List ℕ). MayLookUp row) (read_layout K file) _ (layout_as_written K file p y) (λ l left w.
      by_need_of (λ (row left : List ℕ). MayLookUp row) _ (holds_row work l) 10 0 _ (λ t.
      by_need_of (λ (row left : List ℕ). MayLookUp row) _ (ltb v.0 (length l.bodies)) 11 0 _ (λ there.
      by_need_of (λ (row left : List ℕ). MayLookUp row) _ (ltb sample l.samples) 11 0 _ (λ s.
      found body_categories K file v p y l left w (λ (row left : List ℕ). MayLookUp row) (λ row left r.
      (l, r, ltb-true sample l.samples s, leb-true l.samples (length work) t)) there))))

  lookup_passes : zero < K → Bytes file → (row : List ℕ) → MayLookUp row → lookup_out K file v sample work ≡ ok row []
  lookup_passes p y row m =
      let l : Layout = m.0 in
      simp (
        header_found body_categories K file v p l row m.1,
        le-leb l.samples (length work) m.3,
        variant_found body_categories K file v p l row m.1,
        lt-ltb sample l.samples m.2,
        row_found body_categories K file v p l row m.1 y,
      )

  -- DEMAND 2: a lookup is accepted exactly when the header, the variant's record and its anchor's obey, the variant is below M, the sample below N, and
  -- the work area has N bytes
  pub lookup_exactly : zero < K → Bytes file
      → ((lookup_call K file v sample work).verdict.refusal.number ≡ 0) ↔ ((row : List ℕ) × MayLookUp row)
  unfolding lookup_call
  lookup_exactly p y = (
    λ e.
        let a = accepted read_call_numbers refl (lookup_out K file v sample work) (lookup_refusals K file v sample work p y) e in
        (a.0, subst (Holds (λ (row left : List ℕ). MayLookUp row)) a.2 (may_look_up p y)),
    λ h. ap (λ (out : Out (List ℕ)). (refusal_of out).number) (lookup_passes p y h.0 h.1),
  )

  -- and then it gives that row's category of the sample
  pub lookup_gives : zero < K → Bytes file → (row : List ℕ) → MayLookUp row → (lookup_call K file v sample work).category ≡ get_or row sample 0
  unfolding lookup_call
  lookup_gives p y row m = simp (lookup_passes p y row m)
