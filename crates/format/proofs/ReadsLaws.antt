-- What one variant of an accepted file reads as: the row that the format defines, also where it leans on an anchor.
-- Assumes nothing.
use mathlib.Core.Path.{◌≡◌, refl, sym, ap, ap₂, ◌∙◌, subst}
use Prim.Native.Nat.{ℕ, zero, suc, ◌≤◌, ◌<◌}
use mathlib.Core.Bool.{Bool, true, false}
use mathlib.Core.List.{List, [], ◌∷◌, map}
use lib.ListN.{length, get_or, length-map, get_or-map}
use native.Mathlib.Omega.{arith}
use Rattle.format.specs.declared.FileVariant.{FileVariant}
use Rattle.format.specs.Base.{pick, Bytes, Out, ok, refused, bind, map_out, naming}
use Rattle.format.specs.Limits.{most_samples}
use Rattle.format.specs.Track.{plain}
use Rattle.format.specs.Phase.{no_phases}
use Rattle.format.specs.Body.{Body, body_type, body_bytes, BodyFits, read_body, body_categories, body_phases, body_reading, type_leans, body_leans}
use Rattle.format.specs.Variant.{file_variant, next_variant, anchor}
use Rattle.format.specs.Layout.{Layout, record_start}
use Rattle.format.specs.File.{File, layout_of_file, file_bytes, next_anchor, rows_as, rows, phase_rows, BodiesFit, Obeys, read_file, type_of}
use Rattle.format.specs.File.{over_as, read_over, variant_as, read_variant, read_row, no_reading, variant_leans}
use Rattle.format.proofs.Rules.{by_test, split}
use Rattle.format.proofs.BodyLaws.{body_read_back, body_leans_typed}
use Rattle.format.proofs.RowLaws.{row_anchor_unused, phases_anchor_unused, reading_anchor_unused, body_fits_anchor_unused}
use Rattle.format.proofs.AnchorLaws.{IsAnchor, anchor_is}
use Rattle.format.proofs.OffsetsLaws.{from_1_to_most}
use Rattle.format.proofs.HeaderLaws.{layout_read_back}
use Rattle.format.proofs.FileLaws.{file_exactly}

-- ---- what is carried from record to record is the anchor's row

-- some body, for an index past the last
abbrev pub no_body : Body
no_body = record { main = plain []; phases = no_phases }

-- what variant v leans on, if it leans, when the first leans on `lent`
unfoldable pub carried : ℕ → List ℕ → List Body → ℕ → List ℕ
carried N lent [] v = lent
carried N lent (body ∷ bodies) zero = lent
carried N lent (body ∷ bodies) (suc v) = carried N (next_anchor (body_leans body) lent (body_categories N lent body)) bodies v

-- whatever is read of a body: that of variant v is read over what it leans on. `none` stands past the last.
pub row_at_as : {A : Type 0} (what : ℕ → List ℕ → Body → A) (none : A) (N : ℕ) (lent : List ℕ) (bodies : List Body) (v : ℕ) → v < length bodies
    → get_or (rows_as what N lent bodies) v none ≡ what N (carried N lent bodies v) (get_or bodies v no_body)
unfolding carried
row_at_as what none N lent [] v l = absurd (omega arith)
row_at_as what none N lent (body ∷ bodies) zero l = refl
row_at_as what none N lent (body ∷ bodies) (suc v) l =
    row_at_as what none N (next_anchor (body_leans body) lent (body_categories N lent body)) bodies v (omega arith)

pub row_at : (N : ℕ) (lent : List ℕ) (bodies : List Body) (v : ℕ) → v < length bodies
    → get_or (rows N lent bodies) v [] ≡ body_categories N (carried N lent bodies v) (get_or bodies v no_body)
row_at N lent bodies v l = row_at_as body_categories [] N lent bodies v l

pub fits_at : (N : ℕ) (lent : List ℕ) (bodies : List Body) (v : ℕ) → BodiesFit N lent bodies → v < length bodies
    → BodyFits N (carried N lent bodies v) (get_or bodies v no_body)
unfolding carried
fits_at N lent [] v f l = absurd (omega arith)
fits_at N lent (body ∷ bodies) zero f l = f.0
fits_at N lent (body ∷ bodies) (suc v) f l = fits_at N (next_anchor (body_leans body) lent (body_categories N lent body)) bodies v f.1 (omega arith)

carried_next : (N : ℕ) (lent : List ℕ) (bodies : List Body) (v : ℕ) → v < length bodies
    → carried N lent bodies (suc v) ≡ next_anchor (body_leans (get_or bodies v no_body)) (carried N lent bodies v) (get_or (rows N lent bodies) v [])
unfolding carried
carried_next N lent [] v l = absurd (omega arith)
carried_next N lent (body ∷ []) zero l = refl
carried_next N lent (body ∷ (next ∷ bodies)) zero l = refl
carried_next N lent (body ∷ bodies) (suc v) l = carried_next N (next_anchor (body_leans body) lent (body_categories N lent body)) bodies v (omega arith)

-- the nearest earlier variant that does not lean is what is carried
pub anchor_carried : (N : ℕ) (lent : List ℕ) (bodies : List Body) (w v : ℕ) → w < v → v ≤ length bodies
    → body_leans (get_or bodies w no_body) ≡ false → ((u : ℕ) → w < u → u < v → body_leans (get_or bodies u no_body) ≡ true)
    → carried N lent bodies v ≡ get_or (rows N lent bodies) w []
anchor_carried N lent bodies w zero b l s k = absurd (omega arith)
anchor_carried N lent bodies w (suc u) b l s k =
    carried_next N lent bodies u (omega arith)
    ∙ split u w
    (λ h. let e : u ≡ w = omega arith in rw e (simp s))
    (λ h. simp (k u h (omega arith)) (anchor_carried N lent bodies w u h (omega arith) s (λ x a c. k x a (omega arith))))

-- ---- a variant's record

module _ (K : ℕ) (f : File) (p : zero < K) (h : Obeys K f) where
  type_at : (v : FileVariant) → v.0 < length f.bodies → type_of (layout_of_file f) v ≡ body_type (get_or f.bodies v.0 no_body)
  type_at v l = get_or-map body_type f.bodies v.0 no_body

  leans_at : (v : FileVariant) → v.0 < length f.bodies → variant_leans (layout_of_file f) v ≡ body_leans (get_or f.bodies v.0 no_body)
  leans_at v l =
      let N : ℕ = f.samples in
      ap type_leans (type_at v l)
      ∙ body_leans_typed N (carried N [] f.bodies v.0) (get_or f.bodies v.0 no_body) (fits_at N [] f.bodies v.0 h.bodies l)

  bytes_at : (v : ℕ) (bodies : List Body) → v < length bodies
      → get_or (map (body_bytes f.samples) bodies) v [] ≡ body_bytes f.samples (get_or bodies v no_body)
  bytes_at v [] l = absurd (omega arith)
  bytes_at zero (body ∷ bodies) l = refl
  bytes_at (suc v) (body ∷ bodies) l = bytes_at v bodies (omega arith)

  -- the anchor's row is what it leans on, if it leans
  anchor_row : (v : FileVariant) → v.0 < length f.bodies → variant_leans (layout_of_file f) v ≡ true
      → let w : FileVariant = anchor K (map body_type f.bodies) v in
      (w.0 < length f.bodies) × (body_leans (get_or f.bodies w.0 no_body) ≡ false)
      × (carried f.samples [] f.bodies v.0 ≡ get_or (rows f.samples [] f.bodies) w.0 [])
  anchor_row v l t =
      let types : List ℕ = map body_type f.bodies in
      let count : length types ≡ length f.bodies = length-map f.bodies body_type in
      let w : FileVariant = anchor K types v in
      let a : IsAnchor K types v w = anchor_is K types p h.layout.types v (omega arith) t in
      let m : w.0 < length f.bodies = omega (arith, a.before) in
      let stands : body_leans (get_or f.bodies w.0 no_body) ≡ false = sym (leans_at w m) ∙ a.stands in (
        m,
        stands,
        anchor_carried f.samples [] f.bodies w.0 v.0 a.before (omega arith) stands
            (λ u x y. sym (leans_at (file_variant u) (omega arith)) ∙ a.between (file_variant u) x y),
      )

  -- whatever is read of a body, of one that leans on none it is the same over every anchor
  abbrev Unleaning : {A : Type 0} → (ℕ → List ℕ → Body → A) → Type 0
  Unleaning what = (anchor other : List ℕ) (body : Body) → body_leans body ≡ false → what f.samples anchor body ≡ what f.samples other body

  module _ {A : Type 0} (what : ℕ → List ℕ → Body → A) (none : A) (unleaning : Unleaning what) where
    abbrev row_of : FileVariant → A
    row_of v = get_or (rows_as what f.samples [] f.bodies) v.0 none

    -- over what its body fits, that body is read
    over_reads : (lent : List ℕ) (v : FileVariant) → v.0 < length f.bodies → BodyFits f.samples lent (get_or f.bodies v.0 no_body)
        → over_as what K (layout_of_file f) lent v ≡ ok (what f.samples lent (get_or f.bodies v.0 no_body)) []
    unfolding over_as
    over_reads lent v l g =
        let N : ℕ = f.samples in
        let body : Body = get_or f.bodies v.0 no_body in
        let end : ℕ = record_start K (layout_of_file f) (next_variant v) in
        ap₂ (λ (t : ℕ) (bs : List ℕ). map_out (what N lent) (naming v (read_body end N lent t bs))) (type_at v l) (bytes_at v.0 f.bodies l)
        ∙ ap (λ (m : Out Body). map_out (what N lent) (naming v m))
        (body_read_back end N lent body (from_1_to_most most_samples N h.layout.fixed.samples) g)

    -- one that does not lean is read over nothing
    stands_reads : (v : FileVariant) → v.0 < length f.bodies → body_leans (get_or f.bodies v.0 no_body) ≡ false
        → over_as what K (layout_of_file f) [] v ≡ ok (row_of v) []
    stands_reads v l s =
        let N : ℕ = f.samples in
        let body : Body = get_or f.bodies v.0 no_body in
        let lent : List ℕ = carried N [] f.bodies v.0 in
        over_reads [] v l (body_fits_anchor_unused N lent [] body s (fits_at N [] f.bodies v.0 h.bodies l))
        ∙ ap (λ (row : A). ok row []) (unleaning [] lent body s ∙ sym (row_at_as what none N [] f.bodies v.0 l))

  -- one that leans is read over its anchor's row
  leans_reads : {A : Type 0} (what : ℕ → List ℕ → Body → A) (none : A) (unleaning : Unleaning what) (v : FileVariant) → v.0 < length f.bodies
      → variant_leans (layout_of_file f) v ≡ true
      → bind (read_over K (layout_of_file f) [] (anchor K (layout_of_file f).types v)) (λ lent left. over_as what K (layout_of_file f) lent v)
      ≡ ok (row_of what none unleaning v) []
  leans_reads {A} what none unleaning v l t =
      let N : ℕ = f.samples in
      let w : FileVariant = anchor K (map body_type f.bodies) v in
      let a = anchor_row v l t in
      let row : List ℕ = get_or (rows N [] f.bodies) w.0 [] in
      let fits : BodyFits N row (get_or f.bodies v.0 no_body)
      = subst (λ (x : List ℕ). BodyFits N x (get_or f.bodies v.0 no_body)) a.2 (fits_at N [] f.bodies v.0 h.bodies l) in
      ap (λ (out : Out (List ℕ)). bind out (λ lent left. over_as what K (layout_of_file f) lent v))
      (stands_reads body_categories [] (row_anchor_unused N) w a.0 a.1)
      ∙ over_reads what none unleaning row v l fits
      ∙ ap (λ (x : A). ok x [])
      (ap (λ (x : List ℕ). what N x (get_or f.bodies v.0 no_body)) (sym a.2) ∙ sym (row_at_as what none N [] f.bodies v.0 l))

  -- a variant of a file that obeys reads as its row
  pub variant_reads_as : {A : Type 0} (what : ℕ → List ℕ → Body → A) (none : A) → Unleaning what → (v : FileVariant) → v.0 < length f.bodies
      → variant_as what K (layout_of_file f) v ≡ ok (get_or (rows_as what f.samples [] f.bodies) v.0 none) []
  unfolding variant_as
  variant_reads_as {A} what none unleaning v l =
      by_test (λ (out : Out A). out ≡ ok (row_of what none unleaning v) []) (variant_leans (layout_of_file f) v)
      (λ t. leans_reads what none unleaning v l t) (λ t. stands_reads what none unleaning v l (sym (leans_at v l) ∙ t))

  -- its categories; its phases
  pub variant_reads : (v : FileVariant) → v.0 < length f.bodies
      → read_variant K (layout_of_file f) v ≡ ok (get_or (rows f.samples [] f.bodies) v.0 []) []
  variant_reads v l = variant_reads_as body_categories [] (row_anchor_unused f.samples) v l

  pub variant_phases : (v : FileVariant) → v.0 < length f.bodies
      → variant_as body_phases K (layout_of_file f) v ≡ ok (get_or (phase_rows f.samples [] f.bodies) v.0 []) []
  variant_phases v l = variant_reads_as body_phases [] (phases_anchor_unused f.samples) v l

-- so does one of its bytes: categories and phases together
pub row_reads : (K : ℕ) (f : File) → zero < K → Obeys K f → (v : FileVariant) → v.0 < length f.bodies
    → read_row K (file_bytes K f) v ≡ ok (get_or (rows_as body_reading f.samples [] f.bodies) v.0 no_reading) []
unfolding file_bytes
row_reads K f p h v l =
    ap (λ (out : Out Layout). bind out (λ layout left. variant_as body_reading K layout v)) (layout_read_back K (layout_of_file f) p h.layout)
    ∙ variant_reads_as K f p h body_reading no_reading (reading_anchor_unused f.samples) v l

-- DEMAND 2: each variant of an accepted file reads as the format defines
pub reads_as : (K : ℕ) (bs : List ℕ) (f : File) → zero < K → Bytes bs → read_file K bs ≡ ok f [] → (v : FileVariant) → v.0 < length f.bodies
    → read_row K bs v ≡ ok (get_or (rows_as body_reading f.samples [] f.bodies) v.0 no_reading) []
reads_as K bs f p y e v l = let h = (file_exactly K bs f p y).0 e in rw h.1 (row_reads K f p h.0 v l)

-- ---- a part of what is read

-- whatever is made of what is read of a variant may be read at once
pub over_map : {A B : Type 0} (what : ℕ → List ℕ → Body → A) (g : A → B) (K : ℕ) (l : Layout) (anchor : List ℕ) (v : FileVariant)
    → over_as (λ (N : ℕ) (anchor : List ℕ) (body : Body). g (what N anchor body)) K l anchor v ≡ map_out g (over_as what K l anchor v)
unfolding over_as
over_map what g K l anchor v =
    map_twice (what l.samples anchor) g
    (naming v (read_body (record_start K l (next_variant v)) l.samples anchor (type_of l v) (get_or l.bodies v.0 [])))
  where
    map_twice : {A B C : Type 0} (f : A → B) (g : B → C) (m : Out A) → map_out (λ (a : A). g (f a)) m ≡ map_out g (map_out f m)
    map_twice f g (ok a left) = refl
    map_twice f g (refused why) = refl

pub variant_map : {A B : Type 0} (what : ℕ → List ℕ → Body → A) (g : A → B) (K : ℕ) (l : Layout) (v : FileVariant)
    → variant_as (λ (N : ℕ) (anchor : List ℕ) (body : Body). g (what N anchor body)) K l v ≡ map_out g (variant_as what K l v)
unfolding variant_as
variant_map {A} {B} what g K l v = by (variant_leans l v)
  where
    made : ℕ → List ℕ → Body → B
    made N anchor body = g (what N anchor body)

    through : (m : Out (List ℕ)) → bind m (λ row left. over_as made K l row v) ≡ map_out g (bind m (λ row left. over_as what K l row v))
    through (ok row left) = over_map what g K l row v
    through (refused why) = refl

    by : (t : Bool) → pick t (bind (read_over K l [] (anchor K l.types v)) (λ row left. over_as made K l row v)) (over_as made K l [] v)
        ≡ map_out g (pick t (bind (read_over K l [] (anchor K l.types v)) (λ row left. over_as what K l row v)) (over_as what K l [] v))
    by true = through (read_over K l [] (anchor K l.types v))
    by false = over_map what g K l [] v
