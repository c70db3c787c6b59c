-- The whole-file check accepts exactly the bytes of a file that obeys.
-- Assumes nothing.
use mathlib.Core.Path.{◌≡◌, refl, sym, ap, ap₂, ◌∙◌, subst}
use Prim.Native.Nat.{ℕ, zero, ◌+◌, ◌≤◌, ◌<◌}
use mathlib.Core.Bool.{Bool, true, not, ◌&&◌}
use mathlib.Core.Logic.{◌↔◌}
use mathlib.Core.List.{List, [], ◌∷◌, ◌++◌, map}
use lib.ListN.{length}
use lib.Dec.{eqb}
use native.Mathlib.Omega.{arith}
use Rattle.format.specs.declared.FileVariant.{FileVariant}
use Rattle.format.specs.Base.{Bytes, ok, naming}
use Rattle.format.specs.Limits.{most_samples}
use Rattle.format.specs.Body.{Body, body_type, body_bytes, read_body, body_categories, kind_of, type_leans, body_leans}
use Rattle.format.specs.Variant.{file_variant, next_variant, in_block}
use Rattle.format.specs.Layout.{header_bytes, first_record, Layout, fixed_of, columns_of, arrays_of, joined, in_parts, layout_bytes}
use Rattle.format.specs.Layout.{bits_allowed, TypesAllowed, LayoutObeys}
use Rattle.format.specs.Header.{read_layout}
use Rattle.format.specs.File.{File, layout_of_file, file_bytes, next_anchor, BodiesFit, Obeys, read_records, file_of, read_all, read_file}
use Rattle.format.proofs.Rules.{Holds, both, by_bind, by_map, below_after, by_naming}
use Rattle.format.proofs.BodyLaws.{body_read_back, IsBody, body_as_written, kept_leaning, body_leans_typed, type_as_read}
use Rattle.format.proofs.HeaderLaws.{layout_read_back, IsLayout, layout_as_written}
use Rattle.format.proofs.OffsetsLaws.{from_1_to_most, types_counted}

-- ---- the records of a file, in variant order

-- bodies that fit, written out, are read back
pub records_read_back : (N : ℕ) (v : FileVariant) (start : ℕ) (anchor : List ℕ) (bodies : List Body) → N ≤ most_samples → BodiesFit N anchor bodies
    → read_records N v start anchor (map body_type bodies) (map (body_bytes N) bodies) ≡ ok bodies []
unfolding read_records
records_read_back N v start anchor [] l f = refl
records_read_back N v start anchor (body ∷ bodies) l f =
    let end : ℕ = start + length (body_bytes N body) in
    simp (
      body_read_back end N anchor body l f.0,
      body_leans_typed N anchor body f.0,
      records_read_back N (next_variant v) end (next_anchor (body_leans body) anchor (body_categories N anchor body)) bodies l f.1,
    )

abbrev pub AllBytes : List (List ℕ) → Type 0
AllBytes [] = Unit {0}
AllBytes (bs ∷ rest) = Bytes bs × AllBytes rest

pub record AreRecords (N : ℕ) (anchor types : List ℕ) (stored : List (List ℕ)) (bodies : List Body) (left : List ℕ) : Type 0 where
  pub fit : BodiesFit N anchor bodies
  pub types_are : types ≡ map body_type bodies
  pub stored_are : stored ≡ map (body_bytes N) bodies
  pub ended : left ≡ []

-- the bits of each type are allowed
abbrev pub BitsAllowed : List ℕ → Type 0
BitsAllowed [] = Unit {0}
BitsAllowed (type ∷ types) = (bits_allowed type ≡ true) × BitsAllowed types

pub allowed_bits : (K : ℕ) (v : FileVariant) (types : List ℕ) → TypesAllowed K v types → BitsAllowed types
allowed_bits K v [] h = tt
allowed_bits K v (type ∷ types) h = (
  (both (bits_allowed type) (not (eqb (kind_of type) 5) && not (eqb (in_block K v).0 0 && type_leans type)) h.0).0,
  allowed_bits K (next_variant v) types h.1,
)

-- what is accepted are bodies that fit, written out
pub records_as_written : (N : ℕ) (v : FileVariant) (start : ℕ) (anchor types : List ℕ) (stored : List (List ℕ)) → length types ≡ length stored
    → BitsAllowed types → AllBytes stored → Holds (AreRecords N anchor types stored) (read_records N v start anchor types stored)
unfolding read_records
records_as_written N v start anchor [] [] n t y = record { fit = tt; types_are = refl; stored_are = refl; ended = refl }
records_as_written N v start anchor [] (bs ∷ stored) n t y = absurd (omega arith)
records_as_written N v start anchor (type ∷ types) [] n t y = absurd (omega arith)
records_as_written N v start anchor (type ∷ types) (bs ∷ stored) n t y =
    let end : ℕ = start + length bs in
    by_bind (IsBody N anchor type bs) (AreRecords N anchor (type ∷ types) (bs ∷ stored)) (naming v (read_body end N anchor type bs)) _
    (by_naming _ v (read_body end N anchor type bs) (body_as_written end N anchor type bs y.0)) (λ body left w.
    let next : List ℕ = next_anchor (type_leans type) anchor (body_categories N anchor body) in
    by_map (AreRecords N next types stored) (AreRecords N anchor (type ∷ types) (bs ∷ stored)) (read_records N (next_variant v) end next types stored) _
    (records_as_written N (next_variant v) end next types stored (omega arith) t.1 y.1) (λ bodies left₂ r.
    let same : next ≡ next_anchor (body_leans body) anchor (body_categories N anchor body)
    = ap (λ (b : Bool). next_anchor b anchor (body_categories N anchor body)) (sym (kept_leaning w)) in
    let kept : type ≡ body_type body = sym (type_as_read t.0 w) in
    record {
      fit = (w.fits, subst (λ (x : List ℕ). BodiesFit N x bodies) same r.fit);
      types_are = ap₂ ◌∷◌ kept r.types_are;
      stored_are = ap₂ ◌∷◌ w.written r.stored_are;
      ended = r.ended;
    }))

-- ---- the bodies of a layout are bytes, one for each type

pub joined_bytes : (stored : List (List ℕ)) → Bytes (joined stored) → AllBytes stored
unfolding joined
joined_bytes [] y = tt
joined_bytes (bs ∷ stored) y = (front bs (joined stored) y, joined_bytes stored (below_after 256 bs (joined stored) y))
  where
    front : (xs ys : List ℕ) → Bytes (xs ++ ys) → Bytes xs
    front [] ys h = tt
    front (x ∷ xs) ys h = (h.0, front xs ys h.1)

pub bodies_are_bytes : (K : ℕ) (bs : List ℕ) (l : Layout) → Bytes bs → bs ≡ layout_bytes K l → AllBytes l.bodies
unfolding layout_bytes in_parts
bodies_are_bytes K bs l y e =
    joined_bytes l.bodies (below_after 256 (header_bytes K (fixed_of l) (arrays_of K l)) (joined l.bodies) (rw e at y))

pub one_type_each : (K : ℕ) (l : Layout) → LayoutObeys K l → length l.types ≡ length l.bodies
one_type_each K l h = types_counted (fixed_of l) (columns_of l) h.columns

-- ---- the file

pub record IsFile (K : ℕ) (bs : List ℕ) (f : File) (left : List ℕ) : Type 0 where
  pub obeys : Obeys K f
  pub written : bs ≡ file_bytes K f
  pub ended : left ≡ []

-- the layout of what was read is the layout it was read from
same_layout : (l : Layout) (bodies : List Body) → l.types ≡ map body_type bodies → l.bodies ≡ map (body_bytes l.samples) bodies
    → l ≡ layout_of_file (file_of l bodies)
same_layout l bodies t b = rw (← t, ← b)

-- the bytes of a file that obeys are read back as that file
pub file_read_back : (K : ℕ) (f : File) → zero < K → Obeys K f → read_file K (file_bytes K f) ≡ ok f []
unfolding read_file read_all file_bytes
file_read_back K f p h =
    let l : Layout = layout_of_file f in
    simp (
      layout_read_back K l p h.layout,
      records_read_back f.samples (file_variant 0) (first_record K (fixed_of l)) [] f.bodies
          (from_1_to_most most_samples f.samples h.layout.fixed.samples) h.bodies,
    )

-- what the whole-file check accepts obeys, and its bytes are those of the file
pub file_as_written : (K : ℕ) (bs : List ℕ) → zero < K → Bytes bs → Holds (IsFile K bs) (read_file K bs)
unfolding read_file read_all file_bytes
file_as_written K bs p y =
    by_bind (IsLayout K bs) (IsFile K bs) (read_layout K bs) _ (layout_as_written K bs p y) (λ l left w.
    by_map (AreRecords l.samples [] l.types l.bodies) (IsFile K bs)
    (read_records l.samples (file_variant 0) (first_record K (fixed_of l)) [] l.types l.bodies) _
    (records_as_written l.samples (file_variant 0) (first_record K (fixed_of l)) [] l.types l.bodies (one_type_each K l w.obeys)
    (allowed_bits K (file_variant 0) l.types w.obeys.types) (bodies_are_bytes K bs l y w.written))
    (λ bodies left₂ v.
    let same : l ≡ layout_of_file (file_of l bodies) = same_layout l bodies v.types_are v.stored_are in
    record {
      obeys = record { layout = subst (LayoutObeys K) same w.obeys; bodies = v.fit };
      written = w.written ∙ ap (layout_bytes K) same;
      ended = v.ended;
    }))

-- DEMAND 2: a file is accepted exactly when it is the bytes of a file that obeys
pub file_exactly : (K : ℕ) (bs : List ℕ) (f : File) → zero < K → Bytes bs → (read_file K bs ≡ ok f []) ↔ (Obeys K f × (bs ≡ file_bytes K f))
file_exactly K bs f p y = (
  λ e. let h : IsFile K bs f [] = subst (Holds (IsFile K bs)) e (file_as_written K bs p y) in (h.obeys, h.written),
  λ h. rw h.1 (file_read_back K f p h.0),
)

-- two files that obey and have the same bytes are one
pub file_unique : (K : ℕ) (f g : File) → zero < K → Obeys K f → Obeys K g → file_bytes K f ≡ file_bytes K g → f ≡ g
file_unique K f g p h k e =
    let a : read_file K (file_bytes K f) ≡ ok f [] = file_read_back K f p h in
    let b : read_file K (file_bytes K g) ≡ ok g [] = file_read_back K g p k in
    cc
