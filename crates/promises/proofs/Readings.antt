-- The two readings of a variant, its categories and its phases, and what a flip does to each: one rule for both.
-- Assumes nothing.
use mathlib.Core.Path.{◌≡◌, refl, sym, ap, ◌∙◌}
use Prim.Native.Nat.{ℕ, zero, suc, ◌<◌}
use mathlib.Core.Bool.{Bool, false}
use mathlib.Core.List.{List, [], ◌∷◌}
use lib.ListN.{length, get_or}
use Rattle.format.specs.declared.FileVariant.{FileVariant}
use Rattle.format.specs.Base.{ok}
use Rattle.format.specs.Category.{exchange_all}
use Rattle.format.specs.Phase.{exchange_phases}
use Rattle.format.specs.Body.{Body, body_leans, body_categories, body_phases, Reading, body_reading}
use Rattle.format.specs.Layout.{Layout, LayoutObeys}
use Rattle.format.specs.File.{File, layout_of_file, next_anchor, rows_as, no_reading, Obeys, variant_as, flip_file}
use Rattle.format.proofs.CategoryLaws.{exchange_all_none, exchange_all_length}
use Rattle.format.proofs.PhaseFlipLaws.{exchange_phases_none, exchange_phases_length}
use Rattle.format.proofs.FlipLaws.{pgen_laws}
use Rattle.format.proofs.ReadsLaws.{variant_reads, variant_phases}
use Rattle.promises.proofs.ReadExactly.{VariantReads, variant_row, variant_phases_row}

-- what variant v of a file reads as
abbrev pub row_as : (ℕ → List ℕ → Body → List ℕ) → File → FileVariant → List ℕ
row_as what f v = get_or (rows_as what f.samples [] f.bodies) v.0 []

-- a reading of N numbers, and its exchange, which a flip makes for a member
pub record IsReading (K : ℕ) (what : ℕ → List ℕ → Body → List ℕ) (exchange : Bool → List ℕ → List ℕ) : Type 0 where
  pub as_long : (b : Bool) (row : List ℕ) → length (exchange b row) ≡ length row
  pub none : (row : List ℕ) → exchange false row ≡ row
  pub wide : (l : Layout) (v : FileVariant) (row : List ℕ) → LayoutObeys K l → v.0 < length l.bodies → VariantReads what K l v row
      → length row ≡ l.samples
  pub reads : (f : File) (v : FileVariant) → Obeys K f → v.0 < length f.bodies → variant_as what K (layout_of_file f) v ≡ ok (row_as what f v) []
  pub flips : (member : FileVariant → Bool) (f : File) (v : FileVariant) → Obeys K f → v.0 < length f.bodies
      → row_as what (flip_file member f) v ≡ exchange (member v) (row_as what f v)

-- a part of both together
categories_at : (N : ℕ) (anchor : List ℕ) (bodies : List Body) (i : ℕ)
    → (get_or (rows_as body_reading N anchor bodies) i no_reading).categories ≡ get_or (rows_as body_categories N anchor bodies) i []
categories_at N anchor [] i = refl
categories_at N anchor (body ∷ bodies) zero = refl
categories_at N anchor (body ∷ bodies) (suc i) = categories_at N (next_anchor (body_leans body) anchor (body_categories N anchor body)) bodies i

phases_at : (N : ℕ) (anchor : List ℕ) (bodies : List Body) (i : ℕ)
    → (get_or (rows_as body_reading N anchor bodies) i no_reading).phases ≡ get_or (rows_as body_phases N anchor bodies) i []
phases_at N anchor [] i = refl
phases_at N anchor (body ∷ bodies) zero = refl
phases_at N anchor (body ∷ bodies) (suc i) = phases_at N (next_anchor (body_leans body) anchor (body_categories N anchor body)) bodies i

module _ (K : ℕ) (p : zero < K) where
  -- DEMAND 3: "Members read with categories 0 and 2 exchanged, all others as before."
  pub categories_reading : IsReading K body_categories exchange_all
  categories_reading = record {
    as_long = λ b row. exchange_all_length b row;
    none = λ row. exchange_all_none row;
    wide = λ l v row h below r. (variant_row K l v row p h below r).0;
    reads = λ f v h there. variant_reads K f p h v there;
    flips = λ member f v h there.
        sym (categories_at f.samples [] (flip_file member f).bodies v.0)
        ∙ ap (λ (r : Reading). r.categories) ((pgen_laws K p).flip_row member f h v there)
        ∙ ap (exchange_all (member v)) (categories_at f.samples [] f.bodies v.0);
  }

  -- 02, Ask 1: "exchanging readings 1 and 2"
  pub phases_reading : IsReading K body_phases exchange_phases
  phases_reading = record {
    as_long = λ b row. exchange_phases_length b row;
    none = λ row. exchange_phases_none row;
    wide = λ l v row h below r. (variant_phases_row K l v row p h below r).0;
    reads = λ f v h there. variant_phases K f p h v there;
    flips = λ member f v h there.
        sym (phases_at f.samples [] (flip_file member f).bodies v.0)
        ∙ ap (λ (r : Reading). r.phases) ((pgen_laws K p).flip_row member f h v there)
        ∙ ap (exchange_phases (member v)) (phases_at f.samples [] f.bodies v.0);
  }
