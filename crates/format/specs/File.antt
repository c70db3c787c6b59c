-- A whole file: when it obeys, its check, what each variant reads as, and the flip of a set. K is the number of variants to a block.
-- Assumes nothing.
use Rattle.std.specs.Prelude.{ℕ, ◌+◌, Bool, false, List, [], ◌∷◌, map, length, get_or}
use Rattle.format.specs.declared.FileVariant.{FileVariant}
use Rattle.format.specs.Base.{pick, Bytes, Out, ok, naming, bind, map_out}
use Rattle.format.specs.Container.{Container, flip_stored}
use Rattle.format.specs.Body.{type_leans, Body, body_type, body_leans, body_bytes, BodyFits, read_body, body_categories, flip_body}
use Rattle.format.specs.Body.{body_phases, Reading, body_reading, exchange_reading}
use Rattle.format.specs.Variant.{file_variant, next_variant, anchor}
use Rattle.format.specs.Layout.{Layout, fixed_of, first_record, layout_bytes, record_start, LayoutObeys}
use Rattle.format.specs.Header.{read_layout}

-- ---- what a file is

pub record File : Type 0 where
  pub mode : ℕ
  pub samples : ℕ
  pub form : ℕ
  pub flags : List ℕ
  pub bodies : List Body

abbrev pub layout_of_file : File → Layout
layout_of_file f = record {
  mode = f.mode;
  samples = f.samples;
  form = f.form;
  types = map body_type f.bodies;
  flags = f.flags;
  bodies = map (body_bytes f.samples) f.bodies;
}

unfoldable pub file_bytes : ℕ → File → List ℕ
file_bytes K f = layout_bytes K (layout_of_file f)

-- What the next record leans on, once one has been passed: what that one leant on if it leans, else its own.
-- A block's first record never leans, so this is "the nearest earlier variant in the same block" (law `anchor_carried`).
abbrev pub next_anchor {ℓ} : {X : Type ℓ} → Bool → X → X → X
next_anchor leaning lent own = pick leaning lent own

-- what each variant reads as, one after another; `what` says what of a body is read, anchor the categories that the first leans on, if it leans
abbrev pub rows_as : {A : Type 0} → (ℕ → List ℕ → Body → A) → ℕ → List ℕ → List Body → List A
rows_as what N anchor [] = []
rows_as what N anchor (body ∷ bodies) = what N anchor body ∷ rows_as what N (next_anchor (body_leans body) anchor (body_categories N anchor body)) bodies

-- its categories, and its phases
abbrev pub rows : ℕ → List ℕ → List Body → List (List ℕ)
rows N anchor bodies = rows_as body_categories N anchor bodies

abbrev pub phase_rows : ℕ → List ℕ → List Body → List (List ℕ)
phase_rows N anchor bodies = rows_as body_phases N anchor bodies

abbrev pub BodiesFit : ℕ → List ℕ → List Body → Type 0
BodiesFit N anchor [] = Unit {0}
BodiesFit N anchor (body ∷ bodies) =
    BodyFits N anchor body × BodiesFit N (next_anchor (body_leans body) anchor (body_categories N anchor body)) bodies

pub record Obeys (K : ℕ) (f : File) : Type 0 where
  pub layout : LayoutObeys K (layout_of_file f)
  pub bodies : BodiesFit f.samples [] f.bodies

-- ---- the whole-file check

-- 01, Replies: "the whole-file check, which goes in variant order". The first record is that of variant v and starts at `start`.
-- 02, Ask 2: a record's refusal names "the variant in whose record or type the fault lies".
unfoldable pub read_records : ℕ → FileVariant → ℕ → List ℕ → List ℕ → List (List ℕ) → Out (List Body)
read_records N v start anchor [] bodies = ok [] []
read_records N v start anchor (type ∷ types) [] = ok [] []
read_records N v start anchor (type ∷ types) (bs ∷ bodies) =
    bind (naming v (read_body (start + length bs) N anchor type bs)) (λ body left.
    map_out (◌∷◌ body)
    (read_records N (next_variant v) (start + length bs) (next_anchor (type_leans type) anchor (body_categories N anchor body)) types bodies))

abbrev pub file_of : Layout → List Body → File
file_of l bodies = record { mode = l.mode; samples = l.samples; form = l.form; flags = l.flags; bodies = bodies }

unfoldable pub read_all : ℕ → Layout → Out (List Body)
read_all K l = read_records l.samples (file_variant 0) (first_record K (fixed_of l)) [] l.types l.bodies

unfoldable pub read_file : ℕ → List ℕ → Out File
read_file K bs = bind (read_layout K bs) (λ l left. map_out (file_of l) (read_all K l))

-- ---- one variant

abbrev pub type_of : Layout → FileVariant → ℕ
type_of l v = get_or l.types v.0 0

abbrev pub variant_leans : Layout → FileVariant → Bool
variant_leans l v = type_leans (type_of l v)

-- `what` of a variant's body, over its anchor's categories; a refusal names the variant
unfoldable pub over_as : {A : Type 0} → (ℕ → List ℕ → Body → A) → ℕ → Layout → List ℕ → FileVariant → Out A
over_as what K l anchor v =
    map_out (what l.samples anchor)
    (naming v (read_body (record_start K l (next_variant v)) l.samples anchor (type_of l v) (get_or l.bodies v.0 [])))

abbrev pub read_over : ℕ → Layout → List ℕ → FileVariant → Out (List ℕ)
read_over K l anchor v = over_as body_categories K l anchor v

-- 01, Replies: "a read or lookup checks only its variant's, and an anchor is checked before the record that leans on it"
unfoldable pub variant_as : {A : Type 0} → (ℕ → List ℕ → Body → A) → ℕ → Layout → FileVariant → Out A
variant_as what K l v =
    pick (variant_leans l v)
    (bind (read_over K l [] (anchor K l.types v)) (λ row left. over_as what K l row v))
    (over_as what K l [] v)

abbrev pub read_variant : ℕ → Layout → FileVariant → Out (List ℕ)
read_variant K l v = variant_as body_categories K l v

-- what variant v of a file reads as: categories and phases together
abbrev pub read_row : ℕ → List ℕ → FileVariant → Out Reading
read_row K bs v = bind (read_layout K bs) (λ l left. variant_as body_reading K l v)

-- ---- the flip of a set of variants

-- from variant v on; lent: what the first leans on is in the set
abbrev pub flip_bodies : (FileVariant → Bool) → FileVariant → Bool → List Body → List Body
flip_bodies member v lent [] = []
flip_bodies member v lent (body ∷ bodies) =
    flip_body lent (member v) body ∷ flip_bodies member (next_variant v) (next_anchor (body_leans body) lent (member v)) bodies

-- 01, Flipping: "The flag bits and every length and offset stay. Only types and record bodies may differ."
abbrev pub flip_file : (FileVariant → Bool) → File → File
flip_file member f = file_of (layout_of_file f) (flip_bodies member (file_variant 0) false f.bodies)

abbrev pub no_reading : Reading
no_reading = record { categories = []; phases = [] }

-- a file in one piece is a container; what a variant reads as is its categories and its phases
abbrev pub pgen_file : ℕ → Container
pgen_file K = record {
  Stored = List ℕ;
  AreBytes = Bytes;
  Value = File;
  Obeys = Obeys K;
  bytes = file_bytes K;
  read = read_file K;
  variants = λ (f : File). length f.bodies;
  Row = Reading;
  row = λ (f : File) (v : FileVariant). get_or (rows_as body_reading f.samples [] f.bodies) v.0 no_reading;
  read_row = read_row K;
  exchange = exchange_reading;
  flip = flip_file;
}

-- in the stored bytes: of a file that the check accepts, the bytes of the flipped file
unfoldable pub flip_bytes : ℕ → (FileVariant → Bool) → List ℕ → List ℕ
flip_bytes K member bs = flip_stored (pgen_file K) member bs
