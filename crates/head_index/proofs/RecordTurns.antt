-- One turn of a loop over the records of a file, in variant order, as code takes it by index.
-- Assumes nothing.
use mathlib.Core.Path.{◌≡◌, refl, sym, ap, ap₂, ◌∙◌}
use mathlib.Core.Bool.{Bool, true, false}
use Prim.Native.Nat.{ℕ, zero, suc, ◌<◌}
use mathlib.Core.List.{List, [], ◌∷◌, ◌++◌}
use lib.ListN.{length, get_or, take, drop}
use lib.Seq.{drop-cons, drop-length, take_at, drop_at}
use native.Mathlib.Omega.{arith}
use Rattle.format.specs.Base.{pick, Bytes, Out, ok, bind, map_out, refused, naming}
use Rattle.format.specs.Body.{Body, read_body, body_categories, body_leans}
use Rattle.format.specs.Variant.{file_variant}
use Rattle.format.specs.Layout.{sum, first_record, Layout, fixed_of, record_start, LayoutObeys}
use Rattle.format.specs.File.{next_anchor, read_records, read_all, type_of, variant_leans}
use Rattle.format.proofs.Rules.{split, never_both}
use Rattle.format.proofs.BodyLaws.{kept_leaning}
use Rattle.format.proofs.RowLaws.{body_row, anchor_unused, row_anchor_unused}
use Rattle.head_index.proofs.InOrderLaws.{read_leans, read_is}
use Rattle.head_index.proofs.StartLaws.{record_end}
use Rattle.format.proofs.FileLaws.{one_type_each}
use native.Mathlib.Nat.{add-zero}

-- accepted or refused, and how
abbrev pub outcome : {A : Type 0} → Out A → Out (Unit {0})
outcome (ok a left) = ok tt []
outcome (refused why) = refused why

pub outcome_map : {A B : Type 0} (f : A → B) (m : Out A) → outcome (map_out f m) ≡ outcome m
outcome_map f (ok a left) = refl
outcome_map f (refused why) = refl

-- what is left to check from variant v on, over the categories that it leans on
unfoldable pub left_to_check : ℕ → Layout → ℕ → List ℕ → Out (Unit {0})
left_to_check K l v lent =
    outcome (read_records l.samples (file_variant v) (record_start K l (file_variant v)) lent (drop v l.types) (drop v l.bodies))

-- the record of variant v, read over those categories
abbrev pub record_over : ℕ → Layout → ℕ → List ℕ → Out Body
record_over K l v lent =
    naming (file_variant v)
    (read_body (record_start K l (file_variant (suc v))) l.samples lent (type_of l (file_variant v)) (get_or l.bodies v []))

abbrev pub then_check : ℕ → Layout → ℕ → List ℕ → Out Body → Out (Unit {0})
then_check K l v lent (ok body left) = left_to_check K l (suc v) (next_anchor (variant_leans l (file_variant v)) lent (body_categories l.samples lent body))
then_check K l v lent (refused why) = refused why

-- at the start all is left, at the end nothing
pub all_left : (K : ℕ) (l : Layout) → left_to_check K l 0 [] ≡ outcome (read_all K l)
unfolding left_to_check read_all record_start sum
all_left K l = ap (λ (start : ℕ). outcome (read_records l.samples (file_variant 0) start [] l.types l.bodies)) (add-zero (first_record K (fixed_of l)))

pub none_left : (K : ℕ) (l : Layout) (lent : List ℕ) → LayoutObeys K l → left_to_check K l (length l.bodies) lent ≡ ok tt []
unfolding left_to_check read_records
none_left K l lent h =
    ap₂ (λ (types : List ℕ) (bodies : List (List ℕ)). outcome
    (read_records l.samples (file_variant (length l.bodies)) (record_start K l (file_variant (length l.bodies))) lent types bodies))
    (ap (λ (n : ℕ). drop n l.types) (sym (one_type_each K l h)) ∙ drop-length l.types) (drop-length l.bodies)

-- the record of v, and then what is left
pub turn_check : (K : ℕ) (l : Layout) (v : ℕ) (lent : List ℕ) → LayoutObeys K l → v < length l.bodies
    → left_to_check K l v lent ≡ then_check K l v lent (record_over K l v lent)
unfolding left_to_check read_records
turn_check K l v lent h m =
    let N : ℕ = l.samples in
    let start : ℕ = record_start K l (file_variant v) in
    let body : List ℕ = get_or l.bodies v [] in
    let there : v < length l.types = omega (arith, one_type_each K l h) in
    ap₂ (λ (types : List ℕ) (bodies : List (List ℕ)). outcome (read_records N (file_variant v) start lent types bodies))
    (drop-cons l.types v 0 there) (drop-cons l.bodies v [] m)
    ∙ ap (λ (end : ℕ). outcome (bind (naming (file_variant v) (read_body end N lent (type_of l (file_variant v)) body)) (λ x left. map_out (◌∷◌ x)
    (read_records N (file_variant (suc v)) end (next_anchor (variant_leans l (file_variant v)) lent (body_categories N lent x)) (drop (suc v) l.types)
    (drop (suc v) l.bodies)))))
    (sym (record_end K (file_variant v) l m))
    ∙ go (record_over K l v lent)
  where
    go : (out : Out Body) → outcome (bind out (λ x left. map_out (◌∷◌ x)
        (read_records l.samples (file_variant (suc v)) (record_start K l (file_variant (suc v)))
        (next_anchor (variant_leans l (file_variant v)) lent (body_categories l.samples lent x)) (drop (suc v) l.types) (drop (suc v) l.bodies))))
        ≡ then_check K l v lent out
    go (ok x left) =
        outcome_map (◌∷◌ x)
        (read_records l.samples (file_variant (suc v)) (record_start K l (file_variant (suc v)))
        (next_anchor (variant_leans l (file_variant v)) lent (body_categories l.samples lent x)) (drop (suc v) l.types) (drop (suc v) l.bodies))
    go (refused why) = refl

-- ---- the row that a loop keeps

module _ (K : ℕ) (l : Layout) (p : zero < K) (h : LayoutObeys K l) where
  -- a record that leans on none is read alike over every row, and so is all that follows it
  pub over_any : (v : ℕ) (lent other : List ℕ) → Bytes (get_or l.bodies v []) → v < length l.bodies → variant_leans l (file_variant v) ≡ false
      → left_to_check K l v lent ≡ left_to_check K l v other
  over_any v lent other y m s =
      turn_check K l v lent h m
      ∙ ap (λ (out : Out Body). then_check K l v lent (naming (file_variant v) out))
      (anchor_unused (record_start K l (file_variant (suc v))) l.samples lent other (type_of l (file_variant v)) (get_or l.bodies v []) s)
      ∙ go (record_over K l v other) refl
      ∙ sym (turn_check K l v other h m)
    where
      go : (out : Out Body) → record_over K l v other ≡ out → then_check K l v lent out ≡ then_check K l v other out
      go (refused why) e = refl
      go (ok body left) e =
          let stands : body_leans body ≡ false = (read_leans K l p h v other body left y e).0 ∙ s in
          ap (left_to_check K l (suc v))
          (ap (λ (b : Bool). pick b lent (body_categories l.samples lent body)) s
          ∙ row_anchor_unused l.samples lent other body stands
          ∙ sym (ap (λ (b : Bool). pick b other (body_categories l.samples other body)) s))

  -- what follows variant v does not look at the row where the next record leans on none, or there is none
  pub next_any : (v : ℕ) (lent other : List ℕ) → Bytes (get_or l.bodies (suc v) []) → v < length l.bodies
      → (suc v < length l.bodies → variant_leans l (file_variant (suc v)) ≡ false) → left_to_check K l (suc v) lent ≡ left_to_check K l (suc v) other
  next_any v lent other y m s =
      split (suc (suc v)) (length l.bodies) (λ g. over_any (suc v) lent other y g (s g))
      (λ g.
      let e : suc v ≡ length l.bodies = omega arith in
      rw e (none_left K l lent h ∙ sym (none_left K l other h)))

  -- a record that stands has N categories
  pub row_count : (v : ℕ) (lent : List ℕ) (body : Body) (left : List ℕ) → Bytes (get_or l.bodies v []) → record_over K l v lent ≡ ok body left
      → variant_leans l (file_variant v) ≡ false → length (body_categories l.samples lent body) ≡ l.samples
  row_count v lent body left y e s =
      let w = read_is K l p h v lent body left y e in
      (body_row l.samples lent body w.fits (λ t. never_both t (kept_leaning w ∙ s))).0

  -- a record's categories at the front of a row, unless it leans: then the row stays
  abbrev pub row_after : ℕ → List ℕ → Body → List ℕ
  row_after v row body = pick (variant_leans l (file_variant v)) row (body_categories l.samples (take l.samples row) body ++ drop l.samples row)

  -- so the row's front is what the next record leans on, and what stands behind stays
  pub row_carried : (v : ℕ) (row : List ℕ) (body : Body) (left : List ℕ) → Bytes (get_or l.bodies v [])
      → record_over K l v (take l.samples row) ≡ ok body left
      → (take l.samples (row_after v row body)
      ≡ next_anchor (variant_leans l (file_variant v)) (take l.samples row) (body_categories l.samples (take l.samples row) body))
      × (drop l.samples (row_after v row body) ≡ drop l.samples row)
  row_carried v row body left y e = go (variant_leans l (file_variant v)) (row_count v (take l.samples row) body left y e)
    where
      go : (b : Bool) → (b ≡ false → length (body_categories l.samples (take l.samples row) body) ≡ l.samples)
          → (take l.samples (pick b row (body_categories l.samples (take l.samples row) body ++ drop l.samples row))
          ≡ pick b (take l.samples row) (body_categories l.samples (take l.samples row) body))
          × (drop l.samples (pick b row (body_categories l.samples (take l.samples row) body ++ drop l.samples row)) ≡ drop l.samples row)
      go true n = (refl, refl)
      go false n = (
        take_at (body_categories l.samples (take l.samples row) body) (drop l.samples row) l.samples (n refl),
        drop_at (body_categories l.samples (take l.samples row) body) (drop l.samples row) l.samples (n refl),
      )
