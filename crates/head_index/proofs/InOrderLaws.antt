-- The whole-file check is the read of each variant, in variant order: it gives the same rows, and refuses where the first read that refuses does.
-- Assumes nothing.
use mathlib.Core.Path.{◌≡◌, refl, sym, ap, ◌∙◌, subst}
use Prim.Native.Nat.{ℕ, zero, suc, ◌+◌, ◌≤◌, ◌<◌}
use native.Mathlib.Nat.{add-zero, zero-mod}
use mathlib.Core.Bool.{Bool, true, false}
use mathlib.Core.List.{List, [], ◌∷◌}
use lib.ListN.{length, get_or, drop, length-drop}
use lib.Seq.{drop-drop, get_or-drop}
use native.Mathlib.Omega.{arith}
use Rattle.format.specs.declared.FileVariant.{FileVariant}
use Rattle.format.specs.Base.{Bytes, Out, ok, bind, map_out, refused, naming}
use Rattle.format.specs.Body.{Body, body_leans, read_body, body_categories, type_leans}
use Rattle.format.specs.Variant.{file_variant, next_variant, in_block, anchor}
use Rattle.format.specs.Layout.{sum, first_record, Layout, fixed_of, record_start, TypesAllowed, LayoutObeys}
use Rattle.format.specs.File.{next_anchor, rows_as, read_records, read_all, type_of, over_as, read_over, variant_as, variant_leans}
use Rattle.format.proofs.Rules.{never_both, Holds, by_test, split, by_naming}
use Rattle.format.proofs.BodyLaws.{IsBody, body_as_written, kept_leaning}
use Rattle.format.proofs.RowLaws.{anchor_unused, row_anchor_unused}
use Rattle.format.proofs.AnchorLaws.{first_stands, anchor_after_leaning, anchor_after_standing}
use Rattle.head_index.proofs.StartLaws.{record_end}
use Rattle.format.proofs.FileLaws.{AllBytes, one_type_each}

-- so many variants from v on, each as a read gives it; `what` says what of a body is read
unfoldable pub read_each : {A : Type 0} → (ℕ → List ℕ → Body → A) → ℕ → Layout → ℕ → FileVariant → Out (List A)
read_each what K l zero v = ok [] []
read_each what K l (suc n) v = bind (variant_as what K l v) (λ row left. map_out (◌∷◌ row) (read_each what K l n (next_variant v)))

module _ (K : ℕ) (l : Layout) (p : zero < K) (h : LayoutObeys K l) where
  -- `lent` is what variant v leans on, if it leans
  abbrev Lent : ℕ → List ℕ → Type 0
  Lent v lent = variant_leans l (file_variant v) ≡ true → read_over K l [] (anchor K l.types (file_variant v)) ≡ ok lent []

  abbrev record_at : ℕ → List ℕ → Out Body
  record_at v lent =
      naming (file_variant v)
      (read_body (record_start K l (file_variant (suc v))) l.samples lent (type_of l (file_variant v)) (get_or l.bodies v []))

  -- what was read of variant v is the body that its bytes are
  pub read_is : (v : ℕ) (lent : List ℕ) (body : Body) (left : List ℕ) → Bytes (get_or l.bodies v []) → record_at v lent ≡ ok body left
      → IsBody l.samples lent (type_of l (file_variant v)) (get_or l.bodies v []) body left
  read_is v lent body left y e =
      let end : ℕ = record_start K l (file_variant (suc v)) in
      let type : ℕ = type_of l (file_variant v) in
      let bs : List ℕ = get_or l.bodies v [] in
      subst (Holds (IsBody l.samples lent type bs)) e
      (by_naming _ (file_variant v) (read_body end l.samples lent type bs) (body_as_written end l.samples lent type bs y))

  -- it leans as its type does
  pub read_leans : (v : ℕ) (lent : List ℕ) (body : Body) (left : List ℕ) → Bytes (get_or l.bodies v []) → record_at v lent ≡ ok body left
      → (body_leans body ≡ variant_leans l (file_variant v)) × (left ≡ [])
  read_leans v lent body left y e = let w = read_is v lent body left y e in (kept_leaning w, w.ended)

  -- whatever is read of a body that leans on none is the same over every anchor
  abbrev pub Unleaning : {A : Type 0} → (ℕ → List ℕ → Body → A) → Type 0
  Unleaning what = (lent other : List ℕ) (body : Body) → body_leans body ≡ false → what l.samples lent body ≡ what l.samples other body

  -- over nothing or over `lent`, a record that stands is read alike
  pub stands_alike_as : {A : Type 0} (what : ℕ → List ℕ → Body → A) → Unleaning what → (v : ℕ) (lent : List ℕ) → Bytes (get_or l.bodies v [])
      → variant_leans l (file_variant v) ≡ false → over_as what K l [] (file_variant v) ≡ map_out (what l.samples lent) (record_at v lent)
  unfolding over_as
  stands_alike_as {A} what unleaning v lent y s =
      ap (λ (out : Out Body). map_out (what l.samples []) (naming (file_variant v) out))
      (anchor_unused (record_start K l (file_variant (suc v))) l.samples [] lent (type_of l (file_variant v)) (get_or l.bodies v []) s)
      ∙ go (record_at v lent) refl
    where
      go : (out : Out Body) → record_at v lent ≡ out → map_out (what l.samples []) out ≡ map_out (what l.samples lent) out
      go (ok body left) e = ap (λ (row : A). ok row left) (unleaning [] lent body ((read_leans v lent body left y e).0 ∙ s))
      go (refused why) e = refl

  -- its categories
  pub stands_alike : (v : ℕ) (lent : List ℕ) → Bytes (get_or l.bodies v []) → variant_leans l (file_variant v) ≡ false
      → read_over K l [] (file_variant v) ≡ map_out (body_categories l.samples lent) (record_at v lent)
  stands_alike v lent y s = stands_alike_as body_categories (row_anchor_unused l.samples) v lent y s

  -- what the next variant leans on
  lent_next : (v : ℕ) (lent : List ℕ) (body : Body) (left : List ℕ) → Bytes (get_or l.bodies v []) → suc v < length l.types → Lent v lent
      → record_at v lent ≡ ok body left
      → Lent (suc v) (next_anchor (variant_leans l (file_variant v)) lent (body_categories l.samples lent body))
  lent_next v lent body left y m i e t =
      by_test (λ (row : List ℕ). read_over K l [] (anchor K l.types (file_variant (suc v))) ≡ ok row []) (variant_leans l (file_variant v))
      (λ s. ap (read_over K l []) (anchor_after_leaning K l.types p h.types (file_variant v) m t s) ∙ i s)
      (λ s.
      ap (read_over K l []) (anchor_after_standing K l.types p h.types (file_variant v) m t s)
      ∙ stands_alike v lent y s
      ∙ ap (map_out (body_categories l.samples lent)) e
      ∙ ap (ok (body_categories l.samples lent body)) (read_leans v lent body left y e).1)

  -- past the last variant nothing leans
  lent_past : (v : ℕ) (row : List ℕ) → length l.types ≤ v → Lent v row
  lent_past v row m t = never_both t (none v l.types m)
    where
      none : (v : ℕ) (types : List ℕ) → length types ≤ v → type_leans (get_or types v 0) ≡ false
      none v [] m = refl
      none zero (type ∷ types) m = absurd (omega arith)
      none (suc v) (type ∷ types) m = none v types (omega arith)

  lent_after : (v : ℕ) (lent : List ℕ) (body : Body) (left : List ℕ) → Bytes (get_or l.bodies v []) → Lent v lent → record_at v lent ≡ ok body left
      → Lent (suc v) (next_anchor (variant_leans l (file_variant v)) lent (body_categories l.samples lent body))
  lent_after v lent body left y i e =
      split (length l.types) (suc v)
      (λ m. lent_past (suc v) (next_anchor (variant_leans l (file_variant v)) lent (body_categories l.samples lent body)) m)
      (λ m. lent_next v lent body left y m i e)

  module _ {A : Type 0} (what : ℕ → List ℕ → Body → A) (unleaning : Unleaning what) where
    -- a read of v reads its record over `lent`
    variant_over : (v : ℕ) (lent : List ℕ) → Bytes (get_or l.bodies v []) → Lent v lent
        → variant_as what K l (file_variant v) ≡ map_out (what l.samples lent) (record_at v lent)
    unfolding variant_as over_as
    variant_over v lent y i =
        by_test (λ (out : Out A). out ≡ map_out (what l.samples lent) (record_at v lent)) (variant_leans l (file_variant v))
        (λ t. ap (λ (out : Out (List ℕ)). bind out (λ row left. over_as what K l row (file_variant v))) (i t))
        (λ t. stands_alike_as what unleaning v lent y t)

    -- one record, and then the rest
    one_more : (v : ℕ) (lent : List ℕ) (types : List ℕ) (stored : List (List ℕ)) → Bytes (get_or l.bodies v []) → Lent v lent
        → ((next : List ℕ) → Lent (suc v) next
        → map_out (rows_as what l.samples next)
        (read_records l.samples (file_variant (suc v)) (record_start K l (file_variant (suc v))) next types stored)
        ≡ read_each what K l (length stored) (file_variant (suc v)))
        → (out : Out Body) → record_at v lent ≡ out
        → map_out (rows_as what l.samples lent) (bind out (λ body left. map_out (◌∷◌ body)
        (read_records l.samples (file_variant (suc v)) (record_start K l (file_variant (suc v)))
        (next_anchor (variant_leans l (file_variant v)) lent (body_categories l.samples lent body)) types stored)))
        ≡ bind (map_out (what l.samples lent) out) (λ row left. map_out (◌∷◌ row) (read_each what K l (length stored) (file_variant (suc v))))
    one_more v lent types stored y i k (refused why) e = refl
    one_more v lent types stored y i k (ok body left) e =
        let next : List ℕ = next_anchor (variant_leans l (file_variant v)) lent (body_categories l.samples lent body) in
        joined_rows (read_records l.samples (file_variant (suc v)) (record_start K l (file_variant (suc v))) next types stored)
        ∙ ap (map_out (◌∷◌ (what l.samples lent body))) (k next (lent_after v lent body left y i e))
      where
        same_next : next_anchor (body_leans body) lent (body_categories l.samples lent body)
            ≡ next_anchor (variant_leans l (file_variant v)) lent (body_categories l.samples lent body)
        same_next = ap (λ (b : Bool). next_anchor b lent (body_categories l.samples lent body)) (read_leans v lent body left y e).0

        joined_rows : (rest : Out (List Body)) → map_out (rows_as what l.samples lent) (map_out (◌∷◌ body) rest)
            ≡ map_out (◌∷◌ (what l.samples lent body))
            (map_out (rows_as what l.samples (next_anchor (variant_leans l (file_variant v)) lent (body_categories l.samples lent body))) rest)
        joined_rows (refused why) = refl
        joined_rows (ok bodies after) = ap (λ (x : List ℕ). ok (what l.samples lent body ∷ rows_as what l.samples x bodies) after) same_next

    -- the records from v on
    from_variant : (v : ℕ) (lent types : List ℕ) (stored : List (List ℕ)) → drop v l.types ≡ types → drop v l.bodies ≡ stored → AllBytes stored
        → Lent v lent
        → map_out (rows_as what l.samples lent) (read_records l.samples (file_variant v) (record_start K l (file_variant v)) lent types stored)
        ≡ read_each what K l (length stored) (file_variant v)
    unfolding read_records read_each
    from_variant v lent [] [] a b y i = refl
    from_variant v lent [] (bs ∷ stored) a b y i =
        absurd (omega (arith, ap length a, ap length b, length-drop v l.types, length-drop v l.bodies, one_type_each K l h))
    from_variant v lent (type ∷ types) [] a b y i =
        absurd (omega (arith, ap length a, ap length b, length-drop v l.types, length-drop v l.bodies, one_type_each K l h))
    from_variant v lent (type ∷ types) (bs ∷ stored) a b y i =
        let N : ℕ = l.samples in
        let start : ℕ = record_start K l (file_variant v) in
        let there : v < length l.bodies = omega (arith, ap length b, length-drop v l.bodies) in
        let type_is : type_of l (file_variant v) ≡ type = first 0 v l.types type types a in
        let body_is : get_or l.bodies v [] ≡ bs = first [] v l.bodies bs stored b in
        let end_is : record_start K l (file_variant (suc v)) ≡ start + length bs
        = record_end K (file_variant v) l there ∙ ap (λ (x : List ℕ). start + length x) body_is in
        let bytes : Bytes (get_or l.bodies v []) = subst Bytes (sym body_is) y.0 in
        rw (← end_is, ← type_is, ← body_is)
        (one_more v lent types stored bytes i
        (λ next j. from_variant (suc v) next types stored (rest v l.types type types a) (rest v l.bodies bs stored b) y.1 j) (record_at v lent) refl
        ∙ ap (λ (out : Out A). bind out (λ row left. map_out (◌∷◌ row) (read_each what K l (length stored) (file_variant (suc v)))))
        (sym (variant_over v lent bytes i)))
      where
        first : {X : Type 0} (d : X) (v : ℕ) (xs : List X) (x : X) (rest : List X) → drop v xs ≡ x ∷ rest → get_or xs v d ≡ x
        first d v xs x rest e = ap (λ (n : ℕ). get_or xs n d) (sym (add-zero v)) ∙ sym (get_or-drop v xs 0 d) ∙ ap (λ (ys : List _). get_or ys 0 d) e

        rest : {X : Type 0} (v : ℕ) (xs : List X) (x : X) (rest : List X) → drop v xs ≡ x ∷ rest → drop (suc v) xs ≡ rest
        rest v xs x after e = ap (λ (n : ℕ). drop n xs) (let q : suc v ≡ v + 1 = omega arith in q) ∙ sym (drop-drop 1 v xs) ∙ ap (drop 1) e

    -- 01, Replies: "the whole-file check, which goes in variant order": it is the read of every variant, one after another, whatever is read
    pub check_in_order : AllBytes l.bodies → map_out (rows_as what l.samples []) (read_all K l) ≡ read_each what K l (length l.bodies) (file_variant 0)
    unfolding read_all record_start sum
    check_in_order y =
        ap (λ (start : ℕ). map_out (rows_as what l.samples []) (read_records l.samples (file_variant 0) start [] l.types l.bodies))
        (sym (add-zero (first_record K (fixed_of l))))
        ∙ from_variant 0 [] l.types l.bodies refl refl y (λ t. never_both t (first_leans_not l.types h.types))
      where
        first_leans_not : (types : List ℕ) → TypesAllowed K (file_variant 0) types → type_leans (get_or types 0 0) ≡ false
        first_leans_not [] g = refl
        first_leans_not (type ∷ types) g = first_stands (in_block K (file_variant 0)) type (zero-mod K) g.0
