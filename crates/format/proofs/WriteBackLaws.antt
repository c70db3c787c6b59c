-- A track read and written again in its own kind and pair code is itself, but for the bits of listed samples in kind 1, which are cleared.
-- Assumes nothing.
use mathlib.Core.Path.{◌≡◌, refl, sym, ap, ap₂, ◌∙◌, subst}
use Prim.Native.Nat.{ℕ, zero, suc, ◌<◌}
use native.Mathlib.Nat.{zero-add}
use mathlib.Core.Bool.{Bool, true, false, not}
use mathlib.Core.List.{List, [], ◌∷◌, map}
use lib.ListN.{length, get_or, replicate, length-map, length-replicate}
use lib.Dec.{eqb}
use native.Mathlib.Omega.{arith}
use borrow.Author.Tests.{ne_eqb, eq-eqb, eqb-true}
use Rattle.format.specs.Base.{pick, ok}
use Rattle.format.specs.Category.{exchange_all}
use Rattle.format.specs.Difflist.{Entry, Rule, Rising}
use Rattle.format.specs.PairCode.{PairCode, pair, category_of, in_pair, coded}
use Rattle.format.specs.declared.Kind.{Kind}
use Rattle.format.specs.declared.Kind.TheVariants.{AgainstCategory}
use Rattle.format.specs.Track.{kind, leans, Track, plain, one_bit, leaning, sparse, track_kind, Fits, rule, off_pair}
use Rattle.format.specs.Track.{off_category, off_anchor, put, apply, track_categories}
use Rattle.format.specs.Writer.{differences, bits_for, pair_track, kind_track, track_for, track_code, cleared}
use Rattle.format.proofs.Rules.{never_both, by_test}
use Rattle.format.proofs.CategoryLaws.{exchange_all_back}
use Rattle.format.proofs.PairLaws.{code_read_back, by_table}
use Rattle.format.proofs.DifferencesLaws.{get_d_replicate, patch, patch_values, put_patch, rises_past, NeedNot, differences_patch}

-- no list holds its base's value
off_is : (x y : ℕ) → not (eqb x y) ≡ true → x ≡ y → ⊥
off_is x y h e = never_both h (ap not (eq-eqb x y e))

-- ---- lists against an anchor or a category

-- the differences of a list's row are the list
pub differences_apply : (N : ℕ) (may : ℕ → ℕ → Bool) (base : List ℕ) (es : List Entry) → NeedNot (rule N may) 0 base → length base ≡ N
    → Rising (rule N may) 0 es
    → differences 0 base (apply es base) ≡ es
differences_apply N may base es k e g =
    ap (differences 0 base) (put_patch (λ (x : Entry). x.value) (rule N may) 0 [] base es refl (omega arith) g)
    ∙ differences_patch (rule N may) 0 base es k (omega arith) g

-- ---- kind 1

-- a bit stands for the higher category exactly where it is set, and for one of the pair
as_bit : (x bit : Bool) → pick bit x (not x) ≡ true → x ≡ bit
as_bit true true h = refl
as_bit true false h = sym h
as_bit false true h = h
as_bit false false h = refl

higher_bit : (c : PairCode) (bit : Bool) → eqb (category_of c bit) (pair c).higher ≡ bit
higher_bit c bit =
    as_bit (eqb (category_of c bit) (pair c).higher) bit
    (by_table (λ c bit. pick bit (eqb (category_of c bit) (pair c).higher) (not (eqb (category_of c bit) (pair c).higher))) refl c bit)

bit_in_pair : (c : PairCode) (bit : Bool) → in_pair c (category_of c bit) ≡ true
bit_in_pair = by_table (λ c bit. in_pair c (category_of c bit)) refl

higher_in_pair : (c : PairCode) → in_pair c (pair c).higher ≡ true
higher_in_pair c = bit_in_pair c true

off_higher : (c : PairCode) (v : ℕ) → not (in_pair c v) ≡ true → eqb v (pair c).higher ≡ false
off_higher c v h = ne_eqb v (pair c).higher (λ e. never_both h (ap not (ap (in_pair c) e ∙ higher_in_pair c)))

abbrev clear : ℕ → List Bool → List Entry → List Bool
clear i bits es = patch (λ (e : Entry). false) i bits es

abbrev base_of : PairCode → List Bool → List ℕ
base_of c bits = map (category_of c) bits

module _ (N : ℕ) (c : PairCode) where
  -- the bits for the row that a one_bit track stands for are its own, those of listed samples cleared
  bits_back : (i : ℕ) (bits : List Bool) (es : List Entry) → Rising (rule N (off_pair c)) i es
      → bits_for c (patch_values i (base_of c bits) es) ≡ clear i bits es
  unfolding patch
  bits_back i [] [] g = refl
  bits_back i [] (e ∷ es) g = refl
  bits_back i (b ∷ bits) [] g = ap₂ ◌∷◌ (higher_bit c b) (bits_back (suc i) bits [] tt)
  bits_back i (b ∷ bits) (e ∷ es) g =
      go (eqb e.sample i) refl (λ t. bits_back (suc i) bits es (next t)) (λ t. bits_back (suc i) bits (e ∷ es) (rises_past (rule N (off_pair c)) i e es g t))
    where
      next : eqb e.sample i ≡ true → Rising (rule N (off_pair c)) (suc i) es
      next t = subst (λ (s : ℕ). Rising (rule N (off_pair c)) (suc s) es) (eqb-true e.sample i t) g.1

      go : (t : Bool) → eqb e.sample i ≡ t
          → (eqb e.sample i ≡ true → bits_for c (patch_values (suc i) (base_of c bits) es) ≡ clear (suc i) bits es)
          → (eqb e.sample i ≡ false → bits_for c (patch_values (suc i) (base_of c bits) (e ∷ es)) ≡ clear (suc i) bits (e ∷ es))
          → bits_for c (pick t (e.value ∷ patch_values (suc i) (base_of c bits) es) (category_of c b ∷ patch_values (suc i) (base_of c bits) (e ∷ es)))
          ≡ pick t (false ∷ clear (suc i) bits es) (b ∷ clear (suc i) bits (e ∷ es))
      go true q f h = ap₂ ◌∷◌ (off_higher c e.value g.0.allowed) (f q)
      go false q f h = ap₂ ◌∷◌ (higher_bit c b) (h q)

  -- clearing the bits of listed samples leaves the row as it is
  row_kept : (i : ℕ) (bits : List Bool) (es : List Entry)
      → patch_values i (base_of c bits) es ≡ patch_values i (base_of c (clear i bits es)) es
  unfolding patch
  row_kept i bits [] = refl
  row_kept i [] (e ∷ es) = refl
  row_kept i (b ∷ bits) (e ∷ es) = go (eqb e.sample i) refl (row_kept (suc i) bits es) (row_kept (suc i) bits (e ∷ es))
    where
      go : (t : Bool) → eqb e.sample i ≡ t
          → patch_values (suc i) (base_of c bits) es ≡ patch_values (suc i) (base_of c (clear (suc i) bits es)) es
          → patch_values (suc i) (base_of c bits) (e ∷ es) ≡ patch_values (suc i) (base_of c (clear (suc i) bits (e ∷ es))) (e ∷ es)
          → pick t (e.value ∷ patch_values (suc i) (base_of c bits) es) (category_of c b ∷ patch_values (suc i) (base_of c bits) (e ∷ es))
          ≡ patch_values i (base_of c (pick t (false ∷ clear (suc i) bits es) (b ∷ clear (suc i) bits (e ∷ es)))) (e ∷ es)
      go true q f h = simp q (ap (◌∷◌ e.value) f)
      go false q f h = simp q (ap (◌∷◌ (category_of c b)) h)

  base_at : (bits : List Bool) (j : ℕ) → j < length (base_of c bits) → in_pair c (get_or (base_of c bits) j 1) ≡ true
  base_at [] j l = absurd (omega arith)
  base_at (b ∷ bits) zero l = bit_in_pair c b
  base_at (b ∷ bits) (suc j) l = base_at bits j (omega arith)

  need_not_pair : (bits : List Bool) → NeedNot (rule N (off_pair c)) 0 (base_of c bits)
  need_not_pair bits j v l h e = never_both h (ap not (ap (in_pair c) e ∙ base_at bits j l))

clear_length : (i : ℕ) (bits : List Bool) (es : List Entry) → length (clear i bits es) ≡ length bits
unfolding patch
clear_length i bits [] = refl
clear_length i [] (e ∷ es) = refl
clear_length i (b ∷ bits) (e ∷ es) =
    by_test (λ (x : List Bool). length x ≡ suc (length bits)) (eqb e.sample i) (λ t. ap suc (clear_length (suc i) bits es))
    (λ t. ap suc (clear_length (suc i) bits (e ∷ es)))

-- a one_bit track's row gives the track back, the bits of listed samples cleared
pair_back : (N : ℕ) (c : PairCode) (bits : List Bool) (es : List Entry) → length bits ≡ N → Rising (rule N (off_pair c)) 0 es
    → pair_track (apply es (base_of c bits)) (coded c) ≡ ok (cleared (one_bit c bits es)) []
pair_back N c bits es e g =
    let u : Rule = rule N (off_pair c) in
    let left : List Bool = clear 0 bits es in
    let row_is : apply es (base_of c bits) ≡ patch_values 0 (base_of c bits) es
    = put_patch (λ (x : Entry). x.value) u 0 [] (base_of c bits) es refl (omega (arith, length-map bits (category_of c))) g in
    let bits_are : bits_for c (apply es (base_of c bits)) ≡ left = ap (bits_for c) row_is ∙ bits_back N c 0 bits es g in
    let list_is : differences 0 (base_of c left) (patch_values 0 (base_of c left) es) ≡ es
    = differences_patch u 0 (base_of c left) es (need_not_pair N c left) (omega (arith, length-map left (category_of c), clear_length 0 bits es)) g in
    let same : left ≡ put (λ (x : Entry). false) es bits = sym (put_patch (λ (x : Entry). false) u 0 [] bits es refl (omega arith) g) in
    ap (λ (bs : List Bool). ok (one_bit c bs (differences 0 (base_of c bs) (apply es (base_of c bits)))) []) bits_are
    ∙ ap (λ (row : List ℕ). ok (one_bit c left (differences 0 (base_of c left) row)) []) (row_is ∙ row_kept N c 0 bits es)
    ∙ ap₂ (λ (bs : List Bool) (xs : List Entry). ok (one_bit c bs xs) []) same list_is

-- ---- every kind

-- the writer is lent the anchor of a track that leans, and nothing for another
abbrev pub lent_for : Track → List ℕ → List ℕ
lent_for t anchor = pick (leans (track_kind t)) anchor []

lean_back : (N : ℕ) (anchor : List ℕ) (inverted : Bool) (es : List Entry) → Rising (rule N (off_anchor anchor)) 0 es → length anchor ≡ N
    → differences 0 anchor (exchange_all inverted (exchange_all inverted (apply es anchor))) ≡ es
lean_back N anchor inverted es g e =
    ap (differences 0 anchor) (exchange_all_back inverted (apply es anchor))
    ∙ differences_apply N (off_anchor anchor) anchor es (λ j v l h. off_is v (get_or anchor j 1) (rw zero-add at h)) e g

sparse_back : (N n b : ℕ) (es : List Entry) → n ≡ N → Rising (rule N (off_category b)) 0 es → differences 0 (replicate n b) (apply es (replicate N b)) ≡ es
sparse_back N n b es e g =
    ap (λ (k : ℕ). differences 0 (replicate k b) (apply es (replicate N b))) e
    ∙ differences_apply N (off_category b) (replicate N b) es
    (λ j v l h q. off_is v b h (q ∙ get_d_replicate N b j 1 (omega (arith, length-replicate N b)))) (length-replicate N b) g

pub track_back : (N : ℕ) (anchor : List ℕ) (t : Track) → Fits N anchor t → (leans (track_kind t) ≡ true → length anchor ≡ N)
    → length (track_categories N anchor t) ≡ N
    → track_for (track_kind t) (track_code t) (lent_for t anchor) (track_categories N anchor t) ≡ ok (cleared t) []
unfolding kind_track
track_back N anchor (plain cs) f l n = refl
track_back N anchor (one_bit c bits es) f l n =
    ap (pair_track (apply es (base_of c bits))) (code_read_back c) ∙ pair_back N c bits es f.0 f.1
track_back N anchor (leaning true es) f l n = ap (λ (xs : List Entry). ok (leaning true xs) []) (lean_back N anchor true es f (l refl))
track_back N anchor (leaning false es) f l n = ap (λ (xs : List Entry). ok (leaning false xs) []) (lean_back N anchor false es f (l refl))
track_back N anchor (sparse b es) f l n = go b f.0 (sparse_back N _ b es n f.1)
  where
    go : (b : ℕ) → kind (suc (suc (suc (suc b)))) ≡ AgainstCategory b
        → differences 0 (replicate (length (apply es (replicate N b))) b) (apply es (replicate N b)) ≡ es
        → kind_track (kind (suc (suc (suc (suc b))))) 0 (pick (leans (suc (suc (suc (suc b))))) anchor []) (apply es (replicate N b)) ≡ ok (sparse b es) []
    go b k e =
        ap (λ (x : Kind). kind_track x 0 (pick (leans (suc (suc (suc (suc b))))) anchor []) (apply es (replicate N b))) k
        ∙ ap (λ (xs : List Entry). ok (sparse b xs) []) e
