-- A row of categories and the list of where it differs from another: each gives the other back.
-- Assumes nothing.
use mathlib.Core.Path.{◌≡◌, refl, sym, ap, ◌∙◌, subst}
use Prim.Native.Nat.{ℕ, zero, suc, ◌+◌, ◌≤◌, ◌<◌}
use native.Mathlib.Nat.{le_refl, add-zero}
use mathlib.Core.Bool.{Bool, true, false}
use mathlib.Core.List.{List, [], ◌∷◌, ◌++◌, append_assoc}
use lib.ListN.{length, get_or, replicate, length-append}
use lib.Seq.{set_at}
use lib.Dec.{eqb}
use native.Mathlib.Omega.{arith}
use borrow.Author.Tests.{eq-eqb, ne_eqb, eqb-true, eqb-false}
use Rattle.format.specs.Base.{pick, Below}
use Rattle.format.specs.Difflist.{Entry, Rule, Rising}
use Rattle.format.specs.Track.{put, apply, rule}
use Rattle.format.specs.Writer.{unless, differences}
use Rattle.format.proofs.Rules.{by_test}

pub get_d_replicate : (n b i d : ℕ) → i < n → get_or (replicate n b) i d ≡ b
get_d_replicate zero b i d l = absurd (omega arith)
get_d_replicate (suc n) b zero d l = refl
get_d_replicate (suc n) b (suc i) d l = get_d_replicate n b i d (omega arith)

-- ---- sample by sample: what `put` does where the entries rise

-- what f gives for the entry whose sample is i, else the base's; so for every sample from i on
unfoldable pub patch : {A : Type 0} → (Entry → A) → ℕ → List A → List Entry → List A
patch f i base [] = base
patch f i [] (e ∷ es) = []
patch f i (b ∷ base) (e ∷ es) = pick (eqb e.sample i) (f e ∷ patch f (suc i) base es) (b ∷ patch f (suc i) base (e ∷ es))

abbrev pub patch_values : ℕ → List ℕ → List Entry → List ℕ
patch_values i base es = patch (λ (e : Entry). e.value) i base es

-- an entry that is not at i is after it
pub rises_past : (u : Rule) (i : ℕ) (e : Entry) (es : List Entry) → Rising u i (e ∷ es) → eqb e.sample i ≡ false → Rising u (suc i) (e ∷ es)
rises_past u i e es g t =
    (record { rises = omega (arith, eqb-false e.sample i t, g.0.rises); inside = g.0.inside; two_bits = g.0.two_bits; allowed = g.0.allowed }, g.1)

pub put_patch : {A : Type 0} (f : Entry → A) (u : Rule) (i : ℕ) (done base : List A) (es : List Entry)
    → length done ≡ i → u.samples ≤ i + length base → Rising u i es → put f es (done ++ base) ≡ done ++ patch f i base es
unfolding patch
put_patch f u i done base [] d m g = refl
put_patch f u i done [] (e ∷ es) d m g = absurd (omega (arith, g.0.rises, g.0.inside))
put_patch f u i done (b ∷ base) (e ∷ es) d m g =
    by_test (λ (row : List _). put f (e ∷ es) (done ++ (b ∷ base)) ≡ done ++ row) (eqb e.sample i)
    (λ t.
    let at : e.sample ≡ i = eqb-true e.sample i t in
    ap (put f es) (set_at done b base (f e) e.sample (d ∙ sym at) ∙ sym (append_assoc done (f e ∷ []) base))
    ∙ put_patch f u (suc i) (done ++ (f e ∷ [])) base es (length-append done (f e ∷ []) ∙ omega arith) (omega arith)
    (subst (λ (s : ℕ). Rising u (suc s) es) at g.1)
    ∙ append_assoc done (f e ∷ []) (patch f (suc i) base es))
    (λ t.
    ap (put f (e ∷ es)) (sym (append_assoc done (b ∷ []) base))
    ∙ put_patch f u (suc i) (done ++ (b ∷ [])) base (e ∷ es) (length-append done (b ∷ []) ∙ omega arith) (omega arith) (rises_past u i e es g t)
    ∙ append_assoc done (b ∷ []) (patch f (suc i) base (e ∷ es)))

-- ---- from a row to its list and back

by_unless {κ} : (P : List Entry → Type κ) (t : Bool) (e : Entry) (es : List Entry) → (t ≡ true → P es) → (t ≡ false → P (e ∷ es)) → P (unless t e es)
by_unless P true e es f g = f refl
by_unless P false e es f g = g refl

rises_earlier : (u : Rule) (i : ℕ) (es : List Entry) → Rising u (suc i) es → Rising u i es
rises_earlier u i [] g = tt
rises_earlier u i (e ∷ es) g =
    (record { rises = omega (arith, g.0.rises); inside = g.0.inside; two_bits = g.0.two_bits; allowed = g.0.allowed }, g.1)

-- the differences of a row from the base are a list, if each may be held
pub differences_rise : (N i : ℕ) (may : ℕ → ℕ → Bool) (base row : List ℕ)
    → ((j : ℕ) → j < length base → (get_or row j 0 ≡ get_or base j 1 → ⊥) → may (i + j) (get_or row j 0) ≡ true)
    → Below 4 row → i + length base ≤ N → Rising (rule N may) i (differences i base row)
unfolding differences
differences_rise N i may [] row k f m = tt
differences_rise N i may (b ∷ base) [] k f m = tt
differences_rise N i may (b ∷ base) (c ∷ row) k f m =
    let rest : Rising (rule N may) (suc i) (differences (suc i) base row)
    = differences_rise N (suc i) may base row (λ j l d. let e : suc i + j ≡ i + suc j = omega arith in rw e (k (suc j) (omega arith) d)) f.1 (omega arith) in
    by_unless (Rising (rule N may) i) (eqb c b) (record { sample = i; value = c }) (differences (suc i) base row)
    (λ t. rises_earlier (rule N may) i (differences (suc i) base row) rest)
    (λ t. (record { rises = le_refl i; inside = omega arith; two_bits = f.0; allowed = rw add-zero at (k 0 (omega arith) (eqb-false c b t)) }, rest))

-- a row comes back from its differences
pub apply_differences : (i : ℕ) (done base row : List ℕ) → length done ≡ i → length row ≡ length base
    → apply (differences i base row) (done ++ base) ≡ done ++ row
unfolding differences
apply_differences i done [] [] d l = refl
apply_differences i done [] (c ∷ row) d l = absurd (omega arith)
apply_differences i done (b ∷ base) [] d l = absurd (omega arith)
apply_differences i done (b ∷ base) (c ∷ row) d l =
    let next : length (done ++ (c ∷ [])) ≡ suc i = length-append done (c ∷ []) ∙ omega arith in
    let rest : apply (differences (suc i) base row) (done ++ (c ∷ base)) ≡ done ++ (c ∷ row)
    = ap (apply (differences (suc i) base row)) (sym (append_assoc done (c ∷ []) base))
    ∙ apply_differences (suc i) (done ++ (c ∷ [])) base row next (omega arith)
    ∙ append_assoc done (c ∷ []) row in
    by_unless (λ (es : List Entry). apply es (done ++ (b ∷ base)) ≡ done ++ (c ∷ row)) (eqb c b) (record { sample = i; value = c })
    (differences (suc i) base row)
    (λ t. ap (λ (x : ℕ). apply (differences (suc i) base row) (done ++ (x ∷ base))) (sym (eqb-true c b t)) ∙ rest)
    (λ t. ap (apply (differences (suc i) base row)) (set_at done b base c i d) ∙ rest)

-- ---- from a list to its row and back

-- from sample i on, a list may hold no value of the base
abbrev pub NeedNot : Rule → ℕ → List ℕ → Type 0
NeedNot u i base = (j v : ℕ) → j < length base → u.may (i + j) v ≡ true → v ≡ get_or base j 1 → ⊥

need_not_later : (u : Rule) (i b : ℕ) (base : List ℕ) → NeedNot u i (b ∷ base) → NeedNot u (suc i) base
need_not_later u i b base k j v l h = k (suc j) v (omega arith) (let e : suc i + j ≡ i + suc j = omega arith in subst (λ (n : ℕ). u.may n v ≡ true) e h)

-- a list comes back as the differences of its row
pub differences_patch : (u : Rule) (i : ℕ) (base : List ℕ) (es : List Entry) → NeedNot u i base → u.samples ≤ i + length base → Rising u i es
    → differences i base (patch_values i base es) ≡ es
unfolding differences patch
differences_patch u i [] [] k m g = refl
differences_patch u i [] (e ∷ es) k m g = absurd (omega (arith, g.0.rises, g.0.inside))
differences_patch u i (b ∷ base) [] k m g =
    simp (eq-eqb b b refl) (differences_patch u (suc i) base [] (need_not_later u i b base k) (omega arith) tt)
differences_patch u i (b ∷ base) (e ∷ es) k m g =
    let later : NeedNot u (suc i) base = need_not_later u i b base k in
    by_test (λ (row : List ℕ). differences i (b ∷ base) row ≡ e ∷ es) (eqb e.sample i)
    (λ t.
    let at : e.sample ≡ i = eqb-true e.sample i t in
    let held : u.may (i + 0) e.value ≡ true = rw (add-zero, ← at) g.0.allowed in
    simp (
      ne_eqb e.value b (k 0 e.value (omega arith) held),
      differences_patch u (suc i) base es later (omega arith)
          (subst (λ (s : ℕ). Rising u (suc s) es) at g.1),
    )
    (ap (λ (s : ℕ). record { sample = s; value = e.value } ∷ es) (sym at)))
    (λ t. simp (eq-eqb b b refl) (differences_patch u (suc i) base (e ∷ es) later (omega arith) (rises_past u i e es g t)))
