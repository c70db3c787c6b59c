-- What a reply of an opening tells its caller, and what a call's definition is then.
-- Assumes nothing.
use Rattle.std.specs.Prelude.{Result, Ok, Err}
use mathlib.Core.Path.{◌≡◌, refl, ap, ◌∙◌, sym}
use Prim.Native.Nat.{ℕ, min, ◌<◌}
use mathlib.Core.Bool.{Bool, true, false, ◌&&◌}
use mathlib.Core.List.{List, []}
use lib.ListN.{length}
use lib.Dec.{leb, ltb}
use native.Mathlib.Omega.{arith}
use borrow.Author.Tests.{le-leb, lt-leb, lt-ltb, leb-true, leb-false}
use Rattle.format.specs.declared.FileVariant.{FileVariant}
use Rattle.format.specs.declared.Fields.{Fields}
use Rattle.format.specs.declared.Refusal.{Refusal}
use Rattle.format.specs.Base.{Out, ok, refused, bind, refuse_of, need_of}
use Rattle.format.specs.Limits.{variants_to_a_block}
use Rattle.format.specs.Layout.{Layout}
use Rattle.format.specs.Header.{read_layout}
use Rattle.format.specs.Reply.{samples_of, with_layout, need_variant}
use Rattle.format.specs.Variant.{no_variant}
use Rattle.format.proofs.Rules.{need_of_then}
use Rattle.call_open.specs.Open.{open_out, open_at_out, Open, OpenAt, Shut, Opening, OpeningAt}

-- ---- the reply

pub ready : (file : List ℕ) (lent : ℕ) (r : Result Fields Refusal) (f : Fields) → Opening file lent r → r ≡ Ok f → Open file lent f
unfolding Opening
ready file lent r f e q = rw q at e

pub shut : (file : List ℕ) (lent : ℕ) (r : Result Fields Refusal) (why : Refusal) → Opening file lent r → r ≡ Err why
    → Shut (open_out variants_to_a_block file lent) why
unfolding Opening
shut file lent r why e q = rw q at e

pub ready_at : (file : List ℕ) (v : FileVariant) (lent : ℕ) (r : Result Fields Refusal) (f : Fields) → OpeningAt file v lent r → r ≡ Ok f
    → OpenAt file v lent f
unfolding OpeningAt
ready_at file v lent r f e q = rw q at e

pub shut_at : (file : List ℕ) (v : FileVariant) (lent : ℕ) (r : Result Fields Refusal) (why : Refusal) → OpeningAt file v lent r → r ≡ Err why
    → Shut (open_at_out variants_to_a_block file v lent) why
unfolding OpeningAt
shut_at file v lent r why e q = rw q at e

-- ---- what was opened

module _ (file : List ℕ) (lent : ℕ) (f : Fields) (o : Open file lent f) where
  pub open_samples : f.samples ≡ o.layout.samples
  open_samples = ap (λ (z : Fields). z.samples) o.fields_are

  pub open_variants : f.variants ≡ length o.layout.bodies
  open_variants = ap (λ (z : Fields). z.variants) o.fields_are

  -- M is the one of the fields
  pub names_none : (number : ℕ)
      → refuse_of {A = Layout} (no_variant (length o.layout.bodies)) number 0 ≡ refuse_of (no_variant f.variants) number 0
  names_none number = ap (λ (m : ℕ). refuse_of (no_variant m) number 0) (sym open_variants)

  pub samples_are : samples_of variants_to_a_block file ≡ o.layout.samples
  samples_are = simp o.accepted

  pub open_is : open_out variants_to_a_block file lent ≡ ok o.layout []
  open_is = simp (o.accepted, le-leb o.layout.samples lent (omega (arith, o.room, open_samples)))

module _ (file : List ℕ) (v : FileVariant) (lent : ℕ) (f : Fields) (o : OpenAt file v lent f) where
  pub below_layout : v.0 < length o.has.layout.bodies
  below_layout = omega (arith, o.below, open_variants file lent f o.has)

  pub open_at_is : open_at_out variants_to_a_block file v lent ≡ ok o.has.layout []
  open_at_is = simp (open_is file lent f o.has, lt-ltb v.0 (length o.has.layout.bodies) below_layout)

-- ---- the definition of a call goes through its opening

-- two buffers hold a row where the shorter one does
pub holds_both : (n a b : ℕ) → (leb n a && leb n b) ≡ leb n (min a b)
holds_both n a b = go (leb n a) refl (leb n b) refl
  where
    go : (s : Bool) → leb n a ≡ s → (t : Bool) → leb n b ≡ t → (leb n a && leb n b) ≡ leb n (min a b)
    go true p true q = simp (p, q, le-leb n (min a b) (omega (arith, leb-true n a p, leb-true n b q)))
    go true p false q = simp (p, q, lt-leb n (min a b) (omega (arith, leb-false n b q)))
    go false p t q = simp (p, lt-leb n (min a b) (omega (arith, leb-false n a p)))

-- a test between two steps belongs to the first
pub need_after : {A : Type 0} (test : Layout → Bool) (number : ℕ) (m : Out Layout) (next : Layout → Out A)
    → bind m (λ l left. need_of (no_variant (length l.bodies)) (test l) number 0 (next l))
    ≡ bind (bind m (λ l left. need_of (no_variant (length l.bodies)) (test l) number 0 (ok l []))) (λ l left. next l)
need_after test number (refused why) next = refl
need_after test number (ok l left) next = sym (need_of_then (no_variant (length l.bodies)) (test l) number 0 (ok l []) (λ l left. next l))

module _ {A : Type 0} (file : List ℕ) (lent : ℕ) (sized : Layout → Bool) (fits : (l : Layout) → sized l ≡ leb l.samples lent) where
  pub through : (next : Layout → Out A)
      → with_layout variants_to_a_block file sized next ≡ bind (open_out variants_to_a_block file lent) (λ l left. next l)
  through next = simp fits (need_after (λ (l : Layout). leb l.samples lent) 10 (read_layout variants_to_a_block file) next)

  pub through_at : (v : FileVariant) (next : Layout → Out A)
      → with_layout variants_to_a_block file sized (λ (l : Layout). need_variant v l (next l))
      ≡ bind (open_at_out variants_to_a_block file v lent) (λ l left. next l)
  through_at v next =
      through (λ (l : Layout). need_variant v l (next l))
      ∙ need_after (λ (l : Layout). ltb v.0 (length l.bodies)) 11 (open_out variants_to_a_block file lent) next
