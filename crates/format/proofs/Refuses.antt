-- What a reading step can refuse with: one rule for each way of putting steps together, of the whole refusal and of its number alone.
-- Assumes nothing.
use mathlib.Core.Path.{◌≡◌, refl, ap, ◌∙◌}
use Prim.Native.Nat.{ℕ}
use mathlib.Core.Bool.{Bool, true, false, not, ◌&&◌}
use mathlib.Core.List.{List, [], ◌∷◌}
use lib.Dec.{eqb}
use borrow.Author.Tests.{eqb-true}
use Rattle.format.specs.declared.FileVariant.{FileVariant}
use Rattle.format.specs.declared.Refusal.{Refusal}
use Rattle.format.specs.Base.{Out, ok, refusal, named, naming, bind, map_out, need, need_of, numbered, refused}
use Rattle.format.specs.Variant.{file_variant}
use Rattle.format.specs.Classes.{header_numbers, record_numbers, among}
use Rattle.format.proofs.Rules.{Holds, never_both, both, either}

-- ---- of the whole refusal

-- the refusal, if there is one, is one of P
abbrev pub RefusalIs : {A : Type 0} → (Refusal → Type 0) → Out A → Type 0
RefusalIs P (ok a left) = Unit {0}
RefusalIs P (refused why) = P why

pub is_wider : {A : Type 0} (P Q : Refusal → Type 0) (m : Out A) → ((why : Refusal) → P why → Q why) → RefusalIs P m → RefusalIs Q m
is_wider P Q (ok a left) k r = tt
is_wider P Q (refused why) k r = k why r

-- a test, then what comes next: each under the test's outcome
pub is_need_of : {A : Type 0} (P : Refusal → Type 0) (v : FileVariant) (t : Bool) (number place : ℕ) (next : Out A)
    → (t ≡ false → P (named v (refusal number place))) → (t ≡ true → RefusalIs P next) → RefusalIs P (need_of v t number place next)
is_need_of P v true number place next h r = r refl
is_need_of P v false number place next h r = h refl

pub is_need : {A : Type 0} (P : Refusal → Type 0) (t : Bool) (number place : ℕ) (next : Out A) → (t ≡ false → P (refusal number place))
    → (t ≡ true → RefusalIs P next) → RefusalIs P (need t number place next)
is_need P t number place next h r = is_need_of P (file_variant 0) t number place next h r

-- what was read, made into something else
pub is_map : {A B : Type 0} (P : Refusal → Type 0) (f : A → B) (m : Out A) → RefusalIs P m → RefusalIs P (map_out f m)
is_map P f (ok a left) r = tt
is_map P f (refused why) r = r

-- one step after another, where Q is known of what the first one reads
pub is_bind : {A B : Type 0} (Q : A → List ℕ → Type 0) (P : Refusal → Type 0) (m : Out A) (f : A → List ℕ → Out B) → Holds Q m → RefusalIs P m
    → ((a : A) (left : List ℕ) → Q a left → RefusalIs P (f a left)) → RefusalIs P (bind m f)
is_bind Q P (ok a left) f h r k = k a left h
is_bind Q P (refused why) f h r k = r

-- where nothing need be known of it
pub is_then : {A B : Type 0} (P : Refusal → Type 0) (m : Out A) (f : A → List ℕ → Out B) → RefusalIs P m
    → ((a : A) (left : List ℕ) → RefusalIs P (f a left)) → RefusalIs P (bind m f)
is_then P (ok a left) f r k = k a left
is_then P (refused why) f r k = r

-- ---- of its number

-- the number of a refusal, if there is one, is one of P
abbrev pub Refuses : {A : Type 0} → (ℕ → Type 0) → Out A → Type 0
Refuses P m = RefusalIs (λ (why : Refusal). P why.number) m

-- a class of numbers: the header check's, a record's; one number
abbrev pub Among : List ℕ → ℕ → Type 0
Among class number = among class number ≡ true

abbrev pub HeaderNumber : ℕ → Type 0
HeaderNumber number = Among header_numbers number

abbrev pub RecordNumber : ℕ → Type 0
RecordNumber number = Among record_numbers number

abbrev pub Exactly : ℕ → ℕ → Type 0
Exactly one number = number ≡ one

pub refuses_weaken : {A : Type 0} (P Q : ℕ → Type 0) (m : Out A) → ((number : ℕ) → P number → Q number) → Refuses P m → Refuses Q m
refuses_weaken P Q m k r = is_wider _ _ m (λ why h. k why.number h) r

-- what is tried of each number of a class holds of every number in it
abbrev pub every : (ℕ → Bool) → List ℕ → Bool
every test [] = true
every test (n ∷ ns) = test n && every test ns

pub class_holds : (test : ℕ → Bool) (class : List ℕ) (number : ℕ) → every test class ≡ true → Among class number → test number ≡ true
class_holds test [] number t h = never_both h refl
class_holds test (n ∷ ns) number t h =
    either (eqb number n) (among ns number) h
    (λ e. ap test (eqb-true number n e) ∙ (both (test n) (every test ns) t).0)
    (λ g. class_holds test ns number (both (test n) (every test ns) t).1 g)

-- a number of one class is of no other
pub no_other_class : {X : Type 0} (class other : List ℕ) (number : ℕ) → every (λ (n : ℕ). not (among other n)) class ≡ true
    → Among class number → Among other number → X
no_other_class class other number t a b = never_both (class_holds (λ (n : ℕ). not (among other n)) class number t a) (ap not b)

-- no class has the number 0, which stands for acceptance: so for every class that is tried
pub not_none : (class : List ℕ) → every (λ (n : ℕ). not (eqb n 0)) class ≡ true → Among class 0 → ⊥
not_none class t h = never_both {X = ⊥} (class_holds (λ (n : ℕ). not (eqb n 0)) class 0 t h) refl

-- a wider class
pub refuses_wider : {A : Type 0} (class wider : List ℕ) (m : Out A) → every (among wider) class ≡ true → Refuses (Among class) m → Refuses (Among wider) m
refuses_wider class wider m t r = refuses_weaken (Among class) (Among wider) m (λ number h. class_holds (among wider) class number t h) r

-- a test, then what comes next, whichever variant the refusal names
pub refuses_need_of : {A : Type 0} (P : ℕ → Type 0) (v : FileVariant) (t : Bool) (number place : ℕ) (next : Out A) → P number → Refuses P next
    → Refuses P (need_of v t number place next)
refuses_need_of P v t number place next h r = is_need_of _ v t number place next (λ e. h) (λ e. r)

pub refuses_need : {A : Type 0} (P : ℕ → Type 0) (t : Bool) (number place : ℕ) (next : Out A) → P number → Refuses P next → Refuses P (need t number place next)
refuses_need P t number place next h r = refuses_need_of P (file_variant 0) t number place next h r

-- the variant that it names is not its number
pub refuses_naming : {A : Type 0} (P : ℕ → Type 0) (v : FileVariant) (m : Out A) → Refuses P m → Refuses P (naming v m)
refuses_naming P v (ok a left) r = r
refuses_naming P v (refused why) r = r

-- what was read, made into something else
pub refuses_map : {A B : Type 0} (P : ℕ → Type 0) (f : A → B) (m : Out A) → Refuses P m → Refuses P (map_out f m)
refuses_map P f m r = is_map _ f m r

-- whatever the step refuses, it does so under the new number
pub refuses_numbered : {A : Type 0} (P : ℕ → Type 0) (number : ℕ) (m : Out A) → P number → Refuses P (numbered number m)
refuses_numbered P number (ok a left) h = tt
refuses_numbered P number (refused why) h = h

-- one step after another, where Q is known of what the first one reads
pub refuses_bind : {A B : Type 0} (Q : A → List ℕ → Type 0) (P : ℕ → Type 0) (m : Out A) (f : A → List ℕ → Out B) → Holds Q m → Refuses P m
    → ((a : A) (left : List ℕ) → Q a left → Refuses P (f a left)) → Refuses P (bind m f)
refuses_bind Q P m f h r k = is_bind Q _ m f h r k

-- where nothing need be known of it
pub refuses_then : {A B : Type 0} (P : ℕ → Type 0) (m : Out A) (f : A → List ℕ → Out B) → Refuses P m
    → ((a : A) (left : List ℕ) → Refuses P (f a left)) → Refuses P (bind m f)
refuses_then P m f r k = is_then _ m f r k
