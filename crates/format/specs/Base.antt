-- What every part of the format is written with: a choice by a test, what a reading step hands back, bytes.
-- Assumes nothing.
use Rattle.std.specs.Prelude.{ℕ, ◌-◌, ◌<◌, Bool, true, false, List, [], ◌∷◌, length}
use Rattle.format.specs.declared.FileVariant.{FileVariant}
use Rattle.format.specs.declared.Refusal.{Refusal}

-- pick test x y: x where the test holds, else y
abbrev pub pick {ℓ} : {X : Type ℓ} → Bool → X → X → X
pick true x y = x
pick false x y = y

-- A reading step gives what it read and the bytes left, or a refusal.
pub data Out (A : Type 0) : Type 0 where
  ok : A → List ℕ → Out A
  refused : Refusal → Out A

-- Demand 1: "A refusal has a number and a place." 02, Ask 2: "let every reply carry a variant number besides the place": 0 where none is named
abbrev pub refusal : ℕ → ℕ → Refusal
refusal number place = record { number = number; place = place; variant = record { 0 = 0 } }

abbrev pub refuse : {A : Type 0} → ℕ → ℕ → Out A
refuse number place = refused (refusal number place)

-- the same refusal with the variant that it names; of a reading step, each of its refusals
abbrev pub named : FileVariant → Refusal → Refusal
named v why = record { number = why.number; place = why.place; variant = v }

abbrev pub refuse_of : {A : Type 0} → FileVariant → ℕ → ℕ → Out A
refuse_of v number place = refused (named v (refusal number place))

abbrev pub naming : {A : Type 0} → FileVariant → Out A → Out A
naming v (ok a left) = ok a left
naming v (refused why) = refused (named v why)

-- one step after another; a function of what was read
abbrev pub bind : {A B : Type 0} → Out A → (A → List ℕ → Out B) → Out B
bind (ok a left) next = next a left
bind (refused why) next = refused why

abbrev pub map_out : {A B : Type 0} → (A → B) → Out A → Out B
map_out f (ok a left) = ok (f a) left
map_out f (refused why) = refused why

-- need test number place next: where the test fails, that refusal; else what comes next
abbrev pub need : {A : Type 0} → Bool → ℕ → ℕ → Out A → Out A
need test number place next = pick test next (refuse number place)

-- the same where the refusal names variant v
abbrev pub need_of : {A : Type 0} → FileVariant → Bool → ℕ → ℕ → Out A → Out A
need_of v test number place next = pick test next (refuse_of v number place)

-- every refusal under another number
abbrev pub numbered : {A : Type 0} → ℕ → Out A → Out A
numbered number (ok a left) = ok a left
numbered number (refused why) = refuse number why.place

-- 01, Replies: "a place is a byte offset in the file". Where the bytes that are left begin, of a part that ends at `end`.
abbrev pub place_of : ℕ → List ℕ → ℕ
place_of end left = end - length left

-- each number is below m; a list of bytes
abbrev pub Below : ℕ → List ℕ → Type 0
Below m [] = Unit {0}
Below m (x ∷ xs) = (x < m) × Below m xs

abbrev pub Bytes : List ℕ → Type 0
Bytes bs = Below 256 bs
