-- What a row's phases are at a sample and over a part of the row, and an output that has them from a sample on.
-- Assumes nothing.
use mathlib.Core.Path.{◌≡◌, refl, sym, ap, ap₂, ◌∙◌}
use Prim.Native.Nat.{ℕ, zero, suc, ◌-◌, ◌*◌, ◌<◌, ◌≤◌}
use native.Mathlib.Omega.{arith}
use mathlib.Core.Bool.{Bool, true, false}
use mathlib.Core.List.{List, [], ◌∷◌, ◌++◌}
use lib.ListN.{length, get_or, set, take, drop, replicate, length-append, length-take, length-drop, take-append-drop, drop_of_length-le, get_or-append}
use lib.Seq.{length-take-le, take-append-le, drop-append-le, take_at, drop_at, take-take, drop-drop, get_or-take, get_or-drop, drop-cons, set_split}
use Rattle.format.specs.Base.{pick}
use Rattle.format.specs.Phase.{heterozygous, heterozygous_count, first_of, rest_of, spread}
use Rattle.format.proofs.PhaseLaws.{heterozygous_count_most}
use Rattle.format.proofs.PhaseLaws.{spread_length}
use Rattle.base_calls.specs.CallCount.{call_count}
use Rattle.base_calls.proofs.CallCountLaws.{count_cons}
use Rattle.read_phase.specs.Parts.{spread_from}
use Rattle.read_phase.proofs.CountLaws.{count_none, count_append}

-- ---- a part of a row's first n samples

-- a part from i to `end` stands first in what is to come
front : (n end : ℕ) (row : List ℕ) → end ≤ n → take n row ≡ take end row ++ drop end (take n row)
front n zero row g = refl
front zero (suc end) row g = absurd (omega arith)
front (suc n) (suc end) [] g = refl
front (suc n) (suc end) (x ∷ row) g = rw (← front n end row (omega arith))

cut : (n i end : ℕ) (row : List ℕ) → i ≤ end → end ≤ n → drop i (take n row) ≡ take (end - i) (drop i row) ++ drop end (take n row)
cut n zero end row h g = let z : end - 0 ≡ end = omega arith in rw z (front n end row g)
cut n (suc i) zero row h g = absurd (omega arith)
cut zero (suc i) (suc end) row h g = absurd (omega arith)
cut (suc n) (suc i) (suc end) [] h g = none (suc end - suc i)
  where
    none : (k : ℕ) → ◌≡◌ {A = List ℕ} [] (take k [] ++ [])
    none zero = refl
    none (suc k) = refl
cut (suc n) (suc i) (suc end) (x ∷ row) h g = let z : suc end - suc i ≡ end - i = omega arith in rw z (cut n i end row (omega arith) (omega arith))

-- ---- the phases of a row

-- a heterozygous sample takes the first phase, and the others go on from the next
spread_cons : (category : ℕ) (row phases : List ℕ)
    → spread (category ∷ row) phases ≡ call_count category * get_or phases 0 0 ∷ spread row (drop (call_count category) phases)
unfolding spread call_count
spread_cons category row phases = either (heterozygous category) phases
  where
    either : (b : Bool) (phases : List ℕ) → pick b (first_of phases ∷ spread row (rest_of phases)) (0 ∷ spread row phases)
        ≡ pick b 1 0 * get_or phases 0 0 ∷ spread row (drop (pick b 1 0) phases)
    either true [] = refl
    either true (x ∷ phases) = let z : 1 * x ≡ x = omega arith in rw z
    either false phases = let z : 0 * get_or phases 0 0 ≡ 0 = omega arith in rw z

-- a row's front has the same phases alone
spread_take : (i : ℕ) (row phases : List ℕ) → take i (spread row phases) ≡ spread (take i row) phases
unfolding spread
spread_take zero row phases = refl
spread_take (suc i) [] phases = refl
spread_take (suc i) (category ∷ row) phases =
    rw (spread_cons category row phases, spread_cons category (take i row) phases, spread_take i row (drop (call_count category) phases))

-- the others go on after those that the front takes
spread_drop : (i : ℕ) (row phases : List ℕ) → drop i (spread row phases) ≡ spread (drop i row) (drop (heterozygous_count (take i row)) phases)
unfolding spread
spread_drop zero row phases = rw count_none
spread_drop (suc i) [] phases = refl
spread_drop (suc i) (category ∷ row) phases =
    rw (spread_cons category row phases, spread_drop i row (drop (call_count category) phases), count_cons category (take i row)) (rw drop-drop)

-- 0 if sample i is not heterozygous, else the phase after those of the heterozygous samples before it
spread_at : (i : ℕ) (row phases : List ℕ) → i < length row
    → get_or (spread row phases) i 0 ≡ call_count (get_or row i 0) * get_or phases (heterozygous_count (take i row)) 0
spread_at i [] phases h = absurd (omega arith)
spread_at zero (category ∷ row) phases h = rw (spread_cons category row phases, count_none)
spread_at (suc i) (category ∷ row) phases h =
    rw (spread_cons category row phases, spread_at i row (drop (call_count category) phases) (omega arith), count_cons category (take i row)) (rw get_or-drop)

-- without a heterozygous sample all are 0
spread_without_calls : (row phases : List ℕ) → heterozygous_count row ≡ 0 → spread row phases ≡ replicate (length row) 0
unfolding spread
spread_without_calls [] phases e = refl
spread_without_calls (category ∷ row) phases e =
    let x : call_count category ≡ 0 = omega (arith, count_cons category row) in
    let y : heterozygous_count row ≡ 0 = omega (arith, count_cons category row) in
    rw (spread_cons category row phases, x, spread_without_calls row (drop 0 phases) y) (let z : 0 * get_or phases 0 0 ≡ 0 = omega arith in rw z)

-- no phase is taken past those of the heterozygous samples
pub spread_front : (row phases rest : List ℕ) → heterozygous_count row ≤ length phases → spread row (phases ++ rest) ≡ spread row phases
unfolding spread
spread_front [] phases rest h = refl
spread_front (category ∷ row) phases rest h =
    let m : call_count category ≤ length phases = omega (arith, count_cons category row) in
    let g : heterozygous_count row ≤ length (drop (call_count category) phases)
    = omega (arith, count_cons category row, length-drop (call_count category) phases) in
    rw (
      spread_cons category row (phases ++ rest),
      spread_cons category row phases,
      drop-append-le (call_count category) phases rest m,
      spread_front row (drop (call_count category) phases) rest g,
      first phases (call_count category) m,
    )
  where
    first : (phases : List ℕ) (x : ℕ) → x ≤ length phases → x * get_or (phases ++ rest) 0 0 ≡ x * get_or phases 0 0
    first [] zero h = let z : 0 * get_or rest 0 0 ≡ 0 = omega arith in rw z
    first [] (suc x) h = absurd (omega arith)
    first (y ∷ phases) x h = refl

-- ---- a part without a heterozygous sample

module _ (n from : ℕ) (row : List ℕ) (h : from ≤ n) (none : heterozygous_count (take (n - from) (drop from row)) ≡ 0) where
  -- it stands last in the row's front that ends with it
  part_none : heterozygous_count (drop from (take n row)) ≡ 0
  part_none =
      let short : length (take n row) ≤ n = omega (arith, length-take n row) in
      let z : drop n (take n row) ≡ [] = drop_of_length-le (take n row) short in
      rw (cut n from n row h (omega arith), count_append (take (n - from) (drop from row)) (drop n (take n row)), z, none, count_none) refl

  -- as many calls stand before it as before its end
  pub calls_before : heterozygous_count (take n row) ≡ heterozygous_count (take from row)
  calls_before =
      let e = count_append (take from (take n row)) (drop from (take n row)) in
      omega (arith, part_none, rw (take-append-drop from (take n row), take-take from n row h) at e)

-- ---- an output that has its phases from a sample on

module _ (n : ℕ) (row old : List ℕ) (room : n ≤ length row) (space : n ≤ length old) where
  -- the output at the end
  abbrev whole : List ℕ
  whole = spread (take n row) old ++ drop n old

  spread_size : length (spread (take n row) old) ≡ n
  spread_size = spread_length (take n row) old ∙ length-take-le n row room

  whole_length : length whole ≡ length old
  whole_length = rw length-append (omega (arith, spread_size, length-drop n old))

  module _ (i : ℕ) (reached : i ≤ n) where
    front_length : length (take i old) ≡ i
    front_length = length-take-le i old (omega arith)

    -- what stands before sample i is as it was
    pub front_kept : take i (spread_from i n row old) ≡ take i old
    unfolding spread_from
    front_kept = take_at (take i old) (drop i whole) i front_length

    -- what stands from there on is as it will be
    back_done : drop i (spread_from i n row old) ≡ drop i whole
    unfolding spread_from
    back_done = drop_at (take i old) (drop i whole) i front_length

    from_length : length (spread_from i n row old) ≡ length old
    unfolding spread_from
    from_length = rw length-append (omega (arith, front_length, length-drop i whole, whole_length))

    -- at the end a row's front has its own phases
    whole_front : take i whole ≡ spread (take i row) old
    whole_front =
        take-append-le i (spread (take n row) old) (drop n old) (omega (arith, spread_size))
        ∙ spread_take i (take n row) old ∙ ap (λ (z : List ℕ). spread z old) (take-take i n row reached)

    -- no call of a row's front has its phase past the front
    front_reads : (new : List ℕ) → take i new ≡ take i old → spread (take i row) new ≡ spread (take i row) old
    front_reads new e =
        let few : heterozygous_count (take i row) ≤ length (take i old)
        = omega (arith, front_length, heterozygous_count_most (take i row), length-take i row) in
        ap (spread (take i row)) (sym (take-append-drop i new) ∙ ap (λ (z : List ℕ). z ++ drop i new) e)
        ∙ spread_front (take i row) (take i old) (drop i new) few ∙ sym (spread_front (take i row) (take i old) (drop i old) few)
        ∙ ap (spread (take i row)) (take-append-drop i old)

  -- before the last sample nothing is done
  pub none_done : spread_from n n row old ≡ old
  unfolding spread_from
  none_done = rw (drop_at (spread (take n row) old) (drop n old) n spread_size) (take-append-drop n old)

  -- who has come to sample i, and goes on from there to sample `from`, has come to `from`
  pub more_done : (from i : ℕ) → from ≤ i → i ≤ n → spread_from from i row (spread_from i n row old) ≡ spread_from from n row old
  unfolding spread_from
  more_done from i h reached =
      let out : List ℕ = spread_from i n row old in
      let kept : take from out ≡ take from old
      = sym (take-take from i out h) ∙ ap (take from) (front_kept i reached) ∙ take-take from i old h in
      let told : spread (take i row) out ≡ take i whole = front_reads i reached out (front_kept i reached) ∙ sym (whole_front i reached) in
      ap₂ (λ (x y : List ℕ). x ++ drop from y) kept (ap₂ (λ (x y : List ℕ). x ++ y) told (back_done i reached) ∙ take-append-drop i whole)

  from_sample : (i : ℕ) → i < n → spread_from i n row old ≡ take i old ++ get_or whole i 0 ∷ drop (suc i) whole
  unfolding spread_from
  from_sample i h = ap (λ (z : List ℕ). take i old ++ z) (drop-cons whole i 0 (omega (arith, whole_length)))

  -- who has come to the sample after i comes to i by one byte, the phase of the call at sample i, or 0
  pub sample_done : (i : ℕ) → i < n
      → set (spread_from (suc i) n row old) i (call_count (get_or row i 0) * get_or old (heterozygous_count (take i row)) 0) ≡ spread_from i n row old
  sample_done i h =
      let out : List ℕ = spread_from (suc i) n row old in
      let kept : take i out ≡ take i old
      = sym (take-take i (suc i) out (omega arith)) ∙ ap (take i) (front_kept (suc i) (omega arith)) ∙ take-take i (suc i) old (omega arith) in
      set_split out i _ (omega (arith, from_length (suc i) (omega arith)))
      ∙ rw (kept, back_done (suc i) (omega arith), here_told) (sym (from_sample i h))
    where
      here_told : call_count (get_or row i 0) * get_or old (heterozygous_count (take i row)) 0 ≡ get_or whole i 0
      here_told =
          sym (get_or-append (spread (take n row) old) (drop n old) 0 i (omega (arith, spread_size))
          ∙ spread_at i (take n row) old (omega (arith, length-take-le n row room)) ∙ rw (get_or-take n row i 0 h, take-take i n row (omega arith)))

  -- who clears a last part without a heterozygous sample has come to its start
  pub part_done : (from : ℕ) → from ≤ n → heterozygous_count (take (n - from) (drop from row)) ≡ 0
      → take from old ++ (replicate (n - from) 0 ++ drop n old) ≡ spread_from from n row old
  unfolding spread_from
  part_done from h none =
      let zeros : drop from (spread (take n row) old) ≡ replicate (n - from) 0
      = spread_drop from (take n row) old ∙ spread_without_calls (drop from (take n row)) _ (part_none n from row h none)
      ∙ ap (λ (z : ℕ). replicate z 0) (length-drop from (take n row) ∙ ap (λ (z : ℕ). z - from) (length-take-le n row room)) in
      rw (drop-append-le from (spread (take n row) old) (drop n old) (omega (arith, spread_size)), zeros) refl
