-- The loops that spread phases over a row from its last sample down: what holds before a turn, how a turn goes, and what the output is at the end.
-- Assumes nothing.
use mathlib.Core.Path.{◌≡◌, refl, sym, ap, ◌∙◌}
use Prim.Native.Nat.{ℕ, zero, suc, ◌+◌, ◌-◌, ◌*◌, ◌<◌, ◌≤◌}
use native.Mathlib.Omega.{arith}
use mathlib.Core.List.{List, [], ◌∷◌, ◌++◌, append-nil}
use lib.ListN.{length, get_or, set, take, drop, replicate, length-take, length-set, drop_of_length-le}
use lib.Seq.{take-suc, get_or-take, drop-drop}
use mir.Syntax.{w8}
use mir.Val.{Fits}
use Rattle.format.specs.Phase.{heterozygous_count}
use Rattle.format.proofs.PhaseLaws.{heterozygous_count_most}
use Rattle.base_calls.specs.CallCount.{call_count}
use Rattle.base_calls.proofs.CallCountLaws.{call_few, count_cons}
use Rattle.read_phase.specs.Parts.{spread_from}
use Rattle.read_phase.proofs.CountLaws.{count_none, count_append}
use Rattle.read_phase.proofs.SpreadLaws.{front_kept, none_done, more_done, sample_done, calls_before, part_done}

-- the samples from i on, up to `to`, have their phases, and k calls stand before i
pub record Spreading (from to : ℕ) (row old output : List ℕ) (i k : ℕ) : Type 0 where
  pub room : to ≤ length row
  pub space : to ≤ length old
  pub above : from ≤ i
  pub reached : i ≤ to
  pub long : length output ≡ length old
  pub calls : k ≡ heterozygous_count (take i row)
  pub is : output ≡ spread_from i to row old

pub none_spread : (from to : ℕ) (row old : List ℕ) (h : ℕ) → from ≤ to → to ≤ length row → to ≤ length old → h ≡ heterozygous_count (take to row)
    → Spreading from to row old old to h
none_spread from to row old h f room space e = record {
  room = room;
  space = space;
  above = f;
  reached = omega arith;
  long = refl;
  calls = e;
  is = sym (none_done to row old room space);
}

-- a byte, or 0 where the sample is not heterozygous
pub phase_fits : (category x : ℕ) → x ≡ call_count category → (output : List ℕ)
    → ((j : ℕ) → Fits w8 (get_or output j 0)) → (j : ℕ) → Fits w8 (x * get_or output j 0)
phase_fits category x e output known j = small x (rw e (call_few category)) (get_or output j 0) (known j)
  where
    small : (x : ℕ) → x ≤ 1 → (y : ℕ) → Fits w8 y → Fits w8 (x * y)
    small zero h y f = record { fits = omega arith }
    small (suc zero) h y f = record { fits = omega (arith, f.fits) }
    small (suc (suc x)) h y f = absurd (omega arith)

module _ {from to : ℕ} {row old output : List ℕ} {i k : ℕ} (w : Spreading from to row old output i k) where
  -- ---- sample by sample

  module _ (more : from < i) where
    pub sample_inside : i - 1 < length row
    sample_inside = omega (arith, w.reached, w.room)

    pub place_inside : i - 1 < length output
    place_inside = omega (arith, w.reached, w.space, w.long)

    -- the sample before i
    last_next : suc (i - 1) ≡ i
    last_next = omega arith

    module _ {x : ℕ} (e : x ≡ call_count (get_or row (i - 1) 0)) where
      -- the calls before i are those before that sample, and its own
      calls_split : k ≡ heterozygous_count (take (i - 1) row) + x
      calls_split =
          let one = take-suc row (i - 1) 0 sample_inside in
          let sum = count_append (take (i - 1) row) (get_or row (i - 1) 0 ∷ []) in
          w.calls ∙ ap (λ (z : ℕ). heterozygous_count (take z row)) (sym last_next)
          ∙ rw one (omega (arith, sum, count_cons (get_or row (i - 1) 0) [], count_none))

      before_is : k - x ≡ heterozygous_count (take (i - 1) row)
      before_is = omega (arith, calls_split)

      pub call_before : x ≤ k
      call_before = omega (arith, calls_split)

      -- its phase stands at its own place or before it
      near : k - x < i
      near = omega (arith, before_is, heterozygous_count_most (take (i - 1) row), length-take (i - 1) row)

      pub phase_inside : k - x < length output
      phase_inside = omega (arith, near, w.reached, w.space, w.long)

      -- and is there as it was at the start
      phase_kept : get_or output (k - x) 0 ≡ get_or old (heterozygous_count (take (i - 1) row)) 0
      phase_kept =
          let front : take i output ≡ take i old = ap (take i) w.is ∙ front_kept to row old w.room w.space i w.reached in
          sym (get_or-take i output (k - x) 0 near) ∙ ap (λ (z : List ℕ). get_or z (k - x) 0) front ∙ get_or-take i old (k - x) 0 near
          ∙ ap (λ (z : ℕ). get_or old z 0) before_is

      pub sample_spread : Spreading from to row old (set output (i - 1) (x * get_or output (k - x) 0)) (i - 1) (k - x)
      sample_spread = record {
        room = w.room;
        space = w.space;
        above = omega arith;
        reached = omega (arith, w.reached);
        long = length-set output (i - 1) _ ∙ w.long;
        calls = before_is;
        is = rw (phase_kept, e, output_is) (sample_done to row old w.room w.space (i - 1) (omega (arith, w.reached)));
      }
        where
          output_is : output ≡ spread_from (suc (i - 1)) to row old
          output_is = w.is ∙ ap (λ (z : ℕ). spread_from z to row old) (sym last_next)

  module _ (last : i ≤ from) where
    ended : i ≡ from
    ended = omega (arith, w.above)

    pub calls_left : k ≡ heterozygous_count (take from row)
    calls_left = w.calls ∙ ap (λ (z : ℕ). heterozygous_count (take z row)) ended

    pub all_spread : output ≡ spread_from from to row old
    all_spread = w.is ∙ ap (λ (z : ℕ). spread_from z to row old) ended

  pub same_size : length output ≡ length old
  same_size = w.long

pub ruleset sample_laws = (
  none_spread,
  sample_inside,
  place_inside,
  call_before,
  phase_inside,
  phase_fits,
  sample_spread,
  calls_left,
  all_spread,
  same_size,
)

-- ---- a part without a heterozygous sample

module _ (from to : ℕ) (row : List ℕ) (x : ℕ) (e : x ≡ heterozygous_count (take (to - from) (drop from row))) (none : x ≡ 0) (h : from ≤ to) where
  pub part_calls : (k : ℕ) → k ≡ heterozygous_count (take to row) → k ≡ heterozygous_count (take from row)
  part_calls k q = q ∙ calls_before to from row h (sym e ∙ none)

  pub part_cleared : (old part : List ℕ) → to ≤ length row → to ≤ length old
      → part ≡ replicate (to - from) 0 ++ drop (to - from) (take (to - from) (drop from old))
      → take from old ++ (part ++ drop (to - from) (drop from old)) ≡ spread_from from to row old
  part_cleared old part room space q =
      let short : length (take (to - from) (drop from old)) ≤ to - from = omega (arith, length-take (to - from) (drop from old)) in
      let nothing : drop (to - from) (take (to - from) (drop from old)) ≡ [] = drop_of_length-le (take (to - from) (drop from old)) short in
      let end : from + (to - from) ≡ to = omega arith in
      rw (q, nothing, append-nil, drop-drop (to - from) from old, end) (part_done to row old room space from h (sym e ∙ none))

pub ruleset part_laws = (part_calls, part_cleared)

-- ---- part by part

pub part_spread : (n : ℕ) (row old output new : List ℕ) (i k from before : ℕ) → Spreading 0 n row old output i k → from < i
    → before ≡ heterozygous_count (take from row) → length new ≡ length output → new ≡ spread_from from i row output → Spreading 0 n row old new from before
part_spread n row old output new i k from before w h e s q = record {
  room = w.room;
  space = w.space;
  above = omega arith;
  reached = omega (arith, w.reached);
  long = s ∙ w.long;
  calls = e;
  is = q ∙ rw w.is (more_done n row old w.room w.space from i (omega arith) w.reached);
}

pub ruleset all_parts_laws = (none_spread, part_spread, all_spread, same_size)
