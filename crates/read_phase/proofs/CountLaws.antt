-- H of a row, a part at a time.
-- Assumes nothing.
use mathlib.Core.Path.{◌≡◌, refl, sym, ◌∙◌}
use Prim.Native.Nat.{ℕ, suc, ◌+◌, ◌-◌, ◌%◌, ◌<◌, ◌≤◌}
use native.Mathlib.Omega.{arith}
use native.Mathlib.Numerals.{add-one}
use mathlib.Core.List.{List, [], ◌∷◌, ◌++◌}
use lib.ListN.{length, get_or, take, drop, drop_of_length-le, length-append, length-take}
use lib.Seq.{drop-cons, drop-append-add}
use mir.Syntax.{w8, w64}
use mir.Val.{Fits}
use Rattle.format.specs.Limits.{most_samples}
use Rattle.format.specs.Phase.{heterozygous_count}
use Rattle.format.proofs.PhaseLaws.{heterozygous_count_most}
use Rattle.base_calls.specs.CallCount.{call_count}
use Rattle.base_calls.proofs.CallCountLaws.{call_few, count_cons}

-- ---- H of a list, sample by sample

pub count_none : heterozygous_count [] ≡ 0
unfolding heterozygous_count
count_none = refl

pub count_append : (xs ys : List ℕ) → heterozygous_count (xs ++ ys) ≡ heterozygous_count xs + heterozygous_count ys
count_append [] ys = rw count_none (omega arith)
count_append (x ∷ xs) ys = rw (count_cons x (xs ++ ys), count_cons x xs, count_append xs ys) (omega arith)

-- ---- the loop over a part

-- before turn i: what was counted, and what is to come
pub record Counting (part : List ℕ) (count i : ℕ) : Type 0 where
  pub reached : i ≤ length part
  pub short : length part ≤ 255
  pub few : count ≤ i
  pub whole : count + heterozygous_count (drop i part) ≡ heterozygous_count part

pub uncounted : (part : List ℕ) → length part ≤ 255 → Counting part 0 0
uncounted part h = record { reached = omega arith; short = h; few = omega arith; whole = omega arith }

module _ (part : List ℕ) (count i : ℕ) (w : Counting part count i) where
  module _ (h : i < length part) (x : ℕ) (e : x ≡ call_count (get_or part i 0)) where
    one : x ≤ 1
    one = rw e (call_few (get_or part i 0))

    pub count_room : Fits w8 (count + x)
    count_room = record { fits = omega (arith, one) }

    pub count_turn : Counting part (count + x) (i + 1)
    count_turn =
        let m : heterozygous_count (drop i part) ≡ x + heterozygous_count (drop (i + 1) part)
        = rw (drop-cons part i 0 h, e, add-one) (count_cons (get_or part i 0) (drop (suc i) part)) in
        record { reached = omega arith; short = w.short; few = omega (arith, one); whole = omega (arith, w.whole) }

  pub counted : length part ≤ i → count ≡ heterozygous_count part
  counted h =
      let z : heterozygous_count (drop i part) ≡ 0 = rw (drop_of_length-le part h) count_none in
      omega (arith, w.whole)

pub ruleset count_laws = (uncounted, count_room, count_turn, counted)

-- ---- the loop over parts of some samples, of `size` each: `left` are those of the parts to come and of the rest, which are fewer

pub record CountingParts (samples left rest : List ℕ) (size count : ℕ) : Type 0 where
  pub even : size ≡ 224
  pub few : count + length left ≤ most_samples
  pub whole : count + heterozygous_count left ≡ heterozygous_count samples
  pub last : drop (length left - length left % 224) left ≡ rest

pub no_part_counted : (row rest : List ℕ) (n : ℕ) → n ≤ most_samples → rest ≡ drop (length (take n row) - length (take n row) % 224) (take n row)
    → CountingParts (take n row) (take n row) rest 224 0
no_part_counted row rest n h e = record { even = refl; few = omega (arith, length-take n row); whole = omega arith; last = sym e }

module _ (samples left rest : List ℕ) (size count : ℕ) (w : CountingParts samples left rest size count) where
  pub part_short : (part : List ℕ) → length part ≡ size → length part ≤ 255
  part_short part h = omega (arith, w.even)

  module _ (part next : List ℕ) (h : left ≡ part ++ next) (x : ℕ) (e : x ≡ heterozygous_count part) where
    lengths : length left ≡ length part + length next
    lengths = rw h (length-append part next)

    part_few : count + x + length next ≤ most_samples
    part_few = omega (arith, lengths, w.few, e, heterozygous_count_most part)

    pub part_room : Fits w64 (count + x)
    part_room = record { fits = omega (arith, part_few) }

    pub part_turn : length part ≡ size → (same : ℕ) → same ≡ size → CountingParts samples next rest same (count + x)
    part_turn k same f =
        let m : heterozygous_count left ≡ x + heterozygous_count next = rw (h, e) (count_append part next) in
        let d : length left - length left % 224 ≡ length part + (length next - length next % 224) = omega (arith, lengths, k, w.even) in
        record {
          even = omega (arith, w.even);
          few = part_few;
          whole = omega (arith, w.whole);
          last = sym (drop-append-add part next (length next - length next % 224)) ∙ rw (d, h) at w.last;
        }

  module _ (h : length left < size) where
    rest_is : left ≡ rest
    rest_is = let z : length left - length left % 224 ≡ 0 = omega (arith, w.even) in rw z at w.last

    pub rest_short : length rest ≤ 255
    rest_short = rw (← rest_is) (omega (arith, w.even))

    module _ (x : ℕ) (e : x ≡ heterozygous_count rest) where
      pub rest_room : Fits w64 (count + x)
      rest_room =
          let k : heterozygous_count rest ≤ length left = rw (← rest_is) (heterozygous_count_most left) in
          record { fits = omega (arith, w.few) }

      pub parts_counted : count + x ≡ heterozygous_count samples
      parts_counted = rw (e, ← rest_is) w.whole

pub ruleset parts_laws = (no_part_counted, part_short, part_room, part_turn, rest_short, rest_room, parts_counted)
