-- A run: the flat sums of its steps, and what is read of it.
-- Assumes nothing.
use mathlib.Core.Path.{◌≡◌, refl}
use Prim.Native.Nat.{ℕ, suc, ◌+◌, ◌-◌, ◌*◌, ◌/◌, ◌%◌, ◌≤◌, ◌<◌}
use native.Mathlib.Omega.{arith}
use native.Mathlib.Numerals.{add-one}
use mathlib.Core.List.{List}
use lib.ListN.{get_or, length}
use mir.Syntax.{w8, w16}
use mir.Val.{Fits}
use Rattle.format.proofs.Rules.{split}
use Rattle.read_list.specs.Room.{Room}
use Rattle.read_list.specs.Runs.{one, two, Steps, none, further, InPlace, HighPart, RunReady}
use Rattle.read_list.specs.declared.State.{State}
use Rattle.read_list.proofs.NumberLaws.{Known}

-- ---- the sum of single bytes

-- of the bytes passed, if the largest is 0
pub record Summing (l : List ℕ) (at count sum most i : ℕ) : Type 0 where
  pub inside : i ≤ count
  pub there : at + count ≤ length l
  pub small : count ≤ 63
  pub few : sum ≤ 255 * i
  pub fine : most ≡ 0 → Steps l at i (at + i) sum

no_step : (l : List ℕ) (at : ℕ) → Steps l at 0 (at + 0) 0
no_step l at = let e : at + 0 ≡ at = omega arith in rw e none

-- one more
one_more : {l : List ℕ} {at i sum b : ℕ} → Steps l at i (at + i) sum → b ≡ get_or l (at + i) 0 → at + i < length l → 0 < b → b < 128
    → Steps l at (i + 1) (at + (i + 1)) (sum + b)
one_more {l} {at} {i} {sum} {b} s e h p q =
    let here : at + (i + 1) ≡ at + i + 1 = omega arith in
    rw (e, here, add-one i) (further s (one h (rw e at p) (rw e at q)))

pub sum_start : (l : List ℕ) (at count : ℕ) → at + count ≤ length l → count ≤ 63 → Summing l at count 0 0 0
sum_start l at count h k = record { inside = omega arith; there = h; small = k; few = omega arith; fine = λ z. no_step l at }

module _ {l : List ℕ} {at count sum most i : ℕ} (g : Summing l at count sum most i) where
  module _ (h : i < count) {w : ℕ} (k : w < 256) where
    pub sum_fits : Fits w16 (sum + w)
    sum_fits = record { fits = omega (arith, g.few, g.small) }

    pub sum_turn : w ≡ get_or l (at + i) 0 → {x next : ℕ} → (x ≡ 0 → (0 < get_or l (at + i) 0) × (get_or l (at + i) 0 < 128)) → most ≤ next → x ≤ next
        → Summing l at count (sum + w) next (i + 1)
    sum_turn e f a b = record {
      inside = omega arith;
      there = g.there;
      small = g.small;
      few = omega (arith, g.few);
      fine = λ z. let y = f (omega arith) in one_more (g.fine (omega arith)) e (omega (arith, g.there)) (rw (← e) at y.0) (rw (← e) at y.1);
    }

  pub sum_end : count ≤ i → most ≡ 0 → Steps l at count (at + count) sum
  sum_end h z = let e : i ≡ count = omega (arith, g.inside) in rw e at (g.fine z)

pub ruleset sum_laws = (sum_start, sum_fits, sum_turn, sum_end)

-- ---- the sum of steps of a byte or two

-- `i` bytes are passed, the last of them `before`: k steps, or k steps and the first byte of one more
pub data Upto (l : List ℕ) (at before i k sum : ℕ) : Type 0 where
  whole : before < 128 → Steps l at k (at + i) sum → Upto l at before i k sum
  half : {j rest : ℕ} → 128 ≤ before → get_or l (at + j) 0 ≡ before → suc j ≡ i → Steps l at k (at + j) rest → rest + (before - 128) ≡ sum
      → Upto l at before i k sum

-- a byte more
upto_on : {l : List ℕ} {at before i k sum : ℕ} → Upto l at before i k sum → at + i < length l → get_or l (at + i) 0 < 256 → InPlace before (get_or l (at + i) 0)
    → {part : ℕ} → HighPart before (get_or l (at + i) 0) part
    → Upto l at (get_or l (at + i) 0) (i + 1) (k + (1 - get_or l (at + i) 0 / 128)) (sum + get_or l (at + i) 0 % 128 + 127 * part)
upto_on {l} {at} {before} {i} {k} {sum} (whole p s) there small f {part} h =
    let byte : ℕ = get_or l (at + i) 0 in
    let z : part ≡ 0 = h.none p in
    let here : at + (i + 1) ≡ at + i + 1 = omega arith in
    split (suc byte) 128
    (λ low.
    let a : k + (1 - byte / 128) ≡ suc k = omega arith in
    let b : sum + byte % 128 + 127 * part ≡ sum + byte = omega arith in
    whole low (rw (a, b, here) (further s (one there f.some low))))
    (λ high.
    let a : k + (1 - byte / 128) ≡ k = omega arith in
    half {j = i} {rest = sum} (omega arith) refl (omega arith) (rw a s) (omega arith))
upto_on {l} {at} {before} {i} {k} {sum} (half {j} {rest} p g e s q) there small f {part} h =
    let byte : ℕ = get_or l (at + i) 0 in
    let low : byte < 128 = f.ends p in
    let z : part ≡ byte % 128 = h.all p in
    let m : at + i ≡ at + j + 1 = omega arith in
    let here : at + (i + 1) ≡ at + j + 2 = omega arith in
    let a : k + (1 - byte / 128) ≡ suc k = omega arith in
    let second : get_or l (at + j + 1) 0 ≡ byte = rw m in
    let b : sum + byte % 128 + 127 * part ≡ rest + (128 * get_or l (at + j + 1) 0 + (get_or l (at + j) 0 - 128)) = omega (arith, g, second) in
    whole low (rw (a, b, here) (further s (two (omega arith) (omega (arith, g)) (omega (arith, second, f.some)) (omega (arith, second)))))

-- of the bytes passed, if the largest is 0
pub record Mixing (l : List ℕ) (at size low high long most i : ℕ) : Type 0 where
  pub started : 0 < i
  pub inside : i ≤ size
  pub there : at + size ≤ length l
  pub small : size ≤ 126
  pub few_low : low ≤ 127 * i
  pub few_high : high ≤ 127 * i
  pub few_long : long ≤ i
  pub fine : most ≡ 0 → Upto l at (get_or l (at + i - 1) 0) i (i - long) (low + 127 * high)

pub mix_start : (l : List ℕ) (at size : ℕ) → at + size ≤ length l → 0 < size → size ≤ 126 → Known l → {w x : ℕ} → w ≡ get_or l at 0 % 128
    → (x ≡ 0 → InPlace 0 (get_or l at 0)) → Mixing l at size w 0 (get_or l at 0 / 128) x 1
mix_start l at size h p q known {w} {x} e f =
    let a : at + 0 ≡ at = omega arith in
    let b : at + 1 - 1 ≡ at = omega arith in
    let c : 1 - get_or l at 0 / 128 ≡ 0 + (1 - get_or l at 0 / 128) = omega arith in
    let d : w + 127 * 0 ≡ 0 + get_or l at 0 % 128 + 127 * 0 = omega arith in
    let start : Upto l at 0 0 0 0 = whole (omega arith) (rw a none) in
    let nothing : HighPart 0 (get_or l (at + 0) 0) 0 = record { none = λ z. refl; all = λ z. absurd (omega arith) } in
    record {
      started = omega arith;
      inside = omega arith;
      there = h;
      small = q;
      few_low = omega (arith, (known at).fits);
      few_high = omega arith;
      few_long = omega (arith, (known at).fits);
      fine = λ z.
          let i : InPlace 0 (get_or l (at + 0) 0) = rw a (f z) in
          rw (b, c, d) (rw a at (upto_on start (omega arith) (known (at + 0)).fits i nothing));
    }

module _ {l : List ℕ} {at size low high long most i : ℕ} (g : Mixing l at size low high long most i) where
  module _ (h : i < size) where
    pub mix_low_fits : {w : ℕ} → w < 256 → Fits w16 (low + w)
    mix_low_fits k = record { fits = omega (arith, g.few_low, g.small) }

    pub mix_high_fits : {part : ℕ} → part < 128 → Fits w16 (high + part)
    mix_high_fits k = record { fits = omega (arith, g.few_high, g.small) }

    pub mix_long_fits : Known l → Fits w8 (long + get_or l (at + i) 0 / 128)
    mix_long_fits known = record { fits = omega (arith, g.few_long, g.small, (known (at + i)).fits) }

    pub mix_turn : Known l → {w part x next : ℕ} → w ≡ get_or l (at + i) 0 % 128 → HighPart (get_or l (at + i - 1) 0) (get_or l (at + i) 0) part → part < 128
        → (x ≡ 0 → InPlace (get_or l (at + i - 1) 0) (get_or l (at + i) 0)) → most ≤ next → x ≤ next
        → Mixing l at size (low + w) (high + part) (long + get_or l (at + i) 0 / 128) next (i + 1)
    mix_turn known {w} {part} {x} {next} e hp few f a b =
        let c : at + (i + 1) - 1 ≡ at + i = omega arith in
        let d : i + 1 - (long + get_or l (at + i) 0 / 128) ≡ i - long + (1 - get_or l (at + i) 0 / 128) = omega (arith, g.few_long, (known (at + i)).fits) in
        let s : low + w + 127 * (high + part) ≡ low + 127 * high + get_or l (at + i) 0 % 128 + 127 * part = omega arith in
        record {
          started = omega arith;
          inside = omega arith;
          there = g.there;
          small = g.small;
          few_low = omega (arith, g.few_low);
          few_high = omega (arith, g.few_high);
          few_long = omega (arith, g.few_long, (known (at + i)).fits);
          fine = λ z. rw (c, d, s) (upto_on (g.fine (omega arith)) (omega (arith, g.there)) (known (at + i)).fits (f (omega arith)) hp);
        }

  pub mix_end : size ≤ i → most ≡ 0 → get_or l (at + size - 1) 0 < 128 → {k count : ℕ} → k ≡ long → size - k ≡ count
      → Steps l at count (at + size) (low + 127 * high)
  mix_end h z b {k} {count} e c =
      let same : i ≡ size = omega (arith, g.inside) in
      let n : count ≡ size - long = omega arith in
      rw n (ended (rw same at (g.fine z)))
    where
      ended : {j sum : ℕ} → Upto l at (get_or l (at + size - 1) 0) size j sum → Steps l at j (at + size) sum
      ended (whole p s) = s
      ended (half p q r s t) = absurd (omega arith)

pub ruleset mix_laws = (mix_start, mix_low_fits, mix_high_fits, mix_long_fits, mix_turn, mix_end)

-- what `run_of` reads is there
pub run_ready : {l : List ℕ} {n vals more : ℕ} {st : State} → Room l n vals more st → RunReady l n st more
run_ready {l} {n} {vals} {more} {st} r = record {
  inside = r.steps;
  below = r.below;
  group = r.group;
  size = λ z h. let p : st.passed ≡ 0 → ⊥ = λ e. z (r.begun e) in omega (arith, r.sizes, r.values, p);
}
