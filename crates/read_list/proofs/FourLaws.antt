-- Four entries put at once: what the code looks at, what it puts, and that this is four turns of the walk through a list that was accepted.
-- Assumes nothing.
use mathlib.Core.Path.{◌≡◌, refl, sym, ap, ◌∙◌}
use Prim.Native.Nat.{ℕ, zero, suc, ◌+◌, ◌-◌, ◌/◌, ◌%◌, ◌^◌, ◌≤◌, ◌<◌}
use native.Mathlib.Nat.{div-one, pow-zero, pow-suc, div-div-eq-div-mul}
use native.Mathlib.Omega.{arith}
use mathlib.Core.Bool.{Bool, true}
use mathlib.Core.List.{List}
use lib.ListN.{get_or, length, set, length-set}
use lib.Seq.{get_or-drop}
use mir.Syntax.{w64}
use mir.Val.{Fits}
use Rattle.format.proofs.Rules.{split, unsaid}
use Rattle.head_index.specs.NumbersAt.{digit_at}
use Rattle.read_packed.specs.Arrays.{number_in}
use Rattle.base_cursor.specs.Steps.{cursor_at}
use Rattle.base_cursor.specs.declared.Cursor.{Cursor}
use Rattle.base_cursor.proofs.ShortLaws.{short_one}
use Rattle.read_list.specs.Entries.{value_at}
use Rattle.read_list.specs.Walked.{Accepted}
use Rattle.read_list.specs.Fours.{Single, FourNext, FourThere, sample_after, values_put}
use Rattle.read_list.specs.declared.State.{State}
use Rattle.read_list.proofs.NumberLaws.{Known}
use Rattle.read_list.proofs.KnownWalks.{Walks, walks_turn}

-- ---- whether there are four

pub four_found : (l : List ℕ) (at passed left : ℕ) {b : Bool} → passed % 4 ≡ 0 → 4 ≤ left → 4 ≤ length l - at → Fits w64 (length l)
    → (b ≡ true → Single l at 4) → b ≡ true → FourNext l at passed left
four_found l at passed left p q r w f t = record {
  starts = p;
  enough = q;
  inside = omega arith;
  fits = record { fits = omega (arith, w.fits) };
  single = f t;
}

pub four_inside : (l : List ℕ) (at : ℕ) → at ≤ length l → 4 ≤ length l - at → at + 4 ≤ length l
four_inside l at h r = omega arith

pub ruleset next_laws = (four_found, four_inside, unsaid)

-- ---- four put

sample_grows : (l : List ℕ) (at last j k : ℕ) → j ≤ k → sample_after l at last j ≤ sample_after l at last k
sample_grows l at last j zero h = let e : j ≡ 0 = omega arith in rw e (omega arith)
sample_grows l at last j (suc k) h =
    split (suc j) (suc k)
    (λ p. omega (arith, sample_grows l at last j k (omega arith)))
    (λ p. let e : j ≡ suc k = omega arith in rw e (omega arith))

quotient : (x j : ℕ) → x / 4 ^ suc j ≡ x / 4 ^ j / 4
quotient x j = ap (λ (z : ℕ). x / z) (pow-suc 4 j) ∙ sym (div-div-eq-div-mul x (4 ^ j) 4)

-- so many are put
pub record PutUpTo (l : List ℕ) (at packed last : ℕ) (row₀ row : List ℕ) (sample rest j : ℕ) : Type 0 where
  pub there : FourThere l at last row₀
  pub inside : j ≤ 4
  pub sample_is : sample ≡ sample_after l at last j
  pub rest_is : rest ≡ packed / 4 ^ j
  pub row_is : row ≡ values_put l at packed last j row₀
  pub long : length row ≡ length row₀

pub put_first : (l : List ℕ) (at packed last : ℕ) (row : List ℕ) → FourThere l at last row → PutUpTo l at packed last row row last packed 0
put_first l at packed last row t = record {
  there = t;
  inside = omega arith;
  sample_is = refl;
  rest_is = rw (pow-zero, div-one) refl;
  row_is = refl;
  long = refl;
}

module _ {l : List ℕ} {at packed last : ℕ} {row₀ row : List ℕ} {sample rest j : ℕ} (g : PutUpTo l at packed last row₀ row sample rest j) where
  module _ (h : j < 4) where
    pub put_inside : at + j < length l
    put_inside = omega (arith, g.there.inside)

    module _ {step : ℕ} (e : step ≡ get_or l (at + j) 0) where
      most : sample + step ≤ sample_after l at last 4
      most = omega (arith, sample_grows l at last (suc j) 4 (omega arith), g.sample_is)

      pub put_fits : Fits w64 (sample + step)
      put_fits = record { fits = omega (arith, most, g.there.fits.fits) }

      pub put_below : sample + step < length row
      put_below = omega (arith, most, g.there.below, g.long)

      pub put_next : PutUpTo l at packed last row₀ (set row (sample + step) (rest % 4)) (sample + step) (rest / 4) (j + 1)
      put_next =
          let s : sample + step ≡ sample_after l at last (suc j) = omega (arith, g.sample_is) in
          let one : j + 1 ≡ suc j = omega arith in
          record {
            there = g.there;
            inside = omega arith;
            sample_is = rw one s;
            rest_is = rw one (rw g.rest_is (sym (quotient packed j)));
            row_is = rw one (rw (s, g.rest_is, g.row_is) refl);
            long = length-set row (sample + step) (rest % 4) ∙ g.long;
          }

  pub put_all : 4 ≤ j → (sample ≡ sample_after l at last 4) × (row ≡ values_put l at packed last 4 row₀)
  put_all h = let e : j ≡ 4 = omega (arith, g.inside) in (rw e at g.sample_is, rw e at g.row_is)

pub ruleset four_entries_laws = (put_first, put_inside, put_fits, put_below, put_next, put_all)

-- ---- four turns of the walk

module _ {l : List ℕ} {n vals count : ℕ} {first : State} {least : ℕ} {row₀ row : List ℕ} {here : Cursor} {last done : ℕ}
    (w : Walks l n vals count first least row₀ row here last done) (b : Accepted l n vals count first row₀) where
  pub walks_inside : here.at ≤ length l
  walks_inside = (w.goes b.held b.lists).putting.room.steps

  module _ {found : Bool} (told : found ≡ true → FourNext l here.at (first.passed + done) (least - done)) (t : found ≡ true) where
    abbrev f : FourNext l here.at (first.passed + done) (least - done)
    f = told t

    pub four_past : Fits w64 (here.at + 4)
    four_past = f.fits

    pub four_packed : vals + (first.passed + done) / 4 < length l
    four_packed = omega (arith, w.values, w.fewer, f.enough)

    module _ (known : Known l) where
      abbrev packed : ℕ
      packed = get_or l (vals + (first.passed + done) / 4) 0

      value_is : (j : ℕ) → j < 4 → packed / 4 ^ j % 4 ≡ value_at l vals (first.passed + (done + j))
      unfolding number_in digit_at
      value_is j h =
          let a : (first.passed + (done + j)) / 4 ≡ (first.passed + done) / 4 = omega (arith, f.starts) in
          let c : (first.passed + (done + j)) % 4 ≡ j = omega (arith, f.starts) in
          rw (a, c, get_or-drop) refl

      walks_some : (j : ℕ) → j ≤ 4
          → Walks l n vals count first least row₀ (values_put l here.at packed last j row) (cursor_at (here.at + j)) (sample_after l here.at last j)
          (done + j)
      walks_some zero h =
          let a : here.at + 0 ≡ here.at = omega arith in
          let c : done + 0 ≡ done = omega arith in
          rw (a, c) w
      walks_some (suc j) h =
          let i : here.at + j < length l = omega (arith, f.inside) in
          let s : get_or l (here.at + j) 0 < 128 = f.single.each j (omega arith) in
          let a : here.at + suc j ≡ here.at + j + 1 = omega arith in
          let c : done + suc j ≡ done + j + 1 = omega arith in
          rw (a, c)
          (walks_turn (walks_some j (omega arith)) (omega (arith, f.enough)) b (short_one l (here.at + j) i s) refl known (value_is j (omega arith)))

      walks_four : Walks l n vals count first least row₀ (values_put l here.at packed last 4 row) (cursor_at (here.at + 4))
          (sample_after l here.at last 4) (done + 4)
      walks_four = walks_some 4 (omega arith)

      pub fours_on : {sample : ℕ} {new : List ℕ} → (sample ≡ sample_after l here.at last 4) × (new ≡ values_put l here.at packed last 4 row)
          → Walks l n vals count first least row₀ new (cursor_at (here.at + 4)) sample (done + 4)
      fours_on e = rw (e.0, e.1) walks_four

      pub four_there : Fits w64 n → FourThere l here.at last row
      four_there fits = record {
        inside = f.inside;
        below = below;
        fits = record { fits = omega (arith, bounded, fits.fits) };
      }
        where
          bounded : sample_after l here.at last 4 < n
          bounded = (walks_four.goes b.held b.lists).putting.room.below

          below : sample_after l here.at last 4 < length row
          below = omega (arith, bounded, (w.goes b.held b.lists).putting.holds)

pub ruleset fours_laws = (walks_inside, four_past, four_packed, four_there)
