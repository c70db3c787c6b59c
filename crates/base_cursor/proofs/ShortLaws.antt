-- What each way out of `short` and `varint` says: a varint of one byte, one of two, no such, and one that `varint_from` read.
-- Assumes nothing.
use Rattle.std.specs.Prelude.{Option, Some, None, Result, Ok, Err}
use mathlib.Core.Path.{◌≡◌, refl, sym, ◌∙◌}
use Prim.Native.Nat.{ℕ, ◌+◌, ◌-◌, ◌*◌, ◌≤◌, ◌<◌}
use native.Mathlib.Omega.{arith}
use mathlib.Core.List.{List}
use mathlib.Core.Bool.{Bool, true, false}
use lib.ListN.{length, get_or}
use lib.Dec.{leb}
use borrow.Author.Tests.{le-leb, lt-leb}
use mir.Syntax.{w8, w64}
use mir.Val.{Fits}
use Rattle.format.specs.declared.Refusal.{Refusal}
use Rattle.format.specs.Base.{pick, refusal}
use Rattle.base_cursor.specs.Steps.{cursor_at, varint_rest, varint_at, short_step, short_at}
use Rattle.base_cursor.specs.declared.Cursor.{Cursor}
use Rattle.base_cursor.proofs.ByteLaws.{here, byte_there, byte_short}
use Rattle.base_cursor.proofs.VarintLaws.{value_past}
use Rattle.base_cursor.proofs.WithinLaws.{Says, no_byte, onto, ends_here, low_here, small_here, rest}

pub long : (l : List ℕ) (at : ℕ) (r : Result (ℕ × Cursor) Refusal) → at ≤ length l → Says l at 4 0 at r → r ≡ varint_at l at
unfolding varint_at
long l at r h e = rw (here l at h) e

pub one_byte : (l : List ℕ) (at : ℕ) → at < length l → get_or l at 0 < 128 → Ok (get_or l at 0, cursor_at (at + 1)) ≡ varint_at l at
one_byte l at h a =
    long l at _ (omega arith) (small_here l at 4 0 at _ (byte_there l at h) _ _ refl (omega arith) (λ z. omega (arith, z)) a)

module _ (l : List ℕ) (at : ℕ) where
  pub short_one : at < length l → get_or l at 0 < 128 → Some (get_or l at 0, cursor_at (at + 1)) ≡ short_at l at
  unfolding short_at
  short_one h a = rw (← one_byte l at h a) (simp (le-leb (at + 1) (at + 2) (omega arith)))

  pub short_none : length l ≤ at → None ≡ short_at l at
  unfolding short_at varint_at
  short_none h = rw (no_byte l (length l) _ 4 0 at h)

  -- a first byte that is not the last
  module _ (h : at < length l) (a : 128 ≤ get_or l at 0) where
    from_second : (r : Result (ℕ × Cursor) Refusal) → Says l at 3 1 (at + 1) r → onto (λ (n : ℕ). 128 * n + (get_or l at 0 - 128)) r ≡ varint_at l at
    from_second r told = long l at _ (omega arith) (rest l at 4 0 at _ (byte_there l at h) _ _ refl (λ z. omega (arith, z)) a r told)

    not_short : (why : Refusal) → Says l at 3 1 (at + 1) (Err why) → None ≡ short_at l at
    unfolding short_at
    not_short why told = rw (← from_second (Err why) told)

    pub short_cut : length l ≤ at + 1 → None ≡ short_at l at
    short_cut g = not_short _ (ends_here l at 3 1 (at + 1) _ (byte_short l (at + 1) g _ refl) _ refl)

    module _ (g : at + 1 < length l) where
      pub short_zero : get_or l (at + 1) 0 ≡ 0 → None ≡ short_at l at
      short_zero z = not_short _ (low_here l at 3 1 (at + 1) _ (byte_there l (at + 1) g) _ _ refl (omega arith) (omega arith) (refusal 15 at) refl)

      pub short_two : get_or l (at + 1) 0 < 128 → (get_or l (at + 1) 0 ≡ 0 → ⊥)
          → Some (128 * get_or l (at + 1) 0 + (get_or l at 0 - 128), cursor_at (at + 2)) ≡ short_at l at
      unfolding short_at
      short_two b z =
          let e : at + 2 ≡ at + 1 + 1 = omega arith in
          let second : Says l at 3 1 (at + 1) (Ok (get_or l (at + 1) 0, cursor_at (at + 1 + 1)))
          = small_here l at 3 1 (at + 1) _ (byte_there l (at + 1) g) _ _ refl (omega arith) (λ z. omega (arith, z)) b in
          rw (← from_second _ second) (simp (e, le-leb (at + 1 + 1) (at + 1 + 1) (omega arith)))

      pub short_more : 128 ≤ get_or l (at + 1) 0 → None ≡ short_at l at
      unfolding short_at
      short_more b = through (varint_rest l at 2 1 (at + 1 + 1)) refl
        where
          second : (r : Result (ℕ × Cursor) Refusal) → Says l at 2 1 (at + 1 + 1) r
              → Says l at 3 1 (at + 1) (onto (λ (n : ℕ). 128 * n + (get_or l (at + 1) 0 - 128)) r)
          second r told = rest l at 3 1 (at + 1) _ (byte_there l (at + 1) g) _ _ refl (λ z. omega (arith, z)) b r told

          through : (r : Result (ℕ × Cursor) Refusal) → Says l at 2 1 (at + 1 + 1) r → None ≡ short_at l at
          through (Err why) told = not_short why (second (Err why) told)
          through (Ok (n, c)) told =
              let k : at + 1 + 1 < c.at = value_past l at 2 1 (at + 1 + 1) n c told in
              rw (← from_second _ (second (Ok (n, c)) told)) (simp (lt-leb c.at (at + 2) (omega arith)))

pub first_fits : (l : List ℕ) (at : ℕ) → ((i : ℕ) → Fits w8 (get_or l i 0)) → Fits w64 (get_or l at 0 - 128)
first_fits l at known = omega (arith, (known at).fits)

pub second_fits : (l : List ℕ) (next : ℕ) → ((i : ℕ) → Fits w8 (get_or l i 0)) → Fits w64 (128 * get_or l next 0)
second_fits l next known = omega (arith, (known next).fits)

pub both_fit : (l : List ℕ) (at next : ℕ) → ((i : ℕ) → Fits w8 (get_or l i 0)) → Fits w64 (128 * get_or l next 0 + (get_or l at 0 - 128))
both_fit l at next known = omega (arith, (known at).fits, (known next).fits)

pub ruleset short_laws = (short_one, short_none, short_cut, short_zero, short_two, short_more, first_fits, second_fits, both_fit)

-- what was short is the varint there
pub short_reads : (l : List ℕ) (at : ℕ) (r : Option (ℕ × Cursor)) → r ≡ short_at l at → (n : ℕ) (c : Cursor) → r ≡ Some (n, c) → Ok (n, c) ≡ varint_at l at
unfolding short_at
short_reads l at r e n c q = through (varint_at l at) (sym q ∙ e)
  where
    decided : (b : Bool) (m : ℕ) (x : Cursor) → ◌≡◌ {A = Option (ℕ × Cursor)} (Some (n, c)) (pick b (Some (m, x)) None)
        → ◌≡◌ {A = Result (ℕ × Cursor) Refusal} (Ok (n, c)) (Ok (m, x))
    decided true m x p = cc
    decided false m x p = absurd (let z : ◌≡◌ {A = ℕ} 0 1 = cc in omega arith)

    through : (m : Result (ℕ × Cursor) Refusal) → Some (n, c) ≡ short_step at m → ◌≡◌ {A = Result (ℕ × Cursor) Refusal} (Ok (n, c)) m
    through (Ok (m, x)) p = decided (leb x.at (at + 2)) m x p
    through (Err why) p = absurd (let z : ◌≡◌ {A = ℕ} 0 1 = cc in omega arith)

pub ruleset varint_laws = (long, short_reads)
