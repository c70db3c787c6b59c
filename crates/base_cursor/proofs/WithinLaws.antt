-- What each return of `varint_from` says, from the tests that led to it: `got` is what the call for a byte gave, `r` what the call of itself did.
-- Assumes nothing.
use Rattle.std.specs.Prelude.{Result, Ok, Err}
use mathlib.Core.Path.{◌≡◌, refl, sym, ap, ◌∙◌}
use Prim.Native.Nat.{ℕ, zero, suc, ◌+◌, ◌-◌, ◌*◌, ◌≤◌, ◌<◌}
use mathlib.Core.List.{List}
use lib.ListN.{length, drop, get_or, drop_of_length-le}
use lib.Seq.{drop-cons}
use lib.Dec.{ltb, leb}
use mir.Syntax.{w8, w64}
use mir.Val.{Fits}
use native.Mathlib.Omega.{arith}
use native.Mathlib.Numerals.{add-one}
use borrow.Author.Tests.{le-ltb, lt-ltb, le-leb, lt-leb}
use Rattle.format.specs.declared.Refusal.{Refusal}
use Rattle.format.specs.Base.{pick, Out, ok, refused, refusal, refuse, map_out, need}
use Rattle.format.specs.Varint.{read_varint_within}
use Rattle.format.proofs.Rules.{split}
use Rattle.base_cursor.specs.Steps.{byte_at, step, varint_rest}
use Rattle.base_cursor.specs.declared.Cursor.{Cursor}
use Rattle.base_cursor.proofs.ByteLaws.{here, ByteRead, byte_read, ByteRefused, byte_refused}
use Rattle.base_cursor.proofs.VarintLaws.{value_small}

abbrev pub Says : List ℕ → ℕ → ℕ → ℕ → ℕ → Result (ℕ × Cursor) Refusal → Type 0
Says l first more least at r = r ≡ varint_rest l first more least at

pub no_byte : (l : List ℕ) (end first more least at : ℕ) → length l ≤ at → read_varint_within end first more least (drop at l) ≡ refuse 12 end
unfolding read_varint_within
no_byte l end first zero least at h = rw (drop_of_length-le l h)
no_byte l end first (suc more) least at h = rw (drop_of_length-le l h)

-- an answer with its value changed
abbrev pub onto : (ℕ → ℕ) → Result (ℕ × Cursor) Refusal → Result (ℕ × Cursor) Refusal
onto f (Ok (n, end)) = Ok (f n, end)
onto f (Err why) = Err why

onto_step : (end : ℕ) (f : ℕ → ℕ) (m : Out ℕ) → onto f (step end m) ≡ step end (map_out f m)
onto_step end f (ok n left) = refl
onto_step end f (refused why) = refl

module _ (l : List ℕ) (first more least at : ℕ) (got : Result (ℕ × Cursor) Refusal) (e : got ≡ byte_at l at) where
  pub ends_here : (why : Refusal) → got ≡ Err why → Says l first more least at (Err why)
  ends_here why q =
      let h : ByteRefused l at why = byte_refused l at why (sym q ∙ e) in
      rw (h.is, no_byte l (length l) first more least at h.outside)

  module _ (b : ℕ) (next : Cursor) (q : got ≡ Ok (b, next)) where
    h : ByteRead l at b next
    h = byte_read l at b next (sym q ∙ e)

    -- the reader's clauses at a byte
    last : more ≡ 0 → read_varint_within (length l) first more least (drop at l)
        ≡ need (ltb b 16) 15 first (need (leb least b) 15 first (ok b (drop next.at l)))
    unfolding read_varint_within
    last z = rw (z, drop-cons l at 0 h.inside, h.value, h.moved, add-one)

    abbrev pub joined : ℕ → ℕ
    joined n = 128 * n + (b - 128)

    further : (more ≡ 0 → ⊥) → read_varint_within (length l) first more least (drop at l)
        ≡ pick (ltb b 128) (need (leb least b) 15 first (ok b (drop next.at l)))
        (map_out joined (read_varint_within (length l) first (more - 1) 1 (drop next.at l)))
    unfolding read_varint_within
    further z =
        let m : more ≡ suc (more - 1) = omega arith in
        ap (λ (j : ℕ). read_varint_within (length l) first j least (drop at l)) m ∙ rw (drop-cons l at 0 h.inside, h.value, h.moved, add-one)

    moved : length l - length (drop next.at l) ≡ next.at
    moved = here l next.at (rw h.moved (omega (arith, h.inside)))

    -- "in its shortest form" comes first: the byte is 0 then, so no other test would refuse it earlier
    pub low_here : b < least → least ≤ 1 → (why : Refusal) → why ≡ refusal 15 first → Says l first more least at (Err why)
    low_here a o why f =
        rw f
        (split 1 more (λ m. simp (further (λ z. omega arith), lt-ltb b 128 (omega arith), lt-leb least b a))
        (λ m. simp (last (omega arith), lt-ltb b 16 (omega arith), lt-leb least b a)))

    pub last_here : least ≤ b → more ≡ 0 → b < 16 → Says l first more least at (Ok (b, next))
    last_here g z a = simp (last z, lt-ltb b 16 a, le-leb least b g, moved)

    pub big_here : more ≡ 0 → 16 ≤ b → (why : Refusal) → why ≡ refusal 15 first → Says l first more least at (Err why)
    big_here z a why f = rw f (simp (last z, le-ltb b 16 a))

    pub small_here : least ≤ b → (more ≡ 0 → ⊥) → b < 128 → Says l first more least at (Ok (b, next))
    small_here g z a = simp (further z, lt-ltb b 128 a, le-leb least b g, moved)

    module _ (z : more ≡ 0 → ⊥) (a : 128 ≤ b) (r : Result (ℕ × Cursor) Refusal) (told : Says l first (more - 1) 1 next.at r) where
      pub rest : Says l first more least at (onto joined r)
      rest = rw (told, further z, le-ltb b 128 a, onto_step)

      pub value_here : (n : ℕ) (end : Cursor) → r ≡ Ok (n, end) → Says l first more least at (Ok (128 * n + (b - 128), end))
      value_here n end o = rw o at rest

      pub refused_here : (why : Refusal) → r ≡ Err why → Says l first more least at (Err why)
      refused_here why o = rw o at rest

-- the sum fits
module _ (n : ℕ) (end : Cursor) (r : Result (ℕ × Cursor) Refusal) (q : r ≡ Ok (n, end)) (l : List ℕ) (first more : ℕ) (next : Cursor)
    (told : Says l first (more - 1) 1 next.at r) (known : (i : ℕ) → Fits w8 (get_or l i 0)) (few : more ≤ 4) where
  small : n < 33554432
  small = value_small l first more 1 next.at n end (λ i. (known i).fits) few r told q

  pub times_fits : Fits w64 (128 * n)
  times_fits = omega (arith, small)

  pub sum_fits : (b : ℕ) → Fits w8 b → Fits w64 (128 * n + (b - 128))
  sum_fits b f = omega (arith, small)

pub ruleset within_laws = (ends_here, low_here, last_here, big_here, small_here, value_here, refused_here, times_fits, sum_fits)
