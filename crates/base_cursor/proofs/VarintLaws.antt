-- What the answer of a varint at a place tells of the format's own reader.
-- Assumes nothing.
use Rattle.std.specs.Prelude.{Result, Ok, Err}
use mathlib.Core.Path.{◌≡◌, refl, sym, ap, ◌∙◌}
use Prim.Native.Nat.{ℕ, zero, suc, ◌+◌, ◌-◌, ◌^◌, ◌≤◌, ◌<◌}
use mathlib.Core.List.{List, [], ◌∷◌}
use lib.ListN.{length, drop, get_or, length-drop, length-append}
use lib.Seq.{drop_at, drop-drop}
use lib.Dec.{ltb, leb, lit≤}
use native.Mathlib.Omega.{arith}
use borrow.Author.Tests.{ltb-true, ltb-false}
use Rattle.format.specs.declared.Refusal.{Refusal}
use Rattle.format.specs.Base.{Out, ok, refused, Bytes}
use Rattle.format.specs.Varint.{varint_limit, varint_bytes, read_varint_within, read_varint}
use Rattle.format.proofs.Exits.{ok_parts}
use Rattle.format.proofs.Rules.{Holds, by_test, by_need, by_map, below_drop}
use Rattle.format.proofs.VarintLaws.{IsVarint, varint_as_written}
use Rattle.base_cursor.specs.Steps.{step, varint_rest, varint_at}
use Rattle.base_cursor.specs.declared.Cursor.{Cursor}
use Rattle.base_cursor.proofs.ByteLaws.{bytes_of}

-- ---- a value that was read is small, so that the code's sum fits

limit_positive : (more : ℕ) → 1 ≤ varint_limit more
unfolding varint_limit
limit_positive zero = lit≤ tt
limit_positive (suc more) = let h : 1 ≤ varint_limit more = limit_positive more in omega arith

abbrev Small : ℕ → ℕ → List ℕ → Type 0
Small more n left = n < varint_limit more

within_small : (end first more least : ℕ) (bs : List ℕ) → Bytes bs → Holds (Small more) (read_varint_within end first more least bs)
unfolding read_varint_within varint_limit
within_small end first zero least [] y = tt
within_small end first (suc more) least [] y = tt
within_small end first zero least (b ∷ bs) y =
    by_need (Small zero) (ltb b 16) _ _ _ (λ t. by_need (Small zero) (leb least b) _ _ _ (λ u. ltb-true b 16 t))
within_small end first (suc more) least (b ∷ bs) y =
    by_test (Holds (Small (suc more))) (ltb b 128)
    (λ t. by_need (Small (suc more)) (leb least b) _ _ _ (λ u. omega (arith, ltb-true b 128 t, limit_positive more)))
    (λ t. by_map (Small more) (Small (suc more)) (read_varint_within end first more 1 bs) _ (within_small end first more 1 bs y.1)
    (λ n left h. omega (arith, ltb-false b 128 t, y.0)))

few_limit : (more : ℕ) → more ≤ 3 → varint_limit more ≤ 2 ^ 25
unfolding varint_limit
few_limit zero h = lit≤ tt
few_limit (suc zero) h = lit≤ tt
few_limit (suc (suc zero)) h = lit≤ tt
few_limit (suc (suc (suc zero))) h = lit≤ tt
few_limit (suc (suc (suc (suc more)))) h = absurd (omega arith)

pub value_small : (l : List ℕ) (first more least at n : ℕ) (c : Cursor) → ((i : ℕ) → get_or l i 0 < 256) → more ≤ 4
    → (r : Result (ℕ × Cursor) Refusal) → r ≡ varint_rest l first (more - 1) least at → r ≡ Ok (n, c) → n < 2 ^ 25
value_small l first more least at n c y h r e q =
    through (read_varint_within (length l) first (more - 1) least (drop at l)) (sym q ∙ e)
    (within_small (length l) first (more - 1) least (drop at l) (below_drop 256 at l (bytes_of l y)))
  where
    through : (m : Out ℕ) → Ok (n, c) ≡ step (length l) m → Holds (Small (more - 1)) m → n < 2 ^ 25
    through (ok v x) p i = let q' : n ≡ v = (ok_parts p).0 in omega (arith, few_limit (more - 1) (omega arith))
    through (refused why) p i = let z : ◌≡◌ {A = ℕ} 0 1 = cc in absurd (omega arith)

-- ---- a value that was read ends further on

abbrev Fewer : List ℕ → ℕ → List ℕ → Type 0
Fewer bs n left = length left < length bs

within_fewer : (end first more least : ℕ) (bs : List ℕ) → Holds (Fewer bs) (read_varint_within end first more least bs)
unfolding read_varint_within
within_fewer end first zero least [] = tt
within_fewer end first (suc more) least [] = tt
within_fewer end first zero least (b ∷ bs) =
    by_need (Fewer (b ∷ bs)) (ltb b 16) _ _ _ (λ t. by_need (Fewer (b ∷ bs)) (leb least b) _ _ _ (λ u. omega arith))
within_fewer end first (suc more) least (b ∷ bs) =
    by_test (Holds (Fewer (b ∷ bs))) (ltb b 128) (λ t. by_need (Fewer (b ∷ bs)) (leb least b) _ _ _ (λ u. omega arith))
    (λ t. by_map (Fewer bs) (Fewer (b ∷ bs)) (read_varint_within end first more 1 bs) _ (within_fewer end first more 1 bs) (λ n left h. omega arith))

pub value_past : (l : List ℕ) (first more least at n : ℕ) (c : Cursor) → Ok (n, c) ≡ varint_rest l first more least at → at < c.at
value_past l first more least at n c e =
    through (read_varint_within (length l) first more least (drop at l)) e (within_fewer (length l) first more least (drop at l))
  where
    through : (m : Out ℕ) → Ok (n, c) ≡ step (length l) m → Holds (Fewer (drop at l)) m → at < c.at
    through (ok v left) p i = let q : c.at ≡ length l - length left = ap (λ (x : Cursor). x.at) (ok_parts p).1 in omega (arith, i, length-drop at l)
    through (refused why) p i = let z : ◌≡◌ {A = ℕ} 0 1 = cc in absurd (omega arith)

-- ---- the answer and the reader

-- what is known where a varint was read: the cursor after it, and the reader's own answer
pub record Read (l : List ℕ) (at n : ℕ) (c : Cursor) : Type 0 where
  pub on : at ≤ c.at
  pub inside : c.at ≤ length l
  pub reads : read_varint (length l) (drop at l) ≡ ok n (drop c.at l)

pub was_read : (l : List ℕ) (at n : ℕ) (c : Cursor) → ((i : ℕ) → get_or l i 0 < 256) → at ≤ length l → Ok (n, c) ≡ varint_at l at → Read l at n c
unfolding varint_at
was_read l at n c y h e =
    through (read_varint (length l) (drop at l)) refl e (varint_as_written (length l) (drop at l) (below_drop 256 at l (bytes_of l y)))
  where
    through : (m : Out ℕ) → read_varint (length l) (drop at l) ≡ m → Ok (n, c) ≡ step (length l) m → Holds (IsVarint (drop at l)) m → Read l at n c
    through (refused why) q p w = absurd (let z : ◌≡◌ {A = ℕ} 0 1 = cc in omega arith)
    through (ok v left) q p w =
        let bytes : List ℕ = varint_bytes v in
        let value : n ≡ v = (ok_parts p).0 in
        let place : c.at ≡ length l - length left = ap (λ (x : Cursor). x.at) (ok_parts p).1 in
        let both : length l - at ≡ length bytes + length left = sym (length-drop at l) ∙ ap length w.0 ∙ length-append bytes left in
        let moved : at + length bytes ≡ c.at = omega arith in
        let rest : drop c.at l ≡ left = rw (← moved, ← drop-drop (length bytes) at l, w.0) (drop_at bytes left (length bytes) refl) in
        record { on = omega arith; inside = omega arith; reads = rw (value, rest) q }

pub was_refused : (l : List ℕ) (at : ℕ) (why : Refusal) → Err why ≡ varint_at l at → read_varint (length l) (drop at l) ≡ refused why
unfolding varint_at
was_refused l at why e = through (read_varint (length l) (drop at l)) e
  where
    through : (m : Out ℕ) → Err why ≡ step (length l) m → m ≡ refused why
    through (ok v x) q = absurd (let z : ◌≡◌ {A = ℕ} 0 1 = cc in omega arith)
    through (refused because) q = cc
