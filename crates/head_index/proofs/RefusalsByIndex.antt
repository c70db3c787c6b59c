-- The header check by index, for every list of bytes: refusals 1 to 6. Each law is one test of the code, and what the definition then gives.
-- Assumes nothing.
use mathlib.Core.Path.{◌≡◌, ap, ◌∙◌, subst}
use Prim.Native.Nat.{ℕ, zero, suc, ◌+◌, ◌-◌, ◌*◌, ◌/◌, ◌%◌, ◌≤◌, ◌<◌, zero-le, min}
use native.Mathlib.Nat.{zero-mul, suc-mul, mul-zero, div-eq_of_lt, mod-eq_of_lt, div-eq-sub-div, mod-eq-sub-mod, min-eq_left, min-eq_right, zero-div}
use native.Mathlib.Nat.{zero-mod}
use mathlib.Core.Bool.{true, false}
use mathlib.Core.List.{List, ◌++◌, map}
use lib.ListN.{length, drop, length-drop}
use native.Mathlib.Omega.{arith}
use borrow.Author.Tests.{lt-leb}
use Rattle.format.specs.Base.{Bytes, ok, refuse, numbered, refuse_of}
use Rattle.format.specs.Variant.{no_variant}
use Rattle.format.specs.Packed.{one, more, packed_size}
use Rattle.format.specs.Layout.{Fixed, fixed_bytes, unblocked, Form, form_of, flag_count, sum, block_count, cut, block_size, blocked_size}
use Rattle.format.specs.Layout.{arrays_size, header_end, FixedObeys}
use Rattle.format.specs.Header.{read_fixed, need_fixed, read_after_fixed, read_header, read_layout}
use Rattle.format.proofs.Rules.{Holds, split}
use Rattle.format.proofs.ColumnsLaws.{flag_count_zero}
use Rattle.format.proofs.BlocksLaws.{blocks_hold_all}
use Rattle.format.proofs.ArraysLaws.{AreFixed, fixed_as_written, fixed_pass, fixed_then}
unfoldable pub use Rattle.head_index.specs.NumbersAt.{fixed_at}
unfoldable pub use Rattle.head_index.specs.Rules.{after_fixed}
use Rattle.head_index.proofs.ByIndex.{number_there, number_there_at, number_short, number_short_at}

-- ---- the fixed fields

-- twelve bytes are read as the fields by index
pub fixed_there : (end : ℕ) (bs : List ℕ) → 12 ≤ length bs → read_fixed end bs ≡ ok (fixed_at bs) (drop 12 bs)
unfolding read_fixed fixed_at
fixed_there end bs h =
    simp (
      number_there end 2 bs (omega arith),
      number_there_at end 1 2 bs (omega arith),
      number_there_at end 4 3 bs (omega arith),
      number_there_at end 4 7 bs (omega arith),
      number_there_at end 1 11 bs (omega arith),
    )

-- fewer than twelve bytes are refused
fixed_short : (end : ℕ) (bs : List ℕ) → length bs < 12 → numbered 1 (read_fixed end bs) ≡ refuse 1 end
unfolding read_fixed
fixed_short end bs h =
    split 2 (length bs) (λ a.
    split 3 (length bs) (λ b.
    split 7 (length bs) (λ c.
    split 11 (length bs) (λ d.
    simp (number_there end 2 bs a, number_there_at end 1 2 bs b, number_there_at end 4 3 bs c, number_there_at end 4 7 bs d, number_short_at end 1 11 bs h d))
    (λ d. simp (number_there end 2 bs a, number_there_at end 1 2 bs b, number_there_at end 4 3 bs c, number_short_at end 4 7 bs d c)))
    (λ c. simp (number_there end 2 bs a, number_there_at end 1 2 bs b, number_short_at end 4 3 bs c b)))
    (λ b. simp (number_there end 2 bs a, number_short_at end 1 2 bs b a)))
    (λ a. simp (number_short end 2 bs a))

-- the first twelve bytes are those of the fields
pub fixed_at_written : (bs : List ℕ) → Bytes bs → 12 ≤ length bs → bs ≡ fixed_bytes (fixed_at bs) ++ drop 12 bs
fixed_at_written bs y h =
    let g : AreFixed bs (fixed_at bs) (drop 12 bs) = subst (Holds (AreFixed bs)) (fixed_there (length bs) bs h) (fixed_as_written (length bs) bs y) in
    g.written

-- ---- refusals 1 to 6

-- 1: under twelve bytes
pub refusal_1 : (K : ℕ) (bs : List ℕ) → length bs < 12 → read_layout K bs ≡ refuse 1 (length bs)
unfolding read_layout read_header
refusal_1 K bs h = simp (fixed_short (length bs) bs h)

-- 2 to 5: the rules on the fields by index
pub refusals_2_to_5 : (K : ℕ) (bs : List ℕ) → 12 ≤ length bs → read_layout K bs ≡ need_fixed (fixed_at bs) (after_fixed K bs)
unfolding read_layout read_header after_fixed
refusals_2_to_5 K bs h = simp (fixed_there (length bs) bs h) (fixed_then (fixed_at bs) (read_after_fixed K (length bs) (fixed_at bs) (drop 12 bs)) _)

-- 6: the arrays do not fit
pub refusal_6 : (K : ℕ) (bs : List ℕ) → 12 ≤ length bs → length bs < header_end K (fixed_at bs)
    → after_fixed K bs ≡ refuse_of (no_variant (fixed_at bs).variants) 6 (length bs)
unfolding after_fixed read_after_fixed
refusal_6 K bs h l = simp (lt-leb (arrays_size K (fixed_at bs)) (length (drop 12 bs)) (rw length-drop (omega arith)))

-- the form is a byte
pub form_byte_at : (bs : List ℕ) → Bytes bs → 12 ≤ length bs → (fixed_at bs).form < 256
form_byte_at bs y h =
    let g : AreFixed bs (fixed_at bs) (drop 12 bs) = subst (Holds (AreFixed bs)) (fixed_there (length bs) bs h) (fixed_as_written (length bs) bs y) in
    g.form_byte

-- fields that obey pass
pub passed_2_to_5 : (K : ℕ) (bs : List ℕ) → 12 ≤ length bs → FixedObeys (fixed_at bs) → read_layout K bs ≡ after_fixed K bs
passed_2_to_5 K bs h g = refusals_2_to_5 K bs h ∙ fixed_pass (fixed_at bs) (after_fixed K bs) g

-- ---- how long the arrays are: full blocks and one more

-- a block of no variants has no bytes
empty_block : (form : Form) → block_size form 0 ≡ 0
unfolding block_size
empty_block form =
    let a : (0 + more form.type_bits) / suc (more form.type_bits) ≡ 0 = div-eq_of_lt (omega arith) in
    simp (a, mul-zero, flag_count_zero)

-- the size of all blocks: the full ones and the rest
pub blocks_size_closed : (form : Form) (K blocks M : ℕ) → zero < K → M ≤ blocks * K
    → sum (map (block_size form) (cut K blocks M)) ≡ M / K * block_size form K + block_size form (M % K)
unfolding cut sum
blocks_size_closed form K zero M p h =
    let e : M ≡ 0 = omega (arith, zero-mul K) in
    rw (e, zero-div, zero-mod, empty_block) (omega (arith, zero-mul (block_size form K)))
blocks_size_closed form K (suc blocks) M p h =
    split K M
    (λ a.
    let x : min K M ≡ K = min-eq_left a in
    let ih : sum (map (block_size form) (cut K blocks (M - K))) ≡ (M - K) / K * block_size form K + block_size form ((M - K) % K)
    = blocks_size_closed form K blocks (M - K) p (omega (arith, suc-mul blocks K)) in
    let d : M / K ≡ suc ((M - K) / K) = div-eq-sub-div p a ∙ omega arith in
    rw (x, d, mod-eq-sub-mod a) (omega (arith, ih, suc-mul ((M - K) / K) (block_size form K))))
    (λ a.
    let x : min K M ≡ M = min-eq_right (omega arith) in
    let z : M - K ≡ 0 = omega arith in
    let ih : sum (map (block_size form) (cut K blocks 0)) ≡ 0 / K * block_size form K + block_size form (0 % K)
    = blocks_size_closed form K blocks 0 p zero-le in
    let o : sum (map (block_size form) (cut K blocks 0)) ≡ 0 = rw (zero-div, zero-mod, empty_block, zero-mul) at ih in
    rw (x, z, div-eq_of_lt a, mod-eq_of_lt a) (omega (arith, o, zero-mul (block_size form K))))

-- with blocks
pub arrays_size_blocked : (K : ℕ) (f : Fixed) → zero < K → unblocked f.mode ≡ false
    → arrays_size K f ≡ 8 * block_count K f + (f.variants / K * block_size (form_of f) K + block_size (form_of f) (f.variants % K))
unfolding arrays_size blocked_size
arrays_size_blocked K f p e =
    simp e (ap (λ (z : ℕ). 8 * block_count K f + z) (blocks_size_closed (form_of f) K (block_count K f) f.variants p (blocks_hold_all K f p e)))

-- without
pub arrays_size_unblocked : (K : ℕ) (f : Fixed) → unblocked f.mode ≡ true → arrays_size K f ≡ packed_size one (flag_count (form_of f) f.variants)
unfolding arrays_size
arrays_size_unblocked K f e = simp e
