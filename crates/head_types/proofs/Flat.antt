-- The flat check of a block's types: one byte, one turn of the loop, and what it says of the block.
-- Assumes nothing.
use Rattle.std.specs.Prelude.{Some, None}
use mathlib.Core.Path.{◌≡◌, refl, sym, ◌∙◌}
use Prim.Native.Nat.{ℕ, zero, suc, ◌+◌, ◌-◌, ◌/◌, ◌%◌, ◌^◌, ◌≤◌, ◌<◌}
use native.Mathlib.Nat.{div-one, pow-zero, mod-lt, div-lt_iff_lt-mul, lt-div-mul-add, zero-lt-suc}
use mathlib.Core.Bool.{Bool, true, false}
use mathlib.Core.List.{List}
use lib.ListN.{drop, get_or}
use lib.Seq.{get_or-drop}
use mir.Syntax.{w8}
use mir.Val.{Fits}
use native.Mathlib.Omega.{arith}
use native.Mathlib.Numerals.{add-one}
use Rattle.format.specs.Base.{pick}
use Rattle.format.specs.Packed.{Bits, four, eight, more, packed_size}
use Rattle.format.specs.Body.{type_leans}
use Rattle.format.specs.Variant.{block_variant}
use Rattle.format.specs.Layout.{type_allowed}
use Rattle.head_index.specs.NumbersAt.{digit_at, digits_at}
use Rattle.head_index.specs.Rules.{bad_in_block}
use Rattle.head_types.specs.Fine.{Fine, FineByte, FineBytes}
use Rattle.head_types.proofs.Types.{stands, alone_allowed, later_allowed, leaner_refused}
use Rattle.head_types.proofs.Scanning.{next_type}

-- ---- one byte

-- two types
two_fine : (byte : ℕ) → byte < 256 → Fine (byte % 16) → Fine (byte / 16) → FineByte four byte
two_fine byte l low high = record { each = each }
  where
    each : (j : ℕ) → j < 2 → Fine (byte / 16 ^ j % 16)
    each zero h = rw (pow-zero, div-one) low
    each (suc zero) h = let e : byte / 16 % 16 ≡ byte / 16 = omega arith in rw e high
    each (suc (suc j)) h = absurd (omega arith)

-- one
one_fine : (byte : ℕ) → byte < 256 → Fine byte → FineByte eight byte
one_fine byte l whole = record { each = each }
  where
    each : (j : ℕ) → j < 1 → Fine (byte / 256 ^ j % 256)
    each zero h = let e : byte % 256 ≡ byte = omega arith in rw (pow-zero, div-one, e) whole
    each (suc j) h = absurd (omega arith)

-- by the width of types, and what was found amiss in each
pub half_fine : (byte : ℕ) (half : Bool) {x y worst : ℕ} → half ≡ true → Fits w8 byte → (x ≡ 0 → Fine (byte % 16)) → (y ≡ 0 → Fine (byte / 16))
    → x ≤ worst → y ≤ worst → worst ≡ 0 → FineByte (pick half four eight) byte
half_fine byte half e l low high p q z = rw e (two_fine byte l.fits (low (omega arith)) (high (omega arith)))

pub whole_fine : (byte : ℕ) (half : Bool) {x : ℕ} → half ≡ false → Fits w8 byte → (x ≡ 0 → Fine byte) → x ≡ 0 → FineByte (pick half four eight) byte
whole_fine byte half e l whole z = rw e (one_fine byte l.fits (whole z))

-- ---- the loop

-- of the bytes passed, if the worst is 0
pub record Flat (bs : List ℕ) (at size : ℕ) (bits : Bits) (worst k : ℕ) : Type 0 where
  pub inside : k ≤ size
  pub fine : worst ≡ 0 → (p : ℕ) → p < k → FineByte bits (get_or bs (at + p) 0)

pub ruleset flat_laws = (half_fine, whole_fine)

-- ---- what it says of a block

-- each type is fine
each_fine : (bs : List ℕ) (at n : ℕ) (bits : Bits) (i : ℕ) → FineBytes bs at (packed_size bits n) bits → i < n → Fine (digit_at bits (drop at bs) i)
unfolding digit_at
each_fine bs at n bits i g h =
    let m : ℕ = more bits in
    let q : i / suc m < (n + m) / suc m = (div-lt_iff_lt-mul (zero-lt-suc m)).1 (omega (arith, lt-div-mul-add {a = n + m} (zero-lt-suc m))) in
    rw get_or-drop ((g.each (i / suc m) q).each (i % suc m) (mod-lt i (zero-lt-suc m)))

-- types that are allowed are passed
all_allowed : (bs : List ℕ) (n : ℕ) (bits : Bits) (left i : ℕ) → i + left ≡ n → ((k : ℕ) → k < n → type_allowed (block_variant k) (digit_at bits bs k) ≡ true)
    → bad_in_block (block_variant i) (digits_at bits bs i left) ≡ None
unfolding bad_in_block digits_at
all_allowed bs n bits zero i e g = refl
all_allowed bs n bits (suc left) i e g = simp (g i (omega arith), add-one) (all_allowed bs n bits left (suc i) (omega arith) g)

-- the first type does not lean, and all are fine
pub none_bad : (bs : List ℕ) (at n : ℕ) (bits : Bits) {first size : ℕ} {lean fine : Bool} → first ≡ digit_at bits (drop at bs) 0 → lean ≡ type_leans first
    → lean ≡ false → size ≡ packed_size bits n → (fine ≡ true → FineBytes bs at size bits) → fine ≡ true
    → None ≡ bad_in_block (block_variant 0) (digits_at bits (drop at bs) 0 n)
none_bad bs at n bits d e l s f t = sym (all_allowed (drop at bs) n bits n 0 (omega arith) allowed)
  where
    g : FineBytes bs at (packed_size bits n) bits
    g = rw s at (f t)

    allowed : (k : ℕ) → k < n → type_allowed (block_variant k) (digit_at bits (drop at bs) k) ≡ true
    allowed zero h =
        let f : Fine (digit_at bits (drop at bs) 0) = each_fine bs at n bits 0 g h in
        sym (alone_allowed (block_variant 0) (digit_at bits (drop at bs) 0) _ refl (sym f.bits) refl f.known refl (rw (e, d) at l))
    allowed (suc k) h =
        let f : Fine (digit_at bits (drop at bs) (suc k)) = each_fine bs at n bits (suc k) g h in
        sym (later_allowed (block_variant (suc k)) (digit_at bits (drop at bs) (suc k)) _ refl (sym f.bits) refl f.known (λ z. omega arith))

-- the first type leans
pub first_bad : (bs : List ℕ) (at n : ℕ) (bits : Bits) {first : ℕ} {lean : Bool} → 1 ≤ n → first ≡ digit_at bits (drop at bs) 0 → lean ≡ type_leans first
    → lean ≡ true → Some (block_variant 0) ≡ bad_in_block (block_variant 0) (digits_at bits (drop at bs) 0 n)
first_bad bs at n bits h d e l =
    let z : n - 0 ≡ n = omega arith in
    let a : type_allowed (block_variant 0) (digit_at bits (drop at bs) 0) ≡ false
    = leaner_refused (block_variant 0) (digit_at bits (drop at bs) 0) refl (rw (e, d) at l) in
    sym (rw z at (next_type (drop at bs) n bits 0 h) ∙ simp a)

pub ruleset block_laws = (stands, none_bad, first_bad)
