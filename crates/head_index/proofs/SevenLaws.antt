-- Refusal 7 is for unused bits only: once the arrays fit into the file (6), reading them is refused for nothing else.
-- Assumes nothing.
use mathlib.Core.Path.{◌≡◌, refl, ap, ◌∙◌}
use Prim.Native.Nat.{ℕ, zero, suc, ◌+◌, ◌*◌, ◌/◌, ◌≤◌}
use native.Mathlib.Nat.{mul-zero, mul-suc, lt-div-mul-add, mul-le-mul_right, mul_comm, zero-lt-suc}
use mathlib.Core.Bool.{Bool, true, false}
use mathlib.Core.List.{List, [], ◌∷◌, map}
use lib.ListN.{length, length-append}
use lib.Dec.{eqb}
use native.Mathlib.Omega.{arith}
use Rattle.format.specs.Base.{pick, Bytes, map_out}
use Rattle.format.specs.Numbers.{number_bytes, read_number, numbers_bytes, read_numbers}
use Rattle.format.specs.Packed.{Bits, one, limit, more, packed, packed_size, read_packed_after, read_packed}
use Rattle.format.specs.Layout.{Fixed, unblocked, Form, form_of, flag_count, sum, block_count, block_sizes, block_bytes, block_size, blocked_size, arrays_size}
use Rattle.format.specs.Header.{read_block, read_blocks, read_blocked, unblocked_arrays, read_arrays}
use Rattle.format.proofs.Rules.{by_test, below_after}
use Rattle.format.proofs.Refuses.{Refuses, Exactly, refuses_map, refuses_bind}
use Rattle.format.proofs.NumbersLaws.{IsNumber, number_as_written, number_length, AreNumbers, numbers_as_written, numbers_length}
use Rattle.format.proofs.PackedLaws.{ArePacked, packed_as_written, packed_length}
use Rattle.format.proofs.BlocksLaws.{block_length, AreBlock, block_as_written}

-- ---- with the bytes there

-- numbers that have room
only_after : (end b m room rest n : ℕ) (bs : List ℕ) → n ≤ room + suc m * length bs → Refuses (Exactly 18) (read_packed_after end b m room rest n bs)
unfolding read_packed_after
only_after end b m room rest zero bs h = by_test (Refuses (Exactly 18)) (eqb rest 0) (λ t. tt) (λ t. refl)
only_after end b m zero rest (suc n) [] h = absurd (omega (arith, mul-zero (suc m)))
only_after end b m zero rest (suc n) (x ∷ bs) h =
    refuses_map (Exactly 18) _ (read_packed_after end b m m (x / b) n bs) (only_after end b m m (x / b) n bs (omega (arith, mul-suc (suc m) (length bs))))
only_after end b m (suc room) rest (suc n) bs h =
    refuses_map (Exactly 18) _ (read_packed_after end b m room (rest / b) n bs) (only_after end b m room (rest / b) n bs (omega arith))

-- bytes that a packed array needs have room for its numbers
pub has_room : (bits : Bits) (n : ℕ) (bs : List ℕ) → packed_size bits n ≤ length bs → n ≤ 0 + suc (more bits) * length bs
has_room bits n bs h =
    let m : ℕ = more bits in
    omega (arith, lt-div-mul-add {a = n + m} (zero-lt-suc m), mul-le-mul_right (suc m) h, mul_comm (suc m) (length bs))

-- a packed array whose bytes are there is refused for unused bits only
pub only_packed : (end : ℕ) (bits : Bits) (n : ℕ) (bs : List ℕ) → packed_size bits n ≤ length bs → Refuses (Exactly 18) (read_packed end bits n bs)
only_packed end bits n bs h = only_after end (limit bits) (more bits) 0 0 n bs (has_room bits n bs h)

-- a number whose bytes are there is not refused
only_number : (end w : ℕ) (bs : List ℕ) → w ≤ length bs → Refuses (Exactly 18) (read_number end w bs)
unfolding read_number
only_number end zero bs h = tt
only_number end (suc w) [] h = absurd (omega arith)
only_number end (suc w) (b ∷ bs) h = refuses_map (Exactly 18) _ (read_number end w bs) (only_number end w bs (omega arith))

-- nor a row of them
only_numbers : (end w count : ℕ) (bs : List ℕ) → Bytes bs → w * count ≤ length bs → Refuses (Exactly 18) (read_numbers end w count bs)
unfolding read_numbers
only_numbers end w zero bs y h = tt
only_numbers end w (suc count) bs y h =
    refuses_bind (IsNumber w bs) (Exactly 18) (read_number end w bs) _ (number_as_written end w bs y) (only_number end w bs (omega (arith, mul-suc w count)))
    (λ n left g.
    refuses_map (Exactly 18) _ (read_numbers end w count left) (only_numbers end w count left (below_after 256 (number_bytes w n) left (rw g.0 at y))
    (omega (arith, mul-suc w count, ap length g.0, length-append (number_bytes w n) left, number_length w n))))

-- what a packed array takes of the bytes
packed_takes : (bits : Bits) (n : ℕ) (bs vs left : List ℕ) → ArePacked bits n bs vs left → length bs ≡ packed_size bits n + length left
packed_takes bits n bs vs left h =
    ap length h.written ∙ length-append (packed bits vs) left ∙ ap (λ (z : ℕ). z + length left) (packed_length bits n vs h.count)

-- ---- the blocks

-- the arrays of one block
only_block : (end : ℕ) (form : Form) (n : ℕ) (bs : List ℕ) → Bytes bs → block_size form n ≤ length bs → Refuses (Exactly 18) (read_block end form n bs)
unfolding read_block block_size
only_block end form n bs y h =
    let bits : Bits = form.type_bits in
    let w : ℕ = form.length_width in
    let k : ℕ = flag_count form n in
    refuses_bind (ArePacked bits n bs) (Exactly 18) (read_packed end bits n bs) _ (packed_as_written end bits n bs y)
    (only_packed end bits n bs (omega arith)) (λ types left₁ h₁.
    let y₁ : Bytes left₁ = below_after 256 (packed bits types) left₁ (rw h₁.written at y) in
    let n₁ : length bs ≡ packed_size bits n + length left₁ = packed_takes bits n bs types left₁ h₁ in
    refuses_bind (AreNumbers w n left₁) (Exactly 18) (read_numbers end w n left₁) _ (numbers_as_written end w n left₁ y₁)
    (only_numbers end w n left₁ y₁ (omega arith)) (λ lengths left₂ h₂.
    let n₂ : length left₁ ≡ w * n + length left₂
    = ap length h₂.0 ∙ length-append (numbers_bytes w lengths) left₂ ∙ ap (λ (z : ℕ). z + length left₂) (numbers_length w lengths ∙ ap (◌*◌ w) h₂.1) in
    refuses_map (Exactly 18) _ (read_packed end one k left₂) (only_packed end one k left₂ (omega arith))))

-- of all blocks
only_blocks : (end : ℕ) (form : Form) (ns bs : List ℕ) → Bytes bs → sum (map (block_size form) ns) ≤ length bs
    → Refuses (Exactly 18) (read_blocks end form ns bs)
unfolding read_blocks sum
only_blocks end form [] bs y h = tt
only_blocks end form (n ∷ ns) bs y h =
    refuses_bind (AreBlock form n bs) (Exactly 18) (read_block end form n bs) _ (block_as_written end form n bs y)
    (only_block end form n bs y (omega arith)) (λ c left g.
    let taken : length bs ≡ block_size form n + length left
    = ap length g.written ∙ length-append (block_bytes form c) left ∙ ap (λ (z : ℕ). z + length left) (block_length form n c g.fits) in
    refuses_map (Exactly 18) _ (read_blocks end form ns left)
    (only_blocks end form ns left (below_after 256 (block_bytes form c) left (rw g.written at y)) (omega arith)))

-- all arrays of a file with blocks
only_blocked : (K end : ℕ) (f : Fixed) (bs : List ℕ) → Bytes bs → blocked_size K f ≤ length bs → Refuses (Exactly 18) (read_blocked K end f bs)
unfolding read_blocked blocked_size
only_blocked K end f bs y h =
    let n : ℕ = block_count K f in
    refuses_bind (AreNumbers 8 n bs) (Exactly 18) (read_numbers end 8 n bs) _ (numbers_as_written end 8 n bs y) (only_numbers end 8 n bs y (omega arith))
    (λ offsets left g.
    refuses_map (Exactly 18) _ (read_blocks end (form_of f) (block_sizes K f) left)
    (only_blocks end (form_of f) (block_sizes K f) left (below_after 256 (numbers_bytes 8 offsets) left (rw g.0 at y))
    (omega (arith, ap length g.0, length-append (numbers_bytes 8 offsets) left, numbers_length 8 offsets, g.1))))

-- where the arrays fit, reading them is refused for unused bits only
pub seven_is_unused_bits : (K end : ℕ) (f : Fixed) (bs : List ℕ) → Bytes bs → arrays_size K f ≤ length bs → Refuses (Exactly 18) (read_arrays K end f bs)
unfolding read_arrays arrays_size
seven_is_unused_bits K end f bs y h = go (unblocked f.mode) h
  where
    k : ℕ
    k = flag_count (form_of f) f.variants

    go : (t : Bool) → pick t (packed_size one k) (blocked_size K f) ≤ length bs
        → Refuses (Exactly 18) (pick t (map_out (unblocked_arrays f) (read_packed end one k bs)) (read_blocked K end f bs))
    go true h = refuses_map (Exactly 18) _ (read_packed end one k bs) (only_packed end one k bs h)
    go false h = only_blocked K end f bs y h
