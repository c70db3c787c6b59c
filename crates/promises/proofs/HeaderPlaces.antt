-- The places of what the header check reads: none is past the file's length, and each type stands within the header.
-- Assumes nothing.
use mathlib.Core.Path.{◌≡◌, refl, ap}
use Prim.Native.Nat.{ℕ, zero, suc, ◌-◌, ◌*◌, ◌/◌, ◌%◌, ◌≤◌, ◌<◌, min}
use native.Mathlib.Nat.{min-le_right}
use mathlib.Core.Bool.{Bool, true, false, not, ◌&&◌}
use mathlib.Core.List.{List, [], ◌∷◌}
use lib.ListN.{length, take, drop, replicate, length-append, length-drop}
use lib.Dec.{eqb}
use native.Mathlib.Omega.{arith}
use Rattle.format.specs.declared.FileVariant.{FileVariant}
use Rattle.format.specs.declared.BlockVariant.{BlockVariant}
use Rattle.format.specs.declared.Refusal.{Refusal}
use Rattle.format.specs.Numbers.{read_numbers, read_bytes}
use Rattle.format.specs.Packed.{Bits, one, two, four, eight, more, packed, packed_size, read_packed}
use Rattle.format.specs.Variant.{next_variant, in_block}
use Rattle.format.specs.Layout.{Fixed, unblocked, Form, form_of, flag_count, Arrays, block_count}
use Rattle.format.specs.Layout.{block_sizes, block_bytes, in_parts, type_allowed, TypesAllowed}
use Rattle.format.specs.Header.{read_block, read_blocks, read_blocked, read_arrays}
use Rattle.format.specs.Header.{block_place, type_place, split_bodies}
use Rattle.format.proofs.Rules.{by_test}
use Rattle.format.proofs.Refuses.{RefusalIs, is_map, is_then}
use Rattle.format.proofs.PackedLaws.{packed_length}
use Rattle.head_index.specs.Known.{Known}
use Rattle.head_index.specs.VariantsAt.{block_variants}
use Rattle.head_index.proofs.PlaceLaws.{TwoNumbers, two_numbers, column_length, block_at}
use Rattle.promises.proofs.PlaceRules.{numbers_places, bytes_places, packed_places}

-- not past the end
abbrev pub AtMost : ℕ → Refusal → Type 0
AtMost end why = why.place ≤ end

module _ (end : ℕ) where
  abbrev P : Refusal → Type 0
  P = AtMost end

  array_inside : (bits : Bits) (n : ℕ) (bs : List ℕ) → RefusalIs P (read_packed end bits n bs)
  array_inside bits n bs = packed_places P end (omega arith) bits n bs (λ k l. omega arith)

  blocks_inside : (form : Form) (ns bs : List ℕ) → RefusalIs P (read_blocks end form ns bs)
  unfolding read_blocks read_block
  blocks_inside form [] bs = tt
  blocks_inside form (n ∷ ns) bs =
      is_then P (read_block end form n bs) _
      (is_then P (read_packed end form.type_bits n bs) _ (array_inside form.type_bits n bs) (λ types left₁.
      is_then P (read_numbers end form.length_width n left₁) _ (numbers_places P end (omega arith) form.length_width n left₁) (λ lengths left₂.
      is_map P _ (read_packed end one (flag_count form n) left₂) (array_inside one (flag_count form n) left₂))))
      (λ c left. is_map P _ (read_blocks end form ns left) (blocks_inside form ns left))

  pub arrays_inside : (K : ℕ) (f : Fixed) (bs : List ℕ) → RefusalIs P (read_arrays K end f bs)
  unfolding read_arrays read_blocked
  arrays_inside K f bs =
      by_test (RefusalIs P) (unblocked f.mode)
      (λ t. is_map P _ (read_packed end one (flag_count (form_of f) f.variants) bs) (array_inside one (flag_count (form_of f) f.variants) bs))
      (λ t.
      is_then P (read_numbers end 8 (block_count K f) bs) _ (numbers_places P end (omega arith) 8 (block_count K f) bs) (λ offsets left.
      is_map P _ (read_blocks end (form_of f) (block_sizes K f) left) (blocks_inside (form_of f) (block_sizes K f) left)))

  pub bodies_inside : (ns bs : List ℕ) → RefusalIs P (split_bodies end ns bs)
  unfolding split_bodies
  bodies_inside [] [] = tt
  bodies_inside [] (b ∷ bs) = omega arith
  bodies_inside (n ∷ ns) bs =
      is_then P (read_bytes end n bs) _ (bytes_places P end (omega arith) n bs) (λ body left.
      is_map P _ (split_bodies end ns left) (bodies_inside ns left))

-- ---- where the types and the offsets stand

-- the byte of a type stands among those of its block
type_byte : (bits : Bits) (i n : ℕ) → i < n → i / suc (more bits) < packed_size bits n
type_byte one i n l = omega arith
type_byte two i n l = omega arith
type_byte four i n l = omega arith
type_byte eight i n l = omega arith

pub type_inside : (K : ℕ) (f : Fixed) (a : Arrays) (left : List ℕ) (v : FileVariant) → Known K f a → v.0 < f.variants
    → type_place K f v < length (in_parts K f a left)
unfolding type_place block_variants block_bytes
type_inside K f a left v h l =
    let bits : Bits = (form_of f).type_bits in
    let c : TwoNumbers K f.variants v.0 = two_numbers K f.variants v.0 h.some l in
    let b = block_at K (v.0 / K) f a left h c.inside in
    let n : ℕ = min K (f.variants - v.0 / K * K) in
    let types : List ℕ = take n (drop (v.0 / K * K) a.columns.types) in
    let many : length types ≡ n
    = column_length f.variants (v.0 / K * K) n a.columns.types h.all_fit.types_count (min-le_right K (f.variants - v.0 / K * K)) in
    let sized : length (packed bits types) ≡ packed_size bits n = packed_length bits n types many in
    let there : v.0 % K / suc (more bits) < packed_size bits n = type_byte bits (v.0 % K) n c.counted in
    let rest : length (drop (block_place K f (v.0 / K)) (in_parts K f a left)) ≡ _ = ap length b.1 in
    omega (arith, simp length-append at rest, length-drop (block_place K f (v.0 / K)) (in_parts K f a left))

-- a mode with no blocks has the one type, which is allowed
zero_allowed : (i : BlockVariant) → type_allowed i 0 ≡ true
zero_allowed i = go (eqb i.0 0)
  where
    go : (b : Bool) → not (b && false) ≡ true
    go true = refl
    go false = refl

pub zeros_allowed : (K : ℕ) (v : FileVariant) (n : ℕ) → TypesAllowed K v (replicate n 0)
zeros_allowed K v zero = tt
zeros_allowed K v (suc n) = (zero_allowed (in_block K v), zeros_allowed K (next_variant v) n)
