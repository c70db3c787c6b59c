-- The edits of a body, on the bytes of a track's parts, whatever stands after them.
-- Assumes nothing.
use Rattle.std.specs.Prelude.{Option}
use Rattle.format.specs.declared.Pair.{Pair}
use mathlib.Core.Path.{◌≡◌, refl, sym, ap, ap₂, ◌∙◌}
use Prim.Native.Nat.{ℕ, ◌+◌, ◌-◌, ◌*◌, ◌/◌, ◌≤◌, zero-le}
use mathlib.Core.Bool.{Bool, true, false}
use mathlib.Core.List.{List, [], ◌∷◌, ◌++◌, map, append_assoc}
use lib.ListN.{length, length-append, length-map}
use lib.Seq.{take_at, drop_at}
use native.Mathlib.Omega.{arith}
use borrow.Author.Tests.{le-leb}
use Rattle.format.specs.Base.{pick, Below, ok}
use Rattle.format.specs.Limits.{most_samples}
use Rattle.format.specs.Category.{exchange_all, just_one}
use Rattle.format.specs.Varint.{varint_bytes, read_varint}
use Rattle.format.specs.Numbers.{numbers_bytes}
use Rattle.format.specs.Packed.{one, two, packed}
use Rattle.format.specs.Difflist.{Entry, Rising, number_width, groups, heads, size_bytes, values, steps, list_parts, list_bytes}
use Rattle.format.specs.PairCode.{PairCode, pair, image, found, as_found}
use Rattle.format.specs.Track.{off_pair, rule, bit_number, revalue}
use Rattle.format.proofs.NumbersLaws.{numbers_length}
use Rattle.format.proofs.PackedLaws.{packed_length}
use Rattle.format.proofs.VarintLaws.{varint_read_back}
use Rattle.format.proofs.EntriesLaws.{heads_count, sizes_count, values_length, values_below, rising_length}
use Rattle.format.proofs.PairLaws.{code_read_back, image_number}
use Rattle.format.proofs.FlipTypeLaws.{list_revalued}
use Rattle.flip_bytes.proofs.ChangedLaws.{values_packed, bits_packed}
use Rattle.flip_body.specs.Edits.{values_flipped, before_values, count_read, list_flipped, list_flipped_at}
use Rattle.flip_body.specs.Edits.{bits_turned, list_place, pair_flipped_as, pair_flipped}

-- values that are written out, after anything
values_law : (before vs after : List ℕ) (p L : ℕ) → length before ≡ p → length vs ≡ L → Below 4 vs
    → values_flipped p L (before ++ (packed two vs ++ after)) ≡ before ++ (packed two (exchange_all true vs) ++ after)
unfolding values_flipped
values_law before vs after p L e k h =
    let s : List ℕ = before ++ (packed two vs ++ after) in
    let q : length (packed two vs) ≡ (L + 3) / 4 = packed_length two L vs k in
    let g : p + (L + 3) / 4 ≤ length s = simp length-append (omega arith) in
    let rest : List ℕ = packed two vs ++ after in
    simp (le-leb (p + (L + 3) / 4) (length s) g, take_at before rest p e, drop_at before rest p e, values_packed L vs after k h)

-- kind 0
pub plain_law : (N : ℕ) (vs after : List ℕ) → length vs ≡ N → Below 4 vs
    → values_flipped 0 N (packed two vs ++ after) ≡ packed two (exchange_all true vs) ++ after
plain_law N vs after e h = values_law [] vs after 0 N refl e h

-- a list that is written out
pub list_law : (N : ℕ) (may : ℕ → ℕ → Bool) (es : List Entry) (after : List ℕ) → N ≤ most_samples → Rising (rule N may) 0 es
    → list_flipped N (list_bytes (number_width N) es ++ after) ≡ list_bytes (number_width N) (revalue true es) ++ after
unfolding list_flipped list_parts
list_law N may es after l g =
    let w : ℕ = number_width N in
    let L : ℕ = length es in
    let vs : List ℕ = values es in
    let behind : List ℕ = steps 0 0 es ++ after in
    let parts : List ℕ = numbers_bytes w (heads 0 es) ++ (size_bytes es ++ (packed two vs ++ behind)) in
    let before : List ℕ = varint_bytes L ++ (numbers_bytes w (heads 0 es) ++ size_bytes es) in
    let s : List ℕ = varint_bytes L ++ parts in
    let p : ℕ = length s - length parts + before_values N L in
    let fits : L ≤ N = omega (arith, rising_length (rule N may) 0 es zero-le g) in
    let reads : read_varint (length s) s ≡ ok L parts = varint_read_back (length s) L parts (omega arith) in
    let head_bytes : length (numbers_bytes w (heads 0 es)) ≡ w * groups L = numbers_length w (heads 0 es) ∙ ap (◌*◌ w) (heads_count es) in
    let e : length before ≡ p = simp length-append (omega (arith, length-append (varint_bytes L) parts, head_bytes, sizes_count es)) in
    let grouped : list_bytes w es ++ after ≡ s = simp append_assoc in
    ap (list_flipped N) grouped
    ∙ ap (count_read N s) reads
    ∙ ap (λ (t : Bool). pick t (values_flipped p L s) s) (le-leb L N fits)
    ∙ ap (values_flipped p L) (simp append_assoc)
    ∙ values_law before vs behind p L e (values_length es) (values_below (rule N may) 0 es g)
    ∙ (simp append_assoc)
    ∙ ap (λ (x : List ℕ). x ++ after) (sym (list_revalued true w es))

-- ---- kind 1

bits_length : (N : ℕ) (bits : List Bool) → length bits ≡ N → length (packed one (map bit_number bits)) ≡ (N + 7) / 8
bits_length N bits e = packed_length one N (map bit_number bits) (length-map bits bit_number ∙ e)

bits_law : (turns : Bool) (x N : ℕ) (bits : List Bool) (after : List ℕ) → length bits ≡ N
    → bits_turned turns N (x ∷ (packed one (map bit_number bits) ++ after)) ≡ x ∷ (packed one (map bit_number (map (just_one turns) bits)) ++ after)
bits_law true x N bits after e = ap (◌∷◌ x) (bits_packed N bits after e)
bits_law false x N bits after e = ap (λ (bs : List Bool). x ∷ (packed one (map bit_number bs) ++ after)) (sym (same bits))
  where
    same : (bs : List Bool) → map (just_one false) bs ≡ bs
    same [] = refl
    same (b ∷ bs) = ap (◌∷◌ b) (same bs)

-- a pair that is written out
pub pair_law : (N : ℕ) (c : PairCode) (bits : List Bool) (es : List Entry) (after : List ℕ) → N ≤ most_samples → length bits ≡ N
    → Rising (rule N (off_pair c)) 0 es
    → pair_flipped N ((pair c).code ∷ (packed one (map bit_number bits) ++ (list_bytes (number_width N) es ++ after)))
    ≡ (pair (image c)).code ∷ (packed one (map bit_number (map (just_one (pair c).turns) bits)) ++ (list_bytes (number_width N) (revalue true es) ++ after))
unfolding pair_flipped
pair_law N c bits es after l e g =
    let list : List ℕ = list_bytes (number_width N) es ++ after in
    let turned : List Bool = map (just_one (pair c).turns) bits in
    let bs : List ℕ = packed one (map bit_number turned) in
    let s : List ℕ = (pair c).code ∷ (packed one (map bit_number bits) ++ list) in
    let x : ℕ = (pair c).image in
    let k : length (x ∷ bs) ≡ list_place N = omega (arith, bits_length N turned (length-map bits (just_one (pair c).turns) ∙ e)) in
    let fits : list_place N ≤ length s = omega (arith, length-append (packed one (map bit_number bits)) list, bits_length N bits e) in
    ap (λ (t : Bool). pick t (pair_flipped_as (found (pair c).code) N s) s) (le-leb (list_place N) (length s) fits)
    ∙ ap (λ (f : Option Pair). pair_flipped_as f N s) (ap as_found (code_read_back c))
    ∙ ap (list_flipped_at (list_place N) N) (bits_law (pair c).turns x N bits list e)
    ∙ ap₂ (λ (u v : List ℕ). u ++ list_flipped N v) (take_at (x ∷ bs) list (list_place N) k) (drop_at (x ∷ bs) list (list_place N) k)
    ∙ ap₂ (λ (y : ℕ) (v : List ℕ). y ∷ (bs ++ v)) (sym (image_number c)) (list_law N (off_pair c) es after l g)
