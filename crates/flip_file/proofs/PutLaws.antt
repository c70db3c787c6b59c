-- One type put in place: in a packed array, in the arrays of the blocks, in a file.
-- Assumes nothing.
use mathlib.Core.Path.{◌≡◌, refl, sym, ap, ap₂, ◌∙◌}
use Prim.Native.Nat.{ℕ, zero, suc, ◌+◌, ◌-◌, ◌*◌, ◌/◌, ◌%◌, ◌≤◌, ◌<◌, min, suc-le-suc}
use native.Mathlib.Nat.{mod-eq_of_lt, div-eq_of_lt, add-div_left, add-mod_left, zero-lt-suc, zero-add, suc-add, zero-mul, suc-mul}
use native.Mathlib.Nat.{min-eq_left, min-le_right, le-min}
use native.Mathlib.Numerals.{add-one}
use native.Mathlib.Omega.{arith}
use mathlib.Core.List.{List, [], ◌∷◌, ◌++◌, append_assoc}
use lib.ListN.{length, get_or, take, drop, set, get_or-append}
use lib.Seq.{get_or-append-add, set-append_left, take-set-lt, take-set-le, drop-set-lt, drop-set-add}
use lib.Arith.{digits_div, digits_mod}
use Rattle.format.specs.declared.FileVariant.{FileVariant}
use Rattle.format.specs.Base.{Below}
use Rattle.format.specs.Numbers.{numbers_bytes}
use Rattle.format.specs.Packed.{Bits, one, limit, more, byte_of, packed_after, packed}
use Rattle.format.specs.Layout.{Fixed, fixed_bytes, Form, form_of, Columns, take_columns, drop_columns, Arrays, in_parts, ColumnsFit}
use Rattle.format.specs.Layout.{block_count, cut, block_sizes, block_bytes, blocks_bytes, block_size}
use Rattle.format.specs.Header.{block_place, type_place}
use Rattle.format.proofs.Rules.{split}
use Rattle.format.proofs.NumbersLaws.{numbers_length}
use Rattle.format.proofs.PackedLaws.{packed_length, byte_there}
use Rattle.format.proofs.ColumnsLaws.{columns_taken, columns_dropped}
use Rattle.format.proofs.BlocksLaws.{blocks_hold_all, block_length}
use Rattle.format.proofs.ArraysLaws.{fixed_length}
use Rattle.head_index.specs.Known.{Known}
use Rattle.head_index.proofs.PlaceLaws.{in_parts_blocked, TwoNumbers, two_numbers}
use Rattle.flip_file.specs.Passes.{digit_put, put_at, type_put}

-- ---- in a packed array

byte_put : (b room i x : ℕ) (vs : List ℕ) → Below b vs → i < room → i < length vs → digit_put b i x (byte_of b room vs) ≡ byte_of b room (set vs i x)
unfolding byte_of
byte_put b room i x [] h l k = absurd (omega arith)
byte_put b zero i x (v ∷ vs) h l k = absurd (omega arith)
byte_put b (suc room) zero x (v ∷ vs) h l k = ap (λ (y : ℕ). y * b + x) (digits_div (byte_of b room vs) h.0)
byte_put b (suc room) (suc i) x (v ∷ vs) h l k =
    ap₂ (λ (y z : ℕ). digit_put b i x y * b + z) (digits_div (byte_of b room vs) h.0) (digits_mod (byte_of b room vs) h.0)
    ∙ ap (λ (y : ℕ). y * b + v) (byte_put b room i x vs h.1 (omega arith) (omega arith))

-- a number of this byte leaves the bytes after it, and one after it this byte
after_skip : (b m room i x : ℕ) (vs : List ℕ) → i < room → packed_after b m room (set vs i x) ≡ packed_after b m room vs
unfolding packed_after
after_skip b m room i x [] l = refl
after_skip b m zero i x (v ∷ vs) l = absurd (omega arith)
after_skip b m (suc room) zero x (v ∷ vs) l = refl
after_skip b m (suc room) (suc i) x (v ∷ vs) l = after_skip b m room i x vs (omega arith)

byte_past : (b room i x : ℕ) (vs : List ℕ) → room ≤ i → byte_of b room (set vs i x) ≡ byte_of b room vs
unfolding byte_of
byte_past b room i x [] l = refl
byte_past b zero zero x (v ∷ vs) l = refl
byte_past b zero (suc i) x (v ∷ vs) l = refl
byte_past b (suc room) zero x (v ∷ vs) l = absurd (omega arith)
byte_past b (suc room) (suc i) x (v ∷ vs) l = ap (λ (y : ℕ). y * b + v) (byte_past b room i x vs (omega arith))

after_put : (b m room i x : ℕ) (vs : List ℕ) → Below b vs → room + i < length vs
    → put_at b (i % suc m) (i / suc m) x (packed_after b m room vs) ≡ packed_after b m room (set vs (room + i) x)
unfolding packed_after byte_of
after_put b m room i x [] h l = absurd (omega arith)
after_put b m (suc room) i x (v ∷ vs) h l = rw suc-add (after_put b m room i x vs h.1 (omega (arith, suc-add room i)))
after_put b m zero i x (v ∷ vs) h l =
    split i m
    (λ k. rw (div-eq_of_lt (suc-le-suc k), mod-eq_of_lt (suc-le-suc k), zero-add i) (here i k (rw zero-add at l)))
    (λ k.
    let e : i ≡ suc m + (i - suc m) = omega arith in
    rw e (later (i - suc m) (after_put b m m (i - suc m) x vs h.1 (omega arith))))
  where
    here : (j : ℕ) → j ≤ m → j < length (v ∷ vs) → digit_put b j x (byte_of b m vs * b + v) ∷ packed_after b m m vs ≡ packed_after b m zero (set (v ∷ vs) j x)
    here zero k n = ap (λ (y : ℕ). y ∷ packed_after b m m vs) (byte_put b (suc m) zero x (v ∷ vs) h (omega arith) n)
    here (suc j) k n = ap₂ ◌∷◌ (byte_put b (suc m) (suc j) x (v ∷ vs) h (omega arith) n) (sym (after_skip b m m j x vs (omega arith)))

    later : (j : ℕ) → put_at b (j % suc m) (j / suc m) x (packed_after b m m vs) ≡ packed_after b m m (set vs (m + j) x)
        → put_at b ((suc m + j) % suc m) ((suc m + j) / suc m) x (packed_after b m zero (v ∷ vs)) ≡ packed_after b m zero (set (v ∷ vs) (0 + (suc m + j)) x)
    later j q =
        rw (add-div_left j (zero-lt-suc m), add-mod_left (suc m) j, zero-add (suc m + j), suc-add m j, add-one)
        (ap₂ (λ (y : ℕ) (r : List ℕ). (y * b + v) ∷ r) (sym (byte_past b m (m + j) x vs (omega arith))) q)

packed_put : (bits : Bits) (i x : ℕ) (vs : List ℕ) → Below (limit bits) vs → i < length vs
    → put_at (limit bits) (i % suc (more bits)) (i / suc (more bits)) x (packed bits vs) ≡ packed bits (set vs i x)
packed_put bits i x vs h l =
    after_put (limit bits) (more bits) 0 i x vs h (rw zero-add l) ∙ ap (λ (j : ℕ). packed bits (set vs j x)) (zero-add i)

-- ---- in a part of a list

set_after : (xs ys : List ℕ) (n y : ℕ) → set (xs ++ ys) (length xs + n) y ≡ xs ++ set ys n y
set_after [] ys n y = ap (λ (k : ℕ). set ys k y) (zero-add n)
set_after (x ∷ xs) ys n y = ap (λ (k : ℕ). set (x ∷ (xs ++ ys)) k y) (suc-add (length xs) n) ∙ ap (◌∷◌ x) (set_after xs ys n y)

put_after : (b i p x : ℕ) (xs ys : List ℕ) → put_at b i (length xs + p) x (xs ++ ys) ≡ xs ++ put_at b i p x ys
put_after b i p x xs ys =
    ap (λ (z : ℕ). set (xs ++ ys) (length xs + p) (digit_put b i x z)) (get_or-append-add xs ys p 0) ∙ set_after xs ys p (digit_put b i x (get_or ys p 0))

put_front : (b i p x : ℕ) (xs ys : List ℕ) → p < length xs → put_at b i p x (xs ++ ys) ≡ put_at b i p x xs ++ ys
put_front b i p x xs ys l =
    ap (λ (z : ℕ). set (xs ++ ys) p (digit_put b i x z)) (get_or-append xs ys 0 p l) ∙ set-append_left xs ys p (digit_put b i x (get_or xs p 0)) l

-- ---- in the arrays of the blocks: type i of block j

-- the columns with other types
abbrev pub retyped : Columns → List ℕ → Columns
retyped c types = record { types = types; lengths = c.lengths; flags = c.flags }

blocks_put : (form : Form) (K j i x blocks M : ℕ) (c : Columns) (left : List ℕ) → i < K → j * K + i < M → M ≤ blocks * K → ColumnsFit form M c
    → put_at (limit form.type_bits) (i % suc (more form.type_bits)) (j * block_size form K + i / suc (more form.type_bits)) x
    (blocks_bytes form (cut K blocks M) c ++ left)
    ≡ blocks_bytes form (cut K blocks M) (retyped c (set c.types (j * K + i) x)) ++ left
unfolding blocks_bytes cut block_bytes
blocks_put form K j i x zero M c left s a b h = absurd (omega (arith, zero-mul K))
blocks_put form K zero i x (suc blocks) M c left s a b h =
    let bits : Bits = form.type_bits in
    let n : ℕ = min K M in
    let q : i < n = le-min s (omega (arith, zero-mul K)) in
    let m : n + (M - n) ≡ M = omega (arith, min-le_right K M) in
    let fits : ColumnsFit form n (take_columns n c) = columns_taken form n (M - n) c (rw m h) in
    let first : List ℕ = take n c.types in
    let rest : List ℕ = numbers_bytes form.length_width (take n c.lengths) ++ packed one (take n c.flags) in
    let others : List ℕ → List ℕ = λ types. blocks_bytes form (cut K blocks (M - K)) (retyped (drop_columns n c) types) in
    let there : i / suc (more bits) < length (packed bits first) = rw (packed_length bits n first fits.types_count) (byte_there bits i n q) in
    let zero_block : zero * block_size form K + i / suc (more bits) ≡ i / suc (more bits) = omega (arith, zero-mul (block_size form K)) in
    let zero_start : zero * K + i ≡ i = omega (arith, zero-mul K) in
    let behind : List ℕ = rest ++ (others (drop n c.types) ++ left) in
    let parts : ((packed bits first ++ rest) ++ others (drop n c.types)) ++ left ≡ packed bits first ++ behind = simp append_assoc in
    rw (zero_block, zero_start)
    (ap (put_at (limit bits) (i % suc (more bits)) (i / suc (more bits)) x) parts
    ∙ put_front (limit bits) (i % suc (more bits)) (i / suc (more bits)) x (packed bits first) behind there
    ∙ ap (λ (z : List ℕ). z ++ behind) (packed_put bits i x first fits.types_small (rw fits.types_count q))
    ∙ ap₂ (λ (u w : List ℕ). packed bits u ++ (rest ++ (others w ++ left))) (sym (take-set-lt n c.types i x q)) (sym (drop-set-lt n c.types i x q))
    ∙ (simp append_assoc))
blocks_put form K (suc j) i x (suc blocks) M c left s a b h =
    let bits : Bits = form.type_bits in
    let m : K + (M - K) ≡ M = omega (arith, suc-mul j K) in
    let full : min K M ≡ K = min-eq_left (omega (arith, suc-mul j K)) in
    let whole : ColumnsFit form (K + (M - K)) c = rw m h in
    let block : List ℕ = block_bytes form (take_columns K c) in
    let size : length block ≡ block_size form K = block_length form K (take_columns K c) (columns_taken form K (M - K) c whole) in
    let p : ℕ = j * block_size form K + i / suc (more bits) in
    let past : suc j * block_size form K + i / suc (more bits) ≡ length block + p = omega (arith, suc-mul j (block_size form K), size) in
    let start : suc j * K + i ≡ K + (j * K + i) = omega (arith, suc-mul j K) in
    let later : put_at (limit bits) (i % suc (more bits)) p x (blocks_bytes form (cut K blocks (M - K)) (drop_columns K c) ++ left)
    ≡ blocks_bytes form (cut K blocks (M - K)) (retyped (drop_columns K c) (set (drop K c.types) (j * K + i) x)) ++ left
    = blocks_put form K j i x blocks (M - K) (drop_columns K c) left
    s (omega (arith, suc-mul j K)) (omega (arith, suc-mul blocks K)) (columns_dropped form K (M - K) c whole) in
    rw (full, past, start, append_assoc, put_after, later, take-set-le K c.types (K + (j * K + i)) x (omega arith), drop-set-add)
    (simp append_assoc)

-- ---- in a file

-- the arrays with other types
abbrev pub with_types : Arrays → List ℕ → Arrays
with_types a types = record { offsets = a.offsets; columns = retyped a.columns types }

pub type_put_is : (K : ℕ) (v : FileVariant) (x : ℕ) (f : Fixed) (a : Arrays) (records : List ℕ) → Known K f a → v.0 < f.variants
    → type_put K f v x (in_parts K f a records) ≡ in_parts K f (with_types a (set a.columns.types v.0 x)) records
unfolding type_put type_place block_place
type_put_is K v x f a records h lt =
    let form : Form = form_of f in
    let bits : Bits = form.type_bits in
    let b : ℕ = limit bits in
    let i : ℕ = v.0 % K in
    let j : ℕ = v.0 / K in
    let c : TwoNumbers K f.variants v.0 = two_numbers K f.variants v.0 h.some lt in
    let offsets : List ℕ = a.offsets in
    let types : List ℕ = a.columns.types in
    let rest : List ℕ = blocks_bytes form (block_sizes K f) a.columns ++ records in
    let p : ℕ = j * block_size form K + i / suc (more bits) in
    let place : 12 + 8 * block_count K f + j * block_size form K + i / suc (more bits) ≡ length (fixed_bytes f) + (length (numbers_bytes 8 offsets) + p)
    = omega (arith, fixed_length f, numbers_length 8 offsets, h.offsets_fit.0) in
    ap₂ (λ (q : ℕ) (z : List ℕ). put_at b (i % suc (more bits)) q x z) place (in_parts_blocked K f a records h.blocked)
    ∙ put_after b (i % suc (more bits)) (length (numbers_bytes 8 offsets) + p) x (fixed_bytes f) (numbers_bytes 8 offsets ++ rest)
    ∙ ap (◌++◌ (fixed_bytes f)) (put_after b (i % suc (more bits)) p x (numbers_bytes 8 offsets) rest
    ∙ ap (◌++◌ (numbers_bytes 8 offsets))
    (blocks_put form K j i x (block_count K f) f.variants a.columns records
    c.small (rw c.both lt) (blocks_hold_all K f h.some h.blocked) h.all_fit
    ∙ ap (λ (u : ℕ). blocks_bytes form (block_sizes K f) (retyped a.columns (set types u x)) ++ records) c.both))
    ∙ sym (in_parts_blocked K f (with_types a (set types v.0 x)) records h.blocked)
