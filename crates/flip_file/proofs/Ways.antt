-- What each return of the code says, from the tests that led to it.
-- Assumes nothing.
use mathlib.Core.Path.{◌≡◌, refl, ◌∙◌, sym}
use Prim.Native.Nat.{ℕ, zero, suc, ◌+◌, ◌-◌, ◌*◌, ◌/◌, ◌%◌, ◌≤◌, ◌<◌}
use native.Mathlib.Nat.{mod-lt}
use native.Mathlib.Omega.{arith}
use mathlib.Core.Bool.{Bool, true, false}
use mathlib.Core.List.{List}
use lib.ListN.{length, get_or, set}
use lib.Seq.{set_out}
use lib.Dec.{ltb, leb}
use mir.Syntax.{w8}
use mir.Val.{Fits}
use borrow.Author.Tests.{le-leb, lt-leb}
use Rattle.format.specs.declared.FileVariant.{FileVariant}
use Rattle.format.specs.declared.BlockVariant.{BlockVariant}
use Rattle.format.specs.Base.{pick}
use Rattle.format.specs.declared.Fields.{Fields}
use Rattle.format.specs.Limits.{variants_to_a_block}
use Rattle.format.specs.Category.{just_one}
use Rattle.format.specs.Packed.{Bits, four, eight, limit, more}
use Rattle.format.specs.Body.{kind_of, type_leans, flip_kind, flip_type}
use Rattle.format.specs.Variant.{in_block}
use Rattle.format.specs.Layout.{Fixed, form_of}
use Rattle.format.specs.Header.{type_place}
use Rattle.format.proofs.Rules.{split}
use Rattle.format.proofs.PackedLaws.{limit_positive}
use Rattle.format.proofs.FlipTypeLaws.{flip_type_small}
use Rattle.head_index.specs.VariantsAt.{type_at}
use Rattle.head_blocks.specs.declared.Blocks.{Blocks}
use Rattle.head_blocks.specs.Parts.{fixed, blocks_of}
use Rattle.head_columns.proofs.Arrangement.{bits_are}
use Rattle.flip_file.specs.Passes.{digit_put, type_put, touched, type_flipped}

-- ---- whether a record fits

pub fits_in : (start size len : ℕ) → start ≤ len → leb size (len - start) ≡ leb (start + size) len
fits_in start size len h =
    split size (len - start)
    (λ k. le-leb size (len - start) k ∙ sym (le-leb (start + size) len (omega arith)))
    (λ k. lt-leb size (len - start) k ∙ sym (lt-leb (start + size) len (omega arith)))

pub fits_out : (start size len : ℕ) → len < start → false ≡ leb (start + size) len
fits_out start size len h = sym (lt-leb (start + size) len (omega arith))

-- ---- the flipped type

module _ (lent own : Bool) (kind r : ℕ) where
  pub of_kind_2 : kind ≡ 2 → r ≡ pick (just_one lent own) 3 2 → r ≡ flip_kind lent own kind
  of_kind_2 k e = rw k e

  pub of_kind_3 : kind ≡ 3 → r ≡ pick (just_one lent own) 2 3 → r ≡ flip_kind lent own kind
  of_kind_3 k e = rw k e

pub other_kind : (lent own : Bool) (kind : ℕ) → (kind ≡ 2 → ⊥) → (kind ≡ 3 → ⊥) → (kind ≡ 4 → ⊥) → (kind ≡ 6 → ⊥) → kind ≡ flip_kind lent own kind
other_kind lent own zero a b c d = refl
other_kind lent own (suc zero) a b c d = refl
other_kind lent own (suc (suc zero)) a b c d = absurd (a refl)
other_kind lent own (suc (suc (suc zero))) a b c d = absurd (b refl)
other_kind lent own (suc (suc (suc (suc zero)))) a b c d = absurd (c refl)
other_kind lent own (suc (suc (suc (suc (suc zero))))) a b c d = refl
other_kind lent own (suc (suc (suc (suc (suc (suc zero)))))) a b c d = absurd (d refl)
other_kind lent own (suc (suc (suc (suc (suc (suc (suc zero))))))) a b c d = refl
other_kind lent own (suc (suc (suc (suc (suc (suc (suc (suc kind)))))))) a b c d = refl

-- its low three bits are the flipped kind
module _ (lent own : Bool) (type kind new : ℕ) (e : kind ≡ kind_of type) (d : new ≡ flip_kind lent own kind) where
  pub type_is : type / 8 * 8 + new ≡ flip_type lent own type
  type_is = rw (d, e) refl

  pub type_fits : Fits w8 type → Fits w8 (type / 8 * 8 + new)
  type_fits k = omega (arith, type_is, flip_type_small lent own type 32 (omega arith))

-- it has room where the type had
pub flipped_below : (half : Bool) (lent own : Bool) (type : ℕ) → type < limit (pick half four eight) → flip_type lent own type < limit (pick half four eight)
flipped_below true lent own type l = flip_type_small lent own type 2 l
flipped_below false lent own type l = flip_type_small lent own type 32 l

pub flipped_small : (f : Fields) (lent own : Bool) (type x : ℕ) → type < limit (form_of (fixed f)).type_bits → x ≡ flip_type lent own type
    → x < limit (form_of (fixed f)).type_bits
flipped_small f lent own type x l e = rw e (flipped_below (ltb (f.form % 16) 4) lent own type l)

-- a type that was read has room
pub read_small : (f : Fields) (bs : List ℕ) (v : FileVariant) (type : ℕ) → type ≡ type_at variants_to_a_block (fixed f) bs v
    → type < limit (form_of (fixed f)).type_bits
unfolding type_at
read_small f bs v type e = rw e (mod-lt _ (limit_positive (form_of (fixed f)).type_bits))

-- ---- one type in its byte

abbrev in_byte : Bits → BlockVariant → ℕ → ℕ → ℕ
in_byte bits i x b = digit_put (limit bits) (i.0 % suc (more bits)) x b

module _ (half : Bool) (x : ℕ) (t : half ≡ true) (l : x < limit (pick half four eight)) where
  small : x < 16
  small = simp t at l

  pub low_fits : (byte : ℕ) → Fits w8 byte → Fits w8 (byte / 16 * 16 + x)
  low_fits byte k = omega (arith, small)

  pub shifted_fits : Fits w8 (x * 16)
  shifted_fits = omega (arith, small)

  pub high_fits : (byte : ℕ) → Fits w8 (x * 16 + byte % 16)
  high_fits byte = omega (arith, small)

module _ (byte : ℕ) (half : Bool) (i : BlockVariant) (x : ℕ) where
  pub with_even : half ≡ true → i.0 % 2 ≡ 0 → byte / 16 * 16 + x ≡ in_byte (pick half four eight) i x byte
  with_even t e = rw (t, e) refl

  pub with_odd : half ≡ true → (i.0 % 2 ≡ 0 → ⊥) → Fits w8 byte → x * 16 + byte % 16 ≡ in_byte (pick half four eight) i x byte
  with_odd t e k = let z : i.0 % 2 ≡ 1 = omega arith in rw (t, z) (omega arith)

  pub with_whole : half ≡ false → Fits w8 byte → x ≡ in_byte (pick half four eight) i x byte
  with_whole t k = let z : i.0 % 1 ≡ 0 = omega arith in rw (t, z) (omega arith)

-- ---- one type in the file

module _ (f : Fields) (b : Blocks) (d : b ≡ blocks_of (fixed f)) (x : ℕ) where
  -- there is room for it
  pub room : x < limit (form_of (fixed f)).type_bits → x < limit (pick b.half four eight)
  room l = rw (bits_are b (fixed f) d) l

  module _ (bs : List ℕ) (v : FileVariant) (place : ℕ) (p : (g : Fixed) → b ≡ blocks_of g → place ≡ type_place variants_to_a_block g v) where
    pub put_inside : (i : BlockVariant) → i ≡ in_block variants_to_a_block v → (y : ℕ) → y ≡ in_byte (pick b.half four eight) i x (get_or bs place 0)
        → set bs place y ≡ type_put variants_to_a_block (fixed f) v x bs
    unfolding type_put
    put_inside i q y e = rw (e, q, bits_are b (fixed f) d, p (fixed f) d) refl

    pub put_outside : length bs ≤ place → bs ≡ type_put variants_to_a_block (fixed f) v x bs
    unfolding type_put
    put_outside l = sym (set_out bs (type_place variants_to_a_block (fixed f) v) _ (rw (p (fixed f) d) at l))

-- ---- written where it is touched

-- of a record that is not in the set itself
module _ (leaning lent own : Bool) (type : ℕ) (o : own ≡ false) (e : leaning ≡ type_leans type) where
  pub touched_by_anchor : leaning ≡ true → lent ≡ touched lent own type
  touched_by_anchor t = rw (o, ← e, t) refl

  pub touched_by_none : leaning ≡ false → false ≡ touched lent own type
  touched_by_none t = rw (o, ← e, t) refl

module _ (f : Fields) (v : FileVariant) (lent own : Bool) (type : ℕ) (bs : List ℕ) (t : Bool)
    (e : t ≡ touched lent own type) where
  pub type_written : t ≡ true → (x : ℕ) (later : List ℕ) → x ≡ flip_type lent own type → later ≡ type_put variants_to_a_block (fixed f) v x bs
      → later ≡ type_flipped variants_to_a_block (fixed f) v lent own type bs
  unfolding type_flipped
  type_written w x later q r = rw (r, q, ← e, w) refl

  pub type_left : t ≡ false → bs ≡ type_flipped variants_to_a_block (fixed f) v lent own type bs
  unfolding type_flipped
  type_left w = rw (← e, w) refl

pub ruleset fits_laws = (fits_in, fits_out)

pub ruleset of_kind_laws = (of_kind_2, of_kind_3, other_kind)

pub ruleset of_type_laws = (type_is, type_fits)

pub ruleset touched_laws = (touched_by_anchor, touched_by_none)

pub ruleset with_laws = (low_fits, shifted_fits, high_fits, with_even, with_odd, with_whole)

pub ruleset put_laws = (room, put_inside, put_outside)

pub ruleset type_laws = (flipped_small, type_written, type_left)
