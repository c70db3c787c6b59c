-- A variant of an accepted file with blocks: where its record starts and which variant it leans on, by what code reads.
-- Assumes nothing.
use mathlib.Core.Path.{◌≡◌, refl, sym, ap, ◌∙◌}
use Prim.Native.Nat.{ℕ, zero, suc, ◌+◌, ◌-◌, ◌*◌, ◌/◌, ◌≤◌, ◌<◌}
use native.Mathlib.Nat.{div-one, mul-le-mul_left}
use mathlib.Core.Bool.{Bool, true, false}
use mathlib.Core.List.{List}
use lib.ListN.{length, drop, get_or}
use lib.Dec.{lit<}
use mir.Syntax.{w64}
use mir.Val.{Fits}
use native.Mathlib.Omega.{arith}
use Rattle.format.specs.declared.FileVariant.{FileVariant}
use Rattle.format.specs.declared.BlockVariant.{BlockVariant}
use Rattle.format.specs.declared.Fields.{Fields}
use Rattle.format.specs.Base.{pick}
use Rattle.format.specs.Packed.{four, eight, packed_size}
use Rattle.format.specs.Limits.{most_variants}
use Rattle.format.specs.Body.{type_leans}
use Rattle.format.specs.Variant.{block_of, in_block, in_file, last_standing, nearest, anchor}
use Rattle.format.specs.Layout.{unblocked, sum, Layout, fixed_of, record_start}
use Rattle.format.proofs.Rules.{by_test, never_both}
use Rattle.head_index.specs.NumbersAt.{number_at, numbers_at, digits_at}
use Rattle.head_index.specs.VariantsAt.{lengths_place, offset_at, start_at, anchor_at}
use Rattle.head_index.proofs.StoredLaws.{stored_header}
use Rattle.head_index.proofs.StartLaws.{unblocked_type, stored_start}
use Rattle.head_index.proofs.AnchorByIndex.{stored_anchor}
use Rattle.head_blocks.specs.declared.Blocks.{Blocks}
use Rattle.head_blocks.specs.Parts.{fixed, blocks_of, BlocksSmall, count_in, BlocksFit}
use Rattle.head_blocks.proofs.Places.{blocks_before_fit, block_place_fits}
use Rattle.head_columns.proofs.Arrangement.{block_few, offset_inside, types_inside, lengths_inside, place_is}
use Rattle.head_columns.proofs.Arrangement.{bits_are, width_is, lengths_place_is}
use Rattle.head_check.proofs.BlockedLaws.{blocks_fit}
use Rattle.head_records.proofs.AcceptedLaws.{fields_are}
use Rattle.head_places.specs.Located.{HasVariant, HasLeaner, Starts, Anchored}
use Rattle.head_places.proofs.AcceptedLaws.{variants_few, below_in, record_ends}

-- fewer types take no more bytes
fewer_types : (i n : ℕ) (half : Bool) → i ≤ n → packed_size (pick half four eight) i ≤ packed_size (pick half four eight) n
fewer_types i n true h = omega arith
fewer_types i n false h = rw (div-one (i + 0), div-one (n + 0)) (omega arith)

-- the nearest is among those before
nearest_before : (types : List ℕ) (count : ℕ) → (last_standing types count).0 ≤ count
unfolding last_standing
nearest_before types zero = omega arith
nearest_before types (suc count) =
    by_test (λ (x : BlockVariant). x.0 ≤ suc count) (type_leans (get_or types count 0)) (λ t. omega (arith, nearest_before types count)) (λ t. omega arith)

pub nearest_small : (types : List ℕ) (v : FileVariant) {i x : BlockVariant} → i ≡ in_block 65536 v → x ≡ nearest types i → x.0 < 65536
nearest_small types v {i} q e = omega (arith, ap (λ (z : BlockVariant). z.0) e, nearest_before types i.0, ap (λ (z : BlockVariant). z.0) q)

-- a leaning variant is of a file with blocks
pub leaner_blocked : {index held : List ℕ} {f : Fields} {v : FileVariant} → HasLeaner index held f v → unblocked f.mode ≡ false
leaner_blocked {f = f} {v} h = go (unblocked f.mode) refl
  where
    go : (t : Bool) → unblocked f.mode ≡ t → t ≡ false
    go true q =
        let l : Layout = h.has.has.layout in
        let mode : unblocked l.mode ≡ true = ap (λ (x : Fields). unblocked x.mode) (sym h.has.has.fields_are) ∙ q in
        never_both h.leaner (ap type_leans (unblocked_type 65536 v l h.has.has.stored.obeys mode (below_in h.has.has h.has.below)))
    go false q = refl

-- a variant's number, in the file and in its block
pub variant_most : {index held : List ℕ} {f : Fields} {v : FileVariant} → HasVariant index held f v → v.0 < most_variants
variant_most h = omega (arith, h.below, variants_few h.has)

pub number_small : (v : FileVariant) {i : BlockVariant} → i ≡ in_block 65536 v → i.0 ≤ 65536
number_small v q = rw q (omega arith)

module _ {index held : List ℕ} {f : Fields} {v : FileVariant} (h : HasVariant index held f v) (blocked : unblocked f.mode ≡ false) {b : Blocks}
    (d : b ≡ blocks_of (fixed f)) (small : BlocksSmall b) where
  abbrev l : Layout
  l = h.has.layout

  same_fields : fixed f ≡ fixed_of l
  same_fields = fields_are h.has.stored h.has.fields_are

  is_blocked : unblocked l.mode ≡ false
  is_blocked = ap (λ (x : Fields). unblocked x.mode) (sym h.has.fields_are) ∙ blocked

  blocks_are : b ≡ blocks_of (fixed_of l)
  blocks_are = d ∙ ap blocks_of same_fields

  -- the blocks are in the index
  fit : BlocksFit index f.variants b
  fit =
      blocks_fit (fixed f) blocked (omega (arith, h.below)) (variants_few h.has) index b d small
      (rw same_fields (stored_header 65536 index held l h.has.stored (lit< tt)))

  module _ {block : ℕ} (p : block ≡ block_of 65536 v) where
    there : block < (f.variants + 65535) / 65536
    there = omega (arith, h.below)

    -- its block's offset is in the index
    pub offset_there : 12 + 8 * block + 8 ≤ length index
    offset_there = offset_inside fit there

    module _ {i : BlockVariant} (q : i ≡ in_block 65536 v) where
      number : i.0 < count_in f.variants block
      number = rw (q, p) (omega (arith, h.below))

      -- ---- where its record starts

      module _ {place : ℕ} (r : place ≡ lengths_place 65536 (fixed f) (block_of 65536 v)) where
        -- the lengths before its own are in the index
        pub lengths_there : place + b.width * i.0 ≤ length index
        lengths_there =
            let n : ℕ = count_in f.variants block in
            let s : place ≡ b.at + block * b.full + packed_size (pick b.half four eight) n
            = r ∙ ap (lengths_place 65536 (fixed f)) (sym p) ∙ sym (lengths_place_is f.variants b (fixed f) refl d block) in
            let k : b.width * i.0 ≤ b.width * n = mul-le-mul_left b.width (omega (arith, number)) in
            omega (arith, s, lengths_inside fit there {n = n} refl refl)

        module _ {offset before : ℕ} (o : offset ≡ number_at 8 (drop (12 + 8 * block) index))
            (w : before ≡ sum (numbers_at b.width i.0 (drop place index))) where
          start_is : offset + before ≡ record_start 65536 l v
          unfolding start_at offset_at
          start_is =
              let t : start_at 65536 (fixed_of l) index v ≡ record_start 65536 l v
              = stored_start 65536 index held l (lit< tt) h.has.stored is_blocked v (below_in h.has h.below) in
              rw (o, w, r, same_fields, width_is b (fixed_of l) blocks_are, p, q) t

          pub starts : Starts index held f v (offset + before)
          starts = record { has = h.has; is = start_is }

          pub start_fits : Fits w64 (length held) → Fits w64 (offset + before)
          start_fits m = omega (arith, start_is, record_ends h.has h.below)

      -- ---- its anchor

      -- the types before it are in the index
      pub types_there : b.at + block * b.full + packed_size (pick b.half four eight) i.0 ≤ length index
      types_there =
          omega (
            arith,
            types_inside fit there {n = count_in f.variants block} refl,
            fewer_types i.0 (count_in f.variants block) b.half (omega (arith, number)),
          )

      pub anchor_found : {x : BlockVariant} {r : FileVariant}
          → x ≡ nearest (digits_at (pick b.half four eight) (drop (b.at + block * b.full) index) 0 i.0) i
          → r ≡ in_file 65536 block x → Anchored index held f v r
      unfolding anchor_at
      anchor_found {x} {r} k z =
          let t : anchor_at 65536 (fixed_of l) index v ≡ anchor 65536 l.types v
          = stored_anchor 65536 index held l (lit< tt) h.has.stored is_blocked v (below_in h.has h.below) in
          let few : x.0 ≤ i.0 = rw k (nearest_before _ i.0) in
          let same : i.0 ≡ v.0 - block * 65536 = rw (q, p) (omega arith) in
          record {
            has = h.has;
            below = omega (arith, ap (λ (y : FileVariant). y.0) z, h.below);
            is = z ∙ rw (k, place_is b (fixed_of l) blocks_are block, bits_are b (fixed_of l) blocks_are, p, q) t;
          }

pub ruleset block_start_laws = (variants_few, number_small, offset_there, lengths_there, start_fits, starts)

pub ruleset anchor_laws =
    (variants_few, variant_most, leaner_blocked, block_few, blocks_before_fit, block_place_fits, types_there, nearest_small, anchor_found)
