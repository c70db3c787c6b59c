-- Refusals 7, 8 and 9, and acceptance, where there are blocks: each step of the code.
-- Assumes nothing.
use Rattle.std.specs.Prelude.{Option, Some, None, Result, Ok, Err, ⊤}
use mathlib.Core.Path.{◌≡◌, refl, sym, ap, ◌∙◌}
use Prim.Native.Nat.{ℕ, ◌+◌, ◌-◌, ◌*◌, ◌/◌, ◌≤◌, ◌<◌}
use mathlib.Core.Bool.{Bool, true, false}
use mathlib.Core.List.{List, []}
use lib.ListN.{length, drop}
use lib.Dec.{ltb, lit<}
use mir.Syntax.{w64}
use mir.Val.{Fits}
use native.Mathlib.Omega.{arith}
use borrow.Author.Tests.{lt-ltb, le-ltb, ltb-true, ltb-false}
use Rattle.format.specs.declared.FileVariant.{FileVariant}
use Rattle.format.specs.declared.Fields.{Fields}
use Rattle.format.specs.declared.Refusal.{Refusal}
use Rattle.format.specs.Base.{pick, ok, refused, refusal, named, refuse_of}
use Rattle.format.specs.Variant.{file_variant, no_variant}
use Rattle.format.specs.Layout.{Fixed, Arrays, sum, block_count, block_size, header_end, first_record}
use Rattle.format.specs.Header.{type_place}
use Rattle.format.specs.Reply.{summary, header_left}
use Rattle.format.proofs.BlocksLaws.{block_count_is}
use Rattle.head_index.specs.NumbersAt.{fixed_at}
use Rattle.head_index.specs.VariantsAt.{block_variants}
use Rattle.head_index.specs.Rules.{need_unused, unused_arrays, bad_type, refuse_found, wrong_offset, starts_of, after_fixed, after_types, after_offsets}
use Rattle.head_index.specs.Known.{Passed}
use Rattle.head_index.proofs.RefusalsByIndexArrays.{passed_known}
use Rattle.head_index.proofs.RefusalsByIndexRecords.{refusal_8, refusal_9_offset, offset_wrong}
use Rattle.head_blocks.specs.declared.Blocks.{Blocks}
use Rattle.head_blocks.specs.Parts.{fixed, blocks_of, form_in, count_in, BlocksFit, Arranged, unused_out}
use Rattle.head_blocks.proofs.Places.{blocks_before_fit, block_place_fits}
use Rattle.head_columns.specs.declared.WrongOffset.{WrongOffset}
use Rattle.head_columns.specs.Looks.{FirstBad, ending, EndOfRecords}
use Rattle.head_columns.proofs.Arrangement.{place_is}
use Rattle.head_check.specs.Ready.{Held, Placed}
use Rattle.head_check.specs.Finding.{found_then, UnusedFound, TypesFound, EndsFound, found_unused}
use Rattle.head_check.proofs.Handed.{Ranges, ranges, held_variants, refused_as, names, seven, beyond_7, nine_end, accepts}
use Rattle.head_check.proofs.BlockedLaws.{blocks_fit, last_unused}

-- ---- 7

module _ {bs : List ℕ} {f : Fields} {b : Blocks} (c : Placed bs f b) where
  abbrev given_ranges : Ranges f
  given_ranges = ranges c.held.ready

  pub fit : BlocksFit bs f.variants b
  fit =
      blocks_fit (fixed f) c.blocked given_ranges.variants_least given_ranges.variants_most bs b c.b_is c.small c.held.fits

  -- the last block's number and its arrays
  pub some_variant : 1 ≤ f.variants
  some_variant = given_ranges.variants_least

  pub last_block_few : (f.variants - 1) / 65536 ≤ 256
  last_block_few = omega (arith, given_ranges.variants_most)

  pub last_block_inside : (f.variants - 1) / 65536 * 65536 < f.variants
  last_block_inside = omega (arith, given_ranges.variants_least)

  module _ {n : ℕ} (d : n ≡ count_in f.variants ((f.variants - 1) / 65536)) where
    pub last_fits : b.at + (f.variants - 1) / 65536 * b.full + block_size (form_in b) n ≤ length bs
    last_fits = rw d (fit.each ((f.variants - 1) / 65536) last_block_inside)

    -- what a look at the last block says of all
    module _ (r : Option ℕ) (u : unused_out r ≡ need_unused (form_in b) (b.at + (f.variants - 1) / 65536 * b.full) n bs (ok tt [])) where
      all_unused : unused_out r ≡ unused_arrays 65536 (fixed f) bs
      unfolding block_variants
      all_unused =
          rw (d, c.b_is, place_is (blocks_of (fixed f)) (fixed f) refl ((f.variants - 1) / 65536)) at u
          ∙ sym (last_unused (fixed f) bs c.blocked given_ranges.variants_least)

      pub clears : r ≡ None → UnusedFound bs f (Ok tt)
      clears q = record { unused = r; is = all_unused; told = rw q refl }

      pub unclear : {place : ℕ} {why : Refusal} → r ≡ Some place → why ≡ named (no_variant f.variants) (refusal 7 place)
          → UnusedFound bs f (Err why)
      unclear q z = record { unused = r; is = all_unused; told = rw (q, z) refl }

pub ruleset seven_laws = (some_variant, last_block_few, last_block_inside, blocks_before_fit, block_place_fits, last_fits, clears, unclear)

-- ---- 8

module _ {bs : List ℕ} {f : Fields} {b : Blocks} (c : Placed bs f b) where
  pub arranged : (a : Arrays) → Passed 65536 bs a → Arranged bs f.variants b (fixed_at bs) a (drop (header_end 65536 (fixed_at bs)) bs)
  arranged a p = record {
    parts = p.parts;
    known = passed_known 65536 bs a (lit< tt) (rw c.held.ready.same c.blocked) p;
    m_is = sym (ap (λ (z : Fixed). z.variants) c.held.ready.same);
    b_is = c.b_is ∙ ap blocks_of (sym c.held.ready.same);
  }

  module _ {r : Option FileVariant} (k : FirstBad bs f.variants b r) where
    pub bad_inside : {v : FileVariant} → r ≡ Some v → v.0 < 16777216
    bad_inside {v} l = omega (arith, k.below v l, (given_ranges c).variants_most)

    module _ {a : Arrays} (p : Passed 65536 bs a) where
      decided : after_fixed 65536 bs ≡ refuse_found 65536 (fixed_at bs) r (after_types 65536 bs a)
      decided =
          let w : r ≡ bad_type 65536 (file_variant 0) a.columns.types = k.is (fixed_at bs) a _ (arranged a p) in
          rw (← w) at (refusal_8 65536 bs a p)

      pub bad_8 : {v : FileVariant} {place : ℕ} {why : Refusal} → r ≡ Some v → ((f₁ : Fixed) → b ≡ blocks_of f₁ → place ≡ type_place 65536 f₁ v)
          → why ≡ named v (refusal 8 place) → refused why ≡ after_fixed 65536 bs
      bad_8 l q z =
          let d = q (fixed_at bs) (c.b_is ∙ ap blocks_of (sym c.held.ready.same)) in
          ap refused z ∙ sym (decided ∙ rw l (ap (refuse_of _ 8) (sym d)))

      pub beyond_8 : r ≡ None → after_types 65536 bs a ≡ after_fixed 65536 bs
      beyond_8 l = sym (decided ∙ rw l refl)

pub ruleset eight_laws = (fit, bad_inside, bad_8, beyond_8)

-- ---- 9

-- what was found, by cases
wrong_found : (j wrong blocks last : ℕ) → Err (record { 0 = j }) ≡ ending wrong blocks last → (j ≡ wrong) × (wrong < blocks)
wrong_found j wrong blocks last e = go (ltb wrong blocks) (ltb-true wrong blocks) e
  where
    go : (t : Bool) → (t ≡ true → wrong < blocks) → ◌≡◌ {A = Result ℕ WrongOffset} (Err (record { 0 = j })) (pick t (Err (record { 0 = wrong })) (Ok last))
        → (j ≡ wrong) × (wrong < blocks)
    go true f q = (let s : ◌≡◌ {A = WrongOffset} (record { 0 = j }) (record { 0 = wrong }) = cc in ap (λ (z : WrongOffset). z.0) s, f refl)
    go false f q = absurd (let z : ◌≡◌ {A = ℕ} 0 1 = cc in omega arith)

end_found : (x wrong blocks last : ℕ) → Ok x ≡ ending wrong blocks last → (x ≡ last) × (blocks ≤ wrong)
end_found x wrong blocks last e = go (ltb wrong blocks) (ltb-false wrong blocks) e
  where
    go : (t : Bool) → (t ≡ false → blocks ≤ wrong) → ◌≡◌ {A = Result ℕ WrongOffset} (Ok x) (pick t (Err (record { 0 = wrong })) (Ok last))
        → (x ≡ last) × (blocks ≤ wrong)
    go true f q = absurd (let z : ◌≡◌ {A = ℕ} 0 1 = cc in omega arith)
    go false f q = (cc, f refl)

-- the first block whose offset is wrong
abbrev wrong : List ℕ → Arrays → ℕ
wrong bs a = wrong_offset 0 a.offsets (starts_of 65536 (fixed_at bs) a)

module _ {bs : List ℕ} {f : Fields} {b : Blocks} (c : Placed bs f b) {first : ℕ} (i : first ≡ first_record 65536 (fixed f)) {r : Result ℕ WrongOffset}
    (k : EndOfRecords bs f.variants b first r) where
  ending_is : (a : Arrays) → Passed 65536 bs a → r ≡ ending (wrong bs a) ((f.variants + 65535) / 65536) (first + sum a.columns.lengths)
  ending_is a p = k (fixed_at bs) a _ (arranged c a p) (i ∙ ap (first_record 65536) (sym c.held.ready.same))

  blocks_are : block_count 65536 (fixed_at bs) ≡ (f.variants + 65535) / 65536
  blocks_are = ap (block_count 65536) c.held.ready.same ∙ block_count_is 65536 (fixed f) c.blocked

  module _ {j : ℕ} (q : r ≡ Err (record { 0 = j })) where
    at_offset : (a : Arrays) → Passed 65536 bs a → (j ≡ wrong bs a) × (wrong bs a < (f.variants + 65535) / 65536)
    at_offset a p = wrong_found j (wrong bs a) ((f.variants + 65535) / 65536) (first + sum a.columns.lengths) (sym q ∙ ending_is a p)

    -- it has a place
    module _ (u : unused_arrays 65536 (fixed f) bs ≡ ok tt []) where
      few_blocks : j ≤ 256
      few_blocks =
          let g = beyond_7 c.held u in
          let w = at_offset g.0 g.1 in
          omega (arith, w.0, w.1, (given_ranges c).variants_most)

      pub offsets_fit : Fits w64 (8 * j)
      offsets_fit = omega (arith, few_blocks)

      pub offset_place_fits : Fits w64 (12 + 8 * j)
      offset_place_fits = omega (arith, few_blocks)

    pub nine_offset : {why : Refusal} → why ≡ named (no_variant f.variants) (refusal 9 (12 + 8 * j)) → EndsFound bs (Err why)
    nine_offset z a p =
        let w = at_offset a p in
        refused_as (after_types 65536 bs a)
        (refusal_9_offset 65536 bs a p
        ∙ simp (lt-ltb (wrong bs a) (block_count 65536 (fixed_at bs)) (omega (arith, w.1, blocks_are))) (ap (offset_wrong (fixed_at bs)) (sym w.0))
        ∙ names c.held.ready 9 (12 + 8 * j)
        ∙ ap refused (sym z))

  module _ {x : ℕ} (q : r ≡ Ok x) (a : Arrays) (p : Passed 65536 bs a) where
    at_end : (x ≡ first + sum a.columns.lengths) × ((f.variants + 65535) / 65536 ≤ wrong bs a)
    at_end = end_found x (wrong bs a) ((f.variants + 65535) / 65536) (first + sum a.columns.lengths) (sym q ∙ ending_is a p)

    beyond_9 : after_types 65536 bs a ≡ after_offsets 65536 bs a
    beyond_9 = refusal_9_offset 65536 bs a p ∙ simp (le-ltb (wrong bs a) (block_count 65536 (fixed_at bs)) (omega (arith, at_end.1, blocks_are)))

    total : x ≡ first_record 65536 (fixed f) + sum a.columns.lengths
    total = at_end.0 ∙ rw i refl

  pub nine_last : {x : ℕ} {why : Refusal} → r ≡ Ok x → (x ≡ length bs → ⊥) → why ≡ named (no_variant f.variants) (refusal 9 (length bs))
      → EndsFound bs (Err why)
  nine_last q n z a p =
      refused_as (after_types 65536 bs a) (nine_end c.held a p (beyond_9 q a p) (λ s. n (total q a p ∙ s)) ∙ ap refused (sym z))

  pub accepted_last : {x : ℕ} → r ≡ Ok x → x ≡ length bs → EndsFound bs (Ok f)
  accepted_last q n a p = accepts c.held a p (beyond_9 q a p) (sym (total q a p) ∙ n)

pub placed_variants : {bs : List ℕ} {f : Fields} {b : Blocks} → Placed bs f b → f.variants ≤ 16777216
placed_variants c = held_variants c.held

pub ruleset nine_laws = (fit, placed_variants, offsets_fit, offset_place_fits, nine_offset, nine_last, accepted_last)

-- ---- 7, then 8, then 9

module _ {bs : List ℕ} {f : Fields} (h : Held bs f) where
  module _ {unused : Result ⊤ Refusal} (u : UnusedFound bs f unused) where
    -- 7
    pub refused_7 : {why : Refusal} → unused ≡ Err why → header_left (Err why) ≡ summary (after_fixed 65536 bs)
    refused_7 {why} q = refused_as (after_fixed 65536 bs) (go u.unused u.is (sym q ∙ u.told))
      where
        go : (s : Option ℕ) → unused_out s ≡ unused_arrays 65536 (fixed f) bs → Err why ≡ found_unused f.variants s
            → after_fixed 65536 bs ≡ refused why
        go (Some place) w e =
            let d : why ≡ named (no_variant f.variants) (refusal 7 place) = cc in
            seven h place (sym w) ∙ ap refused (sym d)
        go None w e = absurd (let z : ◌≡◌ {A = ℕ} 0 1 = cc in omega arith)

    pub cleared : {x : ⊤} → unused ≡ Ok x → unused_arrays 65536 (fixed f) bs ≡ ok tt []
    cleared {x} q = go u.unused u.is (sym u.told ∙ q)
      where
        go : (s : Option ℕ) → unused_out s ≡ unused_arrays 65536 (fixed f) bs → found_unused f.variants s ≡ Ok x
            → unused_arrays 65536 (fixed f) bs ≡ ok tt []
        go (Some place) w e = absurd (let z : ◌≡◌ {A = ℕ} 0 1 = cc in omega arith)
        go None w e = sym w

  module _ (c : unused_arrays 65536 (fixed f) bs ≡ ok tt []) {bad : Result ⊤ Refusal} (k : TypesFound bs bad) where
    -- 8
    pub refused_8 : {why : Refusal} → bad ≡ Err why → header_left (Err why) ≡ summary (after_fixed 65536 bs)
    refused_8 q =
        let g = beyond_7 h c in
        refused_as (after_fixed 65536 bs) (sym (k g.0 g.1) ∙ rw q refl)

    -- neither
    pub left_to_9 : {x : ⊤} → bad ≡ Ok x → (m : Result Fields Refusal) → EndsFound bs m → header_left m ≡ summary (after_fixed 65536 bs)
    left_to_9 q m s =
        let g = beyond_7 h c in
        s g.0 g.1
        ∙ ap summary (ap (λ (z : Result ⊤ Refusal). found_then z (after_types 65536 bs g.0)) (sym q) ∙ k g.0 g.1)

pub ruleset Chain_laws = (held_variants, refused_7, cleared, refused_8, left_to_9)
