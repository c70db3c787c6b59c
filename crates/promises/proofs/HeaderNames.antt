-- Every refusal 1 to 9: its place is within the file or at its length, and it names 0 in 1 to 4, M in 5, 6, 7 and 9, and in 8 the variant whose type is at
-- fault. K is the number of variants to a block.
-- Assumes nothing.
use mathlib.Core.Path.{◌≡◌, refl, sym, ap, ◌∙◌, subst}
use Prim.Native.Nat.{ℕ, zero, suc, ◌+◌, ◌*◌, ◌≤◌, ◌<◌}
use mathlib.Core.Bool.{Bool, true, false}
use mathlib.Core.List.{List, [], ◌∷◌, ◌++◌}
use lib.ListN.{length, drop, get_or, length-append}
use lib.Dec.{eqb, leb}
use native.Mathlib.Omega.{arith}
use Rattle.format.specs.declared.FileVariant.{FileVariant}
use Rattle.format.specs.declared.Refusal.{Refusal}
use Rattle.format.specs.Base.{Bytes, Out, ok, refused, refusal, named, naming, numbered}
use Rattle.format.specs.Classes.{among}
use Rattle.format.specs.Limits.{most_samples, most_variants}
use Rattle.format.specs.Variant.{file_variant, no_variant, next_variant, in_block}
use Rattle.format.specs.Layout.{Fixed, fixed_bytes, unblocked, from_1_to, mode_covered, form_allowed, Arrays, block_count, arrays_size, in_parts}
use Rattle.format.specs.Layout.{block_offsets, type_allowed, TypesAllowed, ColumnsUnblocked, ColumnsObey, OffsetsFit}
use Rattle.format.specs.Header.{Header, header_with, need_fixed, read_arrays, type_place, need_types, read_after_fixed, need_offsets, split_bodies}
use Rattle.format.specs.Header.{read_bodies, read_data, read_layout}
use Rattle.format.proofs.Rules.{Holds, by_need_of, by_bind, by_naming, by_numbered, below_drop, never_both, split}
use Rattle.format.proofs.Refuses.{RefusalIs, is_need, is_need_of, is_map, is_bind, no_other_class}
use Rattle.format.proofs.NumbersLaws.{numbers_length}
use Rattle.format.proofs.OffsetsLaws.{by_types, types_pass}
use Rattle.format.proofs.ArraysLaws.{fixed_length, AreArrays, arrays_as_written, header_apart}
use Rattle.head_index.specs.NumbersAt.{fixed_at}
use Rattle.head_index.specs.VariantsAt.{type_at}
use Rattle.head_index.specs.Known.{Known}
use Rattle.head_index.specs.Rules.{after_fixed}
use Rattle.head_index.proofs.PlaceLaws.{type_at_is, in_parts_blocked}
use Rattle.head_index.proofs.RefusalsByIndex.{refusal_1, refusals_2_to_5, fixed_at_written}
use Rattle.promises.proofs.HeaderPlaces.{AtMost, arrays_inside, bodies_inside, type_inside, zeros_allowed}

-- 02, Ask 2: 8 names the variant in whose type the fault lies, "the lower one where one byte holds two such types". That type is not allowed, each
-- before it is, and the place is the byte that holds it.
pub record TypeAtFault (K : ℕ) (file : List ℕ) (why : Refusal) : Type 0 where
  pub below : why.variant.0 < (fixed_at file).variants
  pub place_is : why.place ≡ type_place K (fixed_at file) why.variant
  pub not_allowed : type_allowed (in_block K why.variant) (type_at K (fixed_at file) file why.variant) ≡ false
  pub first : (u : FileVariant) → u.0 < why.variant.0 → type_allowed (in_block K u) (type_at K (fixed_at file) file u) ≡ true

-- 02, Ask 2: "M where no variant is concerned, 0 in 1 to 4". M as bytes 3 to 6 have it.
pub record HeaderIs (K : ℕ) (file : List ℕ) (why : Refusal) : Type 0 where
  pub in_file : why.place ≤ length file
  pub names_zero : among (1 ∷ 2 ∷ 3 ∷ 4 ∷ []) why.number ≡ true → why.variant ≡ file_variant 0
  pub names_none : among (5 ∷ 6 ∷ 7 ∷ 9 ∷ []) why.number ≡ true → why.variant ≡ no_variant (fixed_at file).variants
  pub names_type : why.number ≡ 8 → TypeAtFault K file why

-- ---- the types, by the type of each variant

-- from variant v on, each is the one that `at` tells
abbrev Are : (FileVariant → ℕ) → FileVariant → List ℕ → Type 0
Are at v [] = Unit {0}
Are at v (type ∷ types) = (at v ≡ type) × Are at (next_variant v) types

are_from : (at : FileVariant → ℕ) (v : FileVariant) (types : List ℕ) → ((i : ℕ) → i < length types → at (file_variant (v.0 + i)) ≡ get_or types i 0)
    → Are at v types
are_from at v [] k = tt
are_from at v (type ∷ types) k =
    let here : v.0 + 0 ≡ v.0 = omega arith in (
      rw here at (k 0 (omega arith)),
      are_from at (next_variant v) types (λ i l. let later : v.0 + suc i ≡ suc v.0 + i = omega arith in rw later at (k (suc i) (omega arith))),
    )

-- one of them is not allowed, and those before it are
record FirstDenied (K : ℕ) (at : FileVariant → ℕ) (v : FileVariant) (count : ℕ) (u : FileVariant) : Type 0 where
  from : v.0 ≤ u.0
  below : u.0 < v.0 + count
  denied : type_allowed (in_block K u) (at u) ≡ false
  first : (w : FileVariant) → v.0 ≤ w.0 → w.0 < u.0 → type_allowed (in_block K w) (at w) ≡ true

types_fault : {A : Type 0} (P : Refusal → Type 0) (K : ℕ) (f : Fixed) (at : FileVariant → ℕ) (v : FileVariant) (types : List ℕ) (next : Out A)
    → Are at v types → ((u : FileVariant) → FirstDenied K at v (length types) u → P (named u (refusal 8 (type_place K f u)))) → RefusalIs P next
    → RefusalIs P (need_types K f v types next)
unfolding need_types
types_fault P K f at v [] next a k r = r
types_fault P K f at v (type ∷ types) next a k r =
    is_need_of P v (type_allowed (in_block K v) type) 8 (type_place K f v) _
    (λ t. k v (record { from = omega arith; below = omega arith; denied = rw a.0 t; first = λ w c d. absurd (omega arith) }))
    (λ t.
    types_fault P K f at (next_variant v) types next a.1 (λ u d.
    k u
    (record {
      from = omega (arith, d.from);
      below = omega (arith, d.below);
      denied = d.denied;
      first = λ w c e. split (suc v.0) w.0 (λ g. d.first w g e) (λ g. same w (omega arith) t);
    })) r)
  where
    same : (w : FileVariant) → w.0 ≡ v.0 → type_allowed (in_block K v) type ≡ true → type_allowed (in_block K w) (at w) ≡ true
    same w e t = let here : w ≡ v = ap file_variant e in rw (here, a.0) t

-- ---- the header check

module _ (K : ℕ) (bs : List ℕ) (p : zero < K) (y : Bytes bs) where
  abbrev P : Refusal → Type 0
  P = HeaderIs K bs

  abbrev f : Fixed
  f = fixed_at bs

  -- 1 to 4; 5, 6, 7 and 9
  zeroth : (number place : ℕ) → among (1 ∷ 2 ∷ 3 ∷ 4 ∷ []) number ≡ true → place ≤ length bs → P (refusal number place)
  zeroth number place t l = record {
    in_file = l;
    names_zero = λ q. refl;
    names_none = λ q. no_other_class (1 ∷ 2 ∷ 3 ∷ 4 ∷ []) (5 ∷ 6 ∷ 7 ∷ 9 ∷ []) number refl t q;
    names_type = λ q. never_both t (ap (among (1 ∷ 2 ∷ 3 ∷ 4 ∷ [])) q);
  }

  none : (number place : ℕ) → among (5 ∷ 6 ∷ 7 ∷ 9 ∷ []) number ≡ true → place ≤ length bs → P (named (no_variant f.variants) (refusal number place))
  none number place t l = record {
    in_file = l;
    names_zero = λ q. no_other_class (1 ∷ 2 ∷ 3 ∷ 4 ∷ []) (5 ∷ 6 ∷ 7 ∷ 9 ∷ []) number refl q t;
    names_none = λ q. refl;
    names_type = λ q. never_both t (ap (among (5 ∷ 6 ∷ 7 ∷ 9 ∷ [])) q);
  }

  -- under another number, with M named
  numbered_none : {A : Type 0} (number : ℕ) (m : Out A) → among (5 ∷ 6 ∷ 7 ∷ 9 ∷ []) number ≡ true → RefusalIs (AtMost (length bs)) m
      → RefusalIs P (naming (no_variant f.variants) (numbered number m))
  numbered_none number (ok a left) t r = tt
  numbered_none number (refused why) t r = none number why.place t r

  rules_fault : {A : Type 0} (next : Out A) → 12 ≤ length bs → RefusalIs P next → RefusalIs P (need_fixed f next)
  unfolding need_fixed
  rules_fault next l r =
      is_need P (eqb f.magic 0x1b6c) 2 0 _ (λ t. zeroth 2 0 refl (omega arith)) (λ t.
      is_need P (mode_covered f.mode) 3 2 _ (λ t. zeroth 3 2 refl (omega arith)) (λ t.
      is_need P (from_1_to most_variants f.variants) 4 3 _ (λ t. zeroth 4 3 refl (omega arith)) (λ t.
      is_need P (from_1_to most_samples f.samples) 4 7 _ (λ t. zeroth 4 7 refl (omega arith)) (λ t.
      is_need_of P _ (form_allowed f.mode f.form) 5 11 next (λ t. none 5 11 refl (omega arith)) (λ t. r)))))

  -- 8: where there are no blocks every type is allowed
  header_types : (a : Arrays) (left : List ℕ) {A : Type 0} (next : Out A) → bs ≡ in_parts K f a left → OffsetsFit K f a.offsets
      → ColumnsObey f a.columns → RefusalIs P next → RefusalIs P (need_types K f (file_variant 0) a.columns.types next)
  header_types a left next w o c r = go (unblocked f.mode) refl
    where
      go : (b : Bool) → unblocked f.mode ≡ b → RefusalIs P (need_types K f (file_variant 0) a.columns.types next)
      go true e =
          let g : ColumnsUnblocked f a.columns = simp e at c in
          let allowed : TypesAllowed K (file_variant 0) a.columns.types
          = subst (TypesAllowed K (file_variant 0)) (sym g.types_same) (zeros_allowed K (file_variant 0) f.variants) in
          subst (RefusalIs P) (sym (types_pass K f (file_variant 0) a.columns.types next allowed)) r
      go false e =
          let k : Known K f a = record { some = p; blocked = e; offsets_fit = o; all_fit = simp e at c } in
          let count : length a.columns.types ≡ f.variants = k.all_fit.types_count in
          let stored : (i : ℕ) → i < length a.columns.types → type_at K f bs (file_variant (0 + i)) ≡ get_or a.columns.types i 0
          = λ i l.
          let same : 0 + i ≡ i = omega arith in
          rw same (ap (λ (x : List ℕ). type_at K f x (file_variant i)) w ∙ type_at_is K (file_variant i) f a left k (omega arith)) in
          types_fault P K f (type_at K f bs) (file_variant 0) a.columns.types next (are_from (type_at K f bs) (file_variant 0) a.columns.types stored)
          (λ u d.
          let there : u.0 < f.variants = omega (arith, d.below) in
          record {
            in_file = omega (arith, type_inside K f a left u k there, ap length w);
            names_zero = λ q. never_both q refl;
            names_none = λ q. never_both q refl;
            names_type = λ q. record { below = there; place_is = refl; not_allowed = d.denied; first = λ w l. d.first w (omega arith) l };
          }) r

  -- what is known of a header that was read
  record Known_of (h : Header) (left : List ℕ) : Type 0 where
    fixed_is : h.fixed ≡ f
    written : bs ≡ in_parts K f h.arrays left
    offsets : OffsetsFit K f h.arrays.offsets

  module _ (long : 12 ≤ length bs) where
    abbrev arrays : Out Arrays
    arrays = read_arrays K (length bs) f (drop 12 bs)

    arrays_hold : Holds (AreArrays K f (drop 12 bs)) (naming (no_variant f.variants) (numbered 7 arrays))
    arrays_hold = by_naming _ _ (numbered 7 arrays) (by_numbered _ 7 arrays (arrays_as_written K (length bs) f (drop 12 bs) p (below_drop 256 12 bs y)))

    apart_written : (a : Arrays) (left : List ℕ) → AreArrays K f (drop 12 bs) a left → bs ≡ in_parts K f a left
    apart_written a left h =
        fixed_at_written bs y long ∙ ap (λ (x : List ℕ). fixed_bytes f ++ x) h.written ∙ sym (header_apart K f a left)

    header_known : Holds Known_of (read_after_fixed K (length bs) f (drop 12 bs))
    unfolding read_after_fixed
    header_known =
        by_need_of Known_of _ (leb (arrays_size K f) (length (drop 12 bs))) 6 (length bs) _ (λ t.
        by_bind (AreArrays K f (drop 12 bs)) Known_of (naming (no_variant f.variants) (numbered 7 arrays)) _ arrays_hold (λ a left h.
        by_types Known_of K f (file_variant 0) a.columns.types _ (λ g.
        record { fixed_is = refl; written = apart_written a left h; offsets = h.offsets })))

    header_part : RefusalIs P (read_after_fixed K (length bs) f (drop 12 bs))
    unfolding read_after_fixed
    header_part =
        is_need_of P _ (leb (arrays_size K f) (length (drop 12 bs))) 6 (length bs) _ (λ t. none 6 (length bs) refl (omega arith)) (λ t.
        is_bind (AreArrays K f (drop 12 bs)) P (naming (no_variant f.variants) (numbered 7 arrays)) _ arrays_hold
        (numbered_none 7 arrays refl (arrays_inside (length bs) K f (drop 12 bs))) (λ a left h.
        header_types a left (ok (header_with f a) left) (apart_written a left h) h.offsets h.columns tt))

  -- 9: the offset fields stand in the header
  offset_fields : (a : Arrays) (left : List ℕ) → bs ≡ in_parts K f a left → OffsetsFit K f a.offsets → 12 + 8 * length a.offsets ≤ length bs
  unfolding block_count
  offset_fields a left w o = go (unblocked f.mode) refl
    where
      go : (b : Bool) → unblocked f.mode ≡ b → 12 + 8 * length a.offsets ≤ length bs
      go true e =
          let no : length a.offsets ≡ 0 = o.0 ∙ simp e in
          omega (arith, fixed_length f, simp length-append at (ap length (w ∙ header_apart K f a left)))
      go false e =
          omega (
            arith,
            fixed_length f,
            numbers_length 8 a.offsets,
            simp length-append at (ap length (w ∙ in_parts_blocked K f a left e)),
          )

  offsets_fault : {A : Type 0} (place : ℕ) (offsets starts : List ℕ) (next : Out A) → place + 8 * length offsets ≤ length bs → RefusalIs P next
      → RefusalIs P (need_offsets f place offsets starts next)
  unfolding need_offsets
  offsets_fault place [] starts next l r = r
  offsets_fault place (offset ∷ offsets) [] next l r = r
  offsets_fault place (offset ∷ offsets) (start ∷ starts) next l r =
      is_need_of P _ (eqb offset start) 9 place _ (λ t. none 9 place refl (omega arith)) (λ t. offsets_fault (place + 8) offsets starts next (omega arith) r)

  -- the records, after a header with these fields
  data_part : (a : Arrays) (left : List ℕ) → bs ≡ in_parts K f a left → OffsetsFit K f a.offsets
      → RefusalIs P (read_data K (length bs) (header_with f a) left)
  unfolding read_data read_bodies
  data_part a left w o =
      let bodies : Out (List (List ℕ)) = split_bodies (length bs) a.columns.lengths left in
      offsets_fault 12 a.offsets (block_offsets K f a.columns.lengths) _ (offset_fields a left w o)
      (is_map P _ (naming (no_variant f.variants) (numbered 9 bodies)) (numbered_none 9 bodies refl (bodies_inside (length bs) a.columns.lengths left)))

  -- 01, Replies: each place of 1 to 9 is "file length", or a byte of the header; 02, Ask 2: and each refusal names what it should
  pub header_is : RefusalIs (HeaderIs K bs) (read_layout K bs)
  unfolding after_fixed
  header_is =
      split 12 (length bs)
      (λ long.
      subst (RefusalIs P) (sym (refusals_2_to_5 K bs long))
      (rules_fault _ long
      (is_bind Known_of P (read_after_fixed K (length bs) f (drop 12 bs)) _ (header_known long) (header_part long) (λ h left k.
      subst (λ (g : Fixed). RefusalIs P (read_data K (length bs) (header_with g h.arrays) left)) (sym k.fixed_is)
      (data_part h.arrays left k.written k.offsets)))))
      (λ short. subst (RefusalIs P) (sym (refusal_1 K bs short)) (zeroth 1 (length bs) refl (omega arith)))
