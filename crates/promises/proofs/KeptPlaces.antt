-- DEMAND 3, byte place by byte place. 01, Flipping: "The flag bits and every length and offset stay. Only types and record bodies may differ."
-- Assumes nothing.
use mathlib.Core.Path.{◌≡◌, refl, sym, ap, ap₂, ◌∙◌}
use Prim.Native.Nat.{ℕ, zero, suc, ◌+◌, ◌≤◌, ◌<◌}
use native.Mathlib.Omega.{arith}
use mathlib.Core.Bool.{Bool, true, false}
use mathlib.Core.List.{List, [], ◌++◌}
use lib.ListN.{length, get_or, take, get_or-append, get_or-eq_default}
use lib.Seq.{length-take-le, get_or-take, get_or-set_other}
use lib.Dec.{lit<, leb}
use borrow.Author.Tests.{leb-true}
use Rattle.format.specs.declared.FileVariant.{FileVariant}
use Rattle.format.specs.Base.{pick, Bytes, ok}
use Rattle.format.specs.Limits.{variants_to_a_block}
use Rattle.format.specs.Body.{flip_type}
use Rattle.format.specs.Variant.{file_variant, next_variant}
use Rattle.format.specs.Layout.{Fixed, unblocked, Layout, fixed_of, sum, first_record, record_start}
use Rattle.format.specs.Header.{type_place}
use Rattle.format.specs.File.{File, layout_of_file, file_bytes, Obeys, read_file, flip_file, flip_bytes}
use Rattle.format.specs.Reply.{member, flip_call}
use Rattle.format.proofs.Rules.{split}
use Rattle.format.proofs.FileLaws.{file_exactly}
use Rattle.format.proofs.FlipLaws.{SameLayout, flip_layout, flip_obeys, flip_of_file}
use Rattle.head_index.proofs.StartLaws.{records_end}
use Rattle.head_records.specs.Extent.{record_size}
use Rattle.flip_phase.specs.AllRecords.{phases_flipped}
use Rattle.flip_phase.proofs.KeepLaws.{phases_keep}
use Rattle.flip_file.specs.Passes.{bodies_flipped, all_bodies, type_put, touched, type_flipped, types_flipped, all_types}
use Rattle.flip_file.proofs.FileLaw.{in_place_is_flip}
use Rattle.promises.proofs.FlipPromises.{done}

-- A place that holds no type ("Mode 0x02: no offsets, types or lengths") and no byte of a record's body.
pub record Outside (K : ℕ) (l : Layout) (place : ℕ) : Type 0 where
  pub no_type : unblocked l.mode ≡ false → (v : FileVariant) → v.0 < length l.bodies → place ≡ type_place K (fixed_of l) v → ⊥
  pub no_body : (v : FileVariant) → v.0 < length l.bodies → record_start K l v ≤ place → place < record_start K l (next_variant v) → ⊥

-- ---- the two passes in place after that over the phases, over any bytes

-- bytes that change from `start` on, where what changes fits, keep those before
before : (start end place : ℕ) (bs after new : List ℕ) → start ≤ end → place < start → get_or new place 0 ≡ get_or (take start bs ++ after) place 0
    → get_or (pick (leb end (length bs)) new bs) place 0 ≡ get_or bs place 0
before start end place bs after new m l h = go (leb end (length bs)) refl
  where
    go : (t : Bool) → leb end (length bs) ≡ t → get_or (pick t new bs) place 0 ≡ get_or bs place 0
    go false e = refl
    go true e =
        let fits : start ≤ length bs = omega (arith, leb-true end (length bs) e) in
        h ∙ get_or-append (take start bs) after 0 place (rw (length-take-le start bs fits) l) ∙ get_or-take start bs place 0 l

module _ (K : ℕ) (f : Fixed) (member : FileVariant → Bool) (place : ℕ) where
  abbrev kept : List ℕ → ℕ
  kept bs = get_or bs place 0

  -- the first changes nothing before the first record
  bodies_keep : (left : ℕ) (v : FileVariant) (start : ℕ) (lent : Bool) (bs : List ℕ) → place < start
      → kept (bodies_flipped K f member left v start lent bs) ≡ kept bs
  unfolding bodies_flipped
  bodies_keep zero v start lent bs l = refl
  bodies_keep (suc left) v start lent bs l =
      let end : ℕ = start + record_size K f bs v in
      before start end place bs _ _ (omega arith) l (bodies_keep left (next_variant v) end _ _ (omega arith))

  -- the second changes nothing but the bytes that hold types
  type_keeps : (v : FileVariant) (lent own : Bool) (type : ℕ) (bs : List ℕ) → (place ≡ type_place K f v → ⊥)
      → kept (type_flipped K f v lent own type bs) ≡ kept bs
  unfolding type_flipped type_put
  type_keeps v lent own type bs h = go (touched lent own type)
    where
      go : (t : Bool) → kept (pick t (type_put K f v (flip_type lent own type) bs) bs) ≡ kept bs
      go true = get_or-set_other bs (type_place K f v) place _ 0 h
      go false = refl

  types_keep : (left : ℕ) (v : FileVariant) (lent : Bool) (bs : List ℕ)
      → ((u : FileVariant) → v.0 ≤ u.0 → u.0 < v.0 + left → place ≡ type_place K f u → ⊥)
      → kept (types_flipped K f member left v lent bs) ≡ kept bs
  unfolding types_flipped
  types_keep zero v lent bs h = refl
  types_keep (suc left) v lent bs h =
      types_keep left (next_variant v) _ _ (λ u a b. h u (omega arith) (omega arith))
      ∙ type_keeps v lent (member v) _ bs (h v (omega arith) (omega arith))

-- ---- an accepted file

first_start : (K : ℕ) (l : Layout) → record_start K l (file_variant 0) ≡ first_record K (fixed_of l)
unfolding record_start sum
first_start K l = omega arith

module _ (K : ℕ) (member : FileVariant → Bool) (bs : List ℕ) (g : File) (p : zero < K) (y : Bytes bs) (e : read_file K bs ≡ ok g []) where
  abbrev l : Layout
  l = layout_of_file g

  abbrev new : Layout
  new = layout_of_file (flip_file member g)

  obeys : Obeys K g
  obeys = ((file_exactly K bs g p y).0 e).0

  written : bs ≡ file_bytes K g
  written = ((file_exactly K bs g p y).0 e).1

  -- a file ends where its last record does
  ends : (h : File) → Obeys K h → length (file_bytes K h) ≡ record_start K (layout_of_file h) (file_variant (length (layout_of_file h).bodies))
  unfolding file_bytes
  ends h o = sym (records_end K (layout_of_file h) p o.layout)

  -- every byte keeps its place
  pub flip_same_length : length (flip_bytes K member bs) ≡ length bs
  unfolding record_start
  flip_same_length =
      let s : SameLayout K l new = flip_layout K member g in
      let last : Fixed → List ℕ → ℕ = λ fixed lengths. first_record K fixed + sum (take fixed.variants lengths) in
      ap (λ (x : List ℕ). length (flip_bytes K member x)) written
      ∙ ap length (flip_of_file K member g p obeys)
      ∙ ends (flip_file member g) (flip_obeys K member g obeys)
      ∙ ap₂ last s.same_fixed s.same_lengths
      ∙ sym (ends g obeys) ∙ ap length (sym written)

  module _ (place : ℕ) (o : Outside K l place) where
    -- a place in no record is before the first, or past the last
    past : (v : ℕ) → v ≤ length l.bodies → first_record K (fixed_of l) ≤ place → record_start K l (file_variant v) ≤ place
    past zero b h = omega (arith, first_start K l)
    past (suc v) b h =
        let before_it : record_start K l (file_variant v) ≤ place = past v (omega arith) h in
        split (record_start K l (file_variant (suc v))) place (λ z. z) (λ z. absurd (o.no_body (file_variant v) (omega arith) before_it z))

    by_passes : place < first_record K (fixed_of l) → get_or (flip_bytes K member bs) place 0 ≡ get_or bs place 0
    by_passes before-records =
        let f : Fixed = fixed_of l in
        ap (λ (x : List ℕ). get_or x place 0) (sym (in_place_is_flip K member bs g p y e))
        ∙ types (unblocked f.mode) refl (all_bodies K f member (phases_flipped K member bs))
        ∙ bodies_keep K f member place f.variants (file_variant 0) (first_record K f) false (phases_flipped K member bs) before-records
        ∙ phases_keep K member bs g p y e place before-records
      where
        types : (t : Bool) → unblocked l.mode ≡ t → (x : List ℕ)
            → get_or (pick t x (all_types K (fixed_of l) member x)) place 0 ≡ get_or x place 0
        types true q x = refl
        types false q x = types_keep K (fixed_of l) member place (length l.bodies) (file_variant 0) false x
            (λ u a b. o.no_type q u (omega arith))

    -- "Only types and record bodies may differ."
    pub flip_keeps : get_or (flip_bytes K member bs) place 0 ≡ get_or bs place 0
    flip_keeps =
        split (first_record K (fixed_of l)) place
        (λ h.
        let out : length bs ≤ place = omega (arith, past (length l.bodies) (omega arith) h, ap length written, ends g obeys) in
        get_or-eq_default (flip_bytes K member bs) 0 (omega (arith, flip_same_length)) ∙ sym (get_or-eq_default bs 0 out))
        by_passes

-- ---- the call

module _ (file set work : List ℕ) (y : Bytes file) (q : (flip_call variants_to_a_block file set work).verdict.refusal.number ≡ 0) where
  abbrev whole : File
  whole = (done file set work y q).whole

  abbrev after : List ℕ
  after = (flip_call variants_to_a_block file set work).file

  flipped_is : after ≡ flip_bytes variants_to_a_block (member set) file
  unfolding flip_bytes
  flipped_is = (done file set work y q).flipped

  -- an accepted flip leaves as many bytes as it was lent
  pub call_same_length : length after ≡ length file
  call_same_length =
      ap length flipped_is ∙ flip_same_length variants_to_a_block (member set) file whole (lit< tt) y (done file set work y q).accepted

  -- and in every place that holds neither a type nor a byte of a record the byte that stood there
  pub call_keeps : (place : ℕ) → Outside variants_to_a_block (layout_of_file whole) place → get_or after place 0 ≡ get_or file place 0
  call_keeps place o =
      ap (λ (x : List ℕ). get_or x place 0) flipped_is
      ∙ flip_keeps variants_to_a_block (member set) file whole (lit< tt) y (done file set work y q).accepted place o
