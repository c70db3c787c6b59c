-- Each refusal of a public call is a number of document 01's table that belongs to that call: no clause that stands for what cannot come is reached.
-- Assumes nothing.
use mathlib.Core.Path.{◌≡◌, refl, sym}
use Prim.Native.Nat.{ℕ, zero, suc, ◌+◌, ◌<◌}
use mathlib.Core.Bool.{Bool, true, false, not, ◌&&◌}
use mathlib.Core.List.{List, [], ◌∷◌, ◌++◌}
use lib.ListN.{length, get_or}
use lib.Dec.{eqb, ltb, leb}
use native.Mathlib.Omega.{arith}
use borrow.Author.Tests.{ltb-true}
use Rattle.format.specs.declared.FileVariant.{FileVariant}
use Rattle.format.specs.Base.{pick, Bytes, Out, naming, need_of}
use Rattle.format.specs.Limits.{most_samples}
use Rattle.format.specs.Classes.{header_numbers, record_numbers, writer_numbers, phased_writer_numbers, among}
use Rattle.format.specs.PairCode.{Coded, coded, not_coded, code_numbered}
use Rattle.format.specs.declared.Kind.{Kind}
use Rattle.format.specs.declared.Kind.TheVariants.{Array, Paired, AgainstAnchor, AgainstCategory, NoKind}
use Rattle.format.specs.Track.{kind, leans, Track, track_bytes}
use Rattle.format.specs.Phase.{first_of, rest_of}
use Rattle.format.specs.Body.{Body, body_bytes, body_categories, read_body, type_leans}
use Rattle.format.specs.Variant.{file_variant, next_variant, in_block, anchor, no_variant}
use Rattle.format.specs.Layout.{from_1_to, first_record, Layout, fixed_of, record_start, TypesAllowed, LayoutObeys}
use Rattle.format.specs.Header.{read_layout}
use Rattle.format.specs.File.{next_anchor, read_records, read_all, type_of, over_as, read_over, variant_as, read_variant, variant_leans}
use Rattle.format.specs.Writer.{pair_track, kind_track, track_for, need_categories, with_track, write_record, phase_allowed, need_phases, phased_body}
use Rattle.format.specs.Writer.{write_phased}
use Rattle.format.specs.Reply.{keeps_work, holds_row, holds_set, with_layout, checked, check_out, need_variant, out_as, lookup_out, view_out, past_last}
use Rattle.format.specs.Reply.{flip_out, need_sample}
use Rattle.format.proofs.Rules.{by_test}
use Rattle.format.proofs.Refuses.{Refuses, Among, HeaderNumber, RecordNumber, every, class_holds, refuses_wider, refuses_need, refuses_map, refuses_bind}
use Rattle.format.proofs.Refuses.{refuses_then, refuses_need_of, refuses_naming}
use Rattle.format.proofs.Refusals.{body_refusals, allowed_kind}
use Rattle.format.proofs.AnchorLaws.{IsAnchor, anchor_is, type_allowed_in}
use Rattle.format.proofs.HeaderLaws.{IsLayout, layout_as_written}
use Rattle.format.proofs.HeaderRefusals.{header_refusals}
use Rattle.format.proofs.FileLaws.{AllBytes, bodies_are_bytes, one_type_each}

-- ---- records

-- in variant order
records_refusals : (K N start : ℕ) (v : FileVariant) (lent types : List ℕ) (stored : List (List ℕ)) → TypesAllowed K v types → AllBytes stored
    → Refuses RecordNumber (read_records N v start lent types stored)
unfolding read_records
records_refusals K N start v lent [] stored h y = tt
records_refusals K N start v lent (type ∷ types) [] h y = tt
records_refusals K N start v lent (type ∷ types) (bs ∷ stored) h y =
    refuses_then RecordNumber (naming v (read_body (start + length bs) N lent type bs)) _
    (refuses_naming RecordNumber v (read_body (start + length bs) N lent type bs)
    (body_refusals (start + length bs) N lent type bs (allowed_kind (in_block K v) type h.0) y.0)) (λ body left.
    refuses_map RecordNumber _
    (read_records N (next_variant v) (start + length bs) (next_anchor (type_leans type) lent (body_categories N lent body)) types stored)
    (records_refusals K N (start + length bs) (next_variant v) (next_anchor (type_leans type) lent (body_categories N lent body)) types stored h.1 y.1))

pub stored_bytes : (v : ℕ) (stored : List (List ℕ)) → AllBytes stored → Bytes (get_or stored v [])
stored_bytes v [] y = tt
stored_bytes zero (bs ∷ stored) y = y.0
stored_bytes (suc v) (bs ∷ stored) y = stored_bytes v stored y.1

module _ (K : ℕ) (l : Layout) (p : zero < K) (h : LayoutObeys K l) (y : AllBytes l.bodies) where
  pub all_refusals : Refuses RecordNumber (read_all K l)
  unfolding read_all
  all_refusals = records_refusals K l.samples (first_record K (fixed_of l)) (file_variant 0) [] l.types l.bodies h.types y

  -- of one variant over its anchor's categories, whatever is read of it
  over_refusals : {A : Type 0} (what : ℕ → List ℕ → Body → A) (lent : List ℕ) (v : FileVariant) → v.0 < length l.bodies
      → Refuses RecordNumber (over_as what K l lent v)
  unfolding over_as
  over_refusals what lent v m =
      let there : v.0 < length l.types = omega (arith, one_type_each K l h) in
      let read : Out Body = read_body (record_start K l (next_variant v)) l.samples lent (type_of l v) (get_or l.bodies v.0 []) in
      refuses_map RecordNumber _ (naming v read)
      (refuses_naming RecordNumber v read
      (body_refusals (record_start K l (next_variant v)) l.samples lent (type_of l v) (get_or l.bodies v.0 [])
      (allowed_kind (in_block K v) (type_of l v) (type_allowed_in K l.types p h.types v there))
      (stored_bytes v.0 l.bodies y)))

  -- of one variant and its anchor
  pub variant_refusals : {A : Type 0} (what : ℕ → List ℕ → Body → A) (v : FileVariant) → v.0 < length l.bodies
      → Refuses RecordNumber (variant_as what K l v)
  unfolding variant_as
  variant_refusals what v m =
      by_test (Refuses RecordNumber) (variant_leans l v)
      (λ t.
      let a : IsAnchor K l.types v (anchor K l.types v)
      = anchor_is K l.types p h.types v (omega (arith, one_type_each K l h)) t in
      refuses_then RecordNumber (read_over K l [] (anchor K l.types v)) _
      (over_refusals body_categories [] (anchor K l.types v) (omega (arith, a.before)))
      (λ lent left. over_refusals what lent v m))
      (λ t. over_refusals what [] v m)

-- ---- the calls on files

-- after a header check and the sizes of the lent buffers (10)
layout_refusals : {A : Type 0} (class : List ℕ) (K : ℕ) (file : List ℕ) (sized : Layout → Bool) (next : Layout → Out A) → zero < K → Bytes file
    → every (among class) header_numbers ≡ true → Among class 10
    → ((l : Layout) → LayoutObeys K l → AllBytes l.bodies → Refuses (Among class) (next l)) → Refuses (Among class) (with_layout K file sized next)
layout_refusals class K file sized next p y t ten r =
    refuses_bind (IsLayout K file) (Among class) (read_layout K file) _ (layout_as_written K file p y)
    (refuses_wider header_numbers class (read_layout K file) t (header_refusals K file)) (λ l left w.
    refuses_need_of (Among class) _ (sized l) _ _ _ ten (r l w.obeys (bodies_are_bytes K file l y w.written)))

-- 11, then what is known of the variant
variant_there : {A : Type 0} (P : ℕ → Type 0) (v : FileVariant) (l : Layout) (next : Out A) → P 11 → (v.0 < length l.bodies → Refuses P next)
    → Refuses P (need_variant v l next)
variant_there P v l next h r = by_test (Refuses P) (ltb v.0 (length l.bodies)) (λ t. r (ltb-true v.0 (length l.bodies) t)) (λ t. h)

-- what each call refuses with: its own of the numbers that a call adds (10, 11, 21) among the others
abbrev pub check_numbers : List ℕ
check_numbers = header_numbers ++ (10 ∷ record_numbers)

abbrev pub read_call_numbers : List ℕ
read_call_numbers = header_numbers ++ (10 ∷ 11 ∷ record_numbers)

abbrev pub view_numbers : List ℕ
view_numbers = header_numbers ++ (11 ∷ [])

abbrev pub flip_numbers : List ℕ
flip_numbers = header_numbers ++ (10 ∷ 21 ∷ record_numbers)

checked_refusals : (class : List ℕ) (K : ℕ) (l : Layout) → every (among class) record_numbers ≡ true → Refuses RecordNumber (read_all K l)
    → Refuses (Among class) (checked K l)
checked_refusals class K l t r =
    refuses_map (Among class) (λ (bodies : List Body). l) (read_all K l) (refuses_wider record_numbers class (read_all K l) t r)

pub check_refusals : (K : ℕ) (file work : List ℕ) → zero < K → Bytes file → Refuses (Among check_numbers) (check_out K file work)
check_refusals K file work p y =
    layout_refusals check_numbers K file (holds_row work) (checked K) p y refl refl (λ l h z.
    checked_refusals check_numbers K l refl (all_refusals K l p h z))

-- whatever is read of the variant: its categories or its phases
pub read_refusals : {A : Type 0} (what : ℕ → List ℕ → Body → A) (K : ℕ) (file : List ℕ) (v : FileVariant) (output work : List ℕ) → zero < K → Bytes file
    → Refuses (Among read_call_numbers) (out_as what K file v output work)
read_refusals what K file v output work p y =
    layout_refusals read_call_numbers K file (λ (l : Layout). holds_row output l && holds_row work l)
    (λ (l : Layout). need_variant v l (variant_as what K l v)) p y refl refl (λ l h z.
    variant_there (Among read_call_numbers) v l _ refl (λ m.
    refuses_wider record_numbers read_call_numbers (variant_as what K l v) refl (variant_refusals K l p h z what v m)))

pub lookup_refusals : (K : ℕ) (file : List ℕ) (v : FileVariant) (sample : ℕ) (work : List ℕ) → zero < K → Bytes file
    → Refuses (Among read_call_numbers) (lookup_out K file v sample work)
lookup_refusals K file v sample work p y =
    layout_refusals read_call_numbers K file (holds_row work)
    (λ (l : Layout). need_variant v l (need_sample v sample l (read_variant K l v))) p y refl refl (λ l h z.
    variant_there (Among read_call_numbers) v l _ refl (λ m.
    refuses_need_of (Among read_call_numbers) v (ltb sample l.samples) _ _ _ refl
    (refuses_wider record_numbers read_call_numbers (read_variant K l v) refl (variant_refusals K l p h z body_categories v m))))

pub view_refusals : (K : ℕ) (file : List ℕ) (v : FileVariant) → Refuses (Among view_numbers) (view_out K file v)
view_refusals K file v =
    refuses_then (Among view_numbers) (read_layout K file) _ (refuses_wider header_numbers view_numbers (read_layout K file) refl (header_refusals K file))
    (λ l left. refuses_need_of (Among view_numbers) _ (ltb v.0 (length l.bodies)) _ _ _ refl tt)

pub flip_refusals : (K : ℕ) (file set work : List ℕ) → zero < K → Bytes file → Refuses (Among flip_numbers) (flip_out K file set work)
flip_refusals K file set work p y =
    layout_refusals flip_numbers K file (λ (l : Layout). holds_set set l && holds_row work l)
    (λ (l : Layout). need_of (no_variant (length l.bodies)) (eqb (past_last (length l.bodies) set) 0) 21 0 (checked K l)) p y refl refl (λ l h z.
    refuses_need_of (Among flip_numbers) _ (eqb (past_last (length l.bodies) set) 0) _ _ _ refl
    (checked_refusals flip_numbers K l refl (all_refusals K l p h z)))

-- 01: "After 1 to 11 and 21 the work area is unchanged; after every other reply its first N bytes are zero and the rest unchanged."
pub header_keeps_work : (number : ℕ) → HeaderNumber number → keeps_work number ≡ true
header_keeps_work number h = class_holds keeps_work header_numbers number refl h

pub record_clears_work : (number : ℕ) → RecordNumber number → keeps_work number ≡ false
record_clears_work number h = when_not (keeps_work number) (class_holds (λ (n : ℕ). not (keeps_work n)) record_numbers number refl h)
  where
    when_not : (b : Bool) → not b ≡ true → b ≡ false
    when_not true e = sym e
    when_not false e = refl

-- ---- the writer

abbrev pub WriteNumber : ℕ → Type 0
WriteNumber number = Among writer_numbers number

track_for_refusals : (k : Kind) (code : ℕ) (lent categories : List ℕ) → Refuses WriteNumber (kind_track k code lent categories)
unfolding kind_track
track_for_refusals Array code lent categories = refuses_need WriteNumber (eqb code 0) _ _ _ refl tt
track_for_refusals Paired code lent categories = go (code_numbered code)
  where
    go : (found : Coded) → Refuses WriteNumber (pair_track categories found)
    go (coded c) = tt
    go not_coded = refl
track_for_refusals (AgainstAnchor inverted) code lent categories = refuses_need WriteNumber (eqb code 0) _ _ _ refl tt
track_for_refusals (AgainstCategory base) code lent categories = refuses_need WriteNumber (eqb code 0) _ _ _ refl tt
track_for_refusals NoKind code lent categories = refl

module _ (class : List ℕ) (t : every (among class) writer_numbers ≡ true) where
  -- a class that has the writer's numbers
  in_class : (number : ℕ) → WriteNumber number → Among class number
  in_class number h = class_holds (among class) writer_numbers number t h

  categories_refusals : {A : Type 0} (i : ℕ) (categories : List ℕ) (next : Out A) → Refuses (Among class) next
      → Refuses (Among class) (need_categories i categories next)
  unfolding need_categories
  categories_refusals i [] next r = r
  categories_refusals i (c ∷ categories) next r =
      refuses_need (Among class) (ltb c 4) _ _ _ (in_class 20 refl) (categories_refusals (suc i) categories next r)

  -- before the categories are looked at
  with_track_refusals : {A : Type 0} (categories : List ℕ) (number code : ℕ) (lent : List ℕ) (next : Track → Out A)
      → ((track : Track) → Refuses (Among class) (next track)) → Refuses (Among class) (with_track categories number code lent next)
  with_track_refusals categories number code lent next r =
      refuses_need (Among class) (from_1_to most_samples (length categories)) _ _ _ (in_class 4 refl)
      (refuses_then (Among class) (track_for number code lent categories) _
      (refuses_wider writer_numbers class (track_for number code lent categories) t (track_for_refusals (kind number) code lent categories)) (λ track left.
      refuses_need (Among class) (eqb (length lent) (pick (leans number) (length categories) 0)) _ _ _ (in_class 10 refl) (r track)))

pub write_refusals : (categories : List ℕ) (number code : ℕ) (lent : List ℕ) (room : ℕ) → Refuses WriteNumber (write_record categories number code lent room)
unfolding write_record
write_refusals categories number code lent room =
    with_track_refusals writer_numbers refl categories number code lent _ (λ track.
    categories_refusals writer_numbers refl 0 categories _
    (categories_refusals writer_numbers refl 0 lent _
    (refuses_need WriteNumber (leb (length (track_bytes (length categories) track)) room) _ _ _ refl tt)))

-- ---- the writer of a phased record

abbrev pub PhasedWriteNumber : ℕ → Type 0
PhasedWriteNumber number = Among phased_writer_numbers number

-- a phase that is not allowed is 22
need_phases_refusals : {A : Type 0} (i : ℕ) (categories phases : List ℕ) (next : Out A) → Refuses PhasedWriteNumber next
    → Refuses PhasedWriteNumber (need_phases i categories phases next)
unfolding need_phases
need_phases_refusals i [] phases next r = r
need_phases_refusals i (c ∷ categories) phases next r =
    refuses_need PhasedWriteNumber (phase_allowed c (first_of phases)) _ _ _ refl (need_phases_refusals (suc i) categories (rest_of phases) next r)

pub write_phased_refusals : (categories phases : List ℕ) (number code : ℕ) (lent : List ℕ) (room : ℕ)
    → Refuses PhasedWriteNumber (write_phased categories phases number code lent room)
unfolding write_phased
write_phased_refusals categories phases number code lent room =
    with_track_refusals phased_writer_numbers refl categories number code lent _ (λ track.
    refuses_need PhasedWriteNumber (eqb (length phases) (length categories)) _ _ _ refl
    (categories_refusals phased_writer_numbers refl 0 categories _
    (categories_refusals phased_writer_numbers refl 0 lent _
    (need_phases_refusals 0 categories phases _
    (refuses_need PhasedWriteNumber (leb (length (body_bytes (length categories) (phased_body categories phases track))) room) _ _ _ refl tt)))))
