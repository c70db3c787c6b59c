-- Where each call refuses, and which variant it names. 1 to 9 within the file or at its length; 10, 11 and 21 at 0; 12 at the end of the record at fault,
-- every other record's refusal at one of its bytes. The record at fault is that of the variant that is named, and the type at fault too.
-- Assumes nothing.
use mathlib.Core.Path.{◌≡◌, refl, sym, ap, ◌∙◌, subst}
use Prim.Native.Nat.{ℕ, zero, ◌≤◌, ◌<◌}
use mathlib.Core.Bool.{Bool, true, false, ◌&&◌}
use mathlib.Core.List.{List, [], ◌∷◌, ◌++◌}
use lib.ListN.{length, drop, length-append}
use lib.Dec.{eqb, ltb}
use native.Mathlib.Omega.{arith}
use borrow.Author.Tests.{ltb-true}
use Rattle.format.specs.declared.FileVariant.{FileVariant}
use Rattle.format.specs.declared.Refusal.{Refusal}
use Rattle.format.specs.Base.{pick, Bytes, Out, ok, refused, refusal, named, bind}
use Rattle.format.specs.Classes.{header_numbers, record_numbers, call_numbers, among}
use Rattle.format.specs.Body.{Body, body_categories, body_phases}
use Rattle.format.specs.Variant.{no_variant}
use Rattle.format.specs.Layout.{Fixed, fixed_bytes, arrays_bytes, arrays_of, joined, Layout, fixed_of, layout_bytes, LayoutObeys}
use Rattle.format.specs.Header.{read_fixed, read_layout}
use Rattle.format.specs.File.{read_all, variant_as}
use Rattle.format.specs.Reply.{refusal_of, holds_row, holds_set, with_layout, checked, past_last, header_call, check_out, check_call, out_as}
use Rattle.format.specs.Reply.{read_as, read_call, phases_call, lookup_out, lookup_call, view_out, view_call, flip_out, flip_call}
use Rattle.format.proofs.Rules.{Holds, never_both}
use Rattle.format.proofs.Refuses.{RefusalIs, is_need_of, is_map, no_other_class, Refuses, Among, HeaderNumber, RecordNumber}
use Rattle.format.proofs.ArraysLaws.{fixed_length, header_apart}
use Rattle.format.proofs.HeaderLaws.{IsLayout, obeying_read_back, layout_as_written}
use Rattle.format.proofs.FileLaws.{AllBytes, bodies_are_bytes}
use Rattle.format.proofs.HeaderRefusals.{header_refusals}
use Rattle.format.proofs.CallRefusals.{all_refusals, variant_refusals}
use Rattle.head_index.specs.NumbersAt.{fixed_at}
use Rattle.head_index.proofs.RefusalsByIndex.{fixed_there}
use Rattle.promises.proofs.HeaderNames.{HeaderIs, header_is}
use Rattle.promises.proofs.RecordFaults.{InRecord, RecordOf, IfRecord, variant_faults, all_faults}

-- M of the header, as bytes 3 to 6 have it, is the number of records of a layout that was read
layout_counts : (K : ℕ) (file : List ℕ) (l : Layout) → zero < K → Bytes file → read_layout K file ≡ ok l [] → (fixed_at file).variants ≡ length l.bodies
unfolding layout_bytes
layout_counts K file l p y e =
    let w : IsLayout K file l [] = subst (Holds (IsLayout K file)) e (layout_as_written K file p y) in
    let f : Fixed = fixed_of l in
    let rest : List ℕ = arrays_bytes K f (arrays_of K l) ++ joined l.bodies in
    let apart_there : file ≡ fixed_bytes f ++ rest = w.written ∙ header_apart K f (arrays_of K l) (joined l.bodies) in
    let long : 12 ≤ length file = omega (arith, fixed_length f, length-append (fixed_bytes f) rest, ap length apart_there) in
    let both_read : ok (fixed_at file) (drop 12 file) ≡ ok f rest
    = sym (fixed_there (length file) file long) ∙ ap (read_fixed (length file)) apart_there
    ∙ obeying_read_back (length file) f rest w.obeys.fixed in
    let same : fixed_at file ≡ f = cc in
    ap (λ (g : Fixed). g.variants) same

-- where a call on a file may refuse, and what it names; E: which variant a refusal 11 names; Q: which record is at fault
pub record PlaceIs (K : ℕ) (file : List ℕ) (E Q : Layout → Refusal → Type 0) (why : Refusal) : Type 0 where
  pub in_header : among header_numbers why.number ≡ true → HeaderIs K file why
  pub at_zero : among call_numbers why.number ≡ true → why.place ≡ 0
  pub if_zero : why.number ≡ 0 → why ≡ refusal 0 0
  pub names_none : among (10 ∷ 21 ∷ []) why.number ≡ true → why.variant ≡ no_variant (fixed_at file).variants
  pub out_of_range : why.number ≡ 11 → (l : Layout) × (read_layout K file ≡ ok l []) × E l why
  pub in_record : among record_numbers why.number ≡ true → (l : Layout) × (read_layout K file ≡ ok l []) × Q l why

-- no refusal of the kind
abbrev pub Never : Layout → Refusal → Type 0
Never l why = ⊥

-- 02, Ask 2: 11 names the variant that was asked for if it is below M, else M
abbrev pub AskedFor : FileVariant → Layout → Refusal → Type 0
AskedFor v l why = why.variant ≡ pick (ltb v.0 (length l.bodies)) v (no_variant (length l.bodies))

module _ (K : ℕ) (file : List ℕ) (E Q : Layout → Refusal → Type 0) where
  of_header : (why : Refusal) → HeaderNumber why.number → HeaderIs K file why → PlaceIs K file E Q why
  of_header why h i = record {
    in_header = λ t. i;
    at_zero = λ t. no_other_class header_numbers call_numbers why.number refl h t;
    if_zero = λ t. never_both h (ap (among header_numbers) t);
    names_none = λ t. no_other_class header_numbers (10 ∷ 21 ∷ []) why.number refl h t;
    out_of_range = λ t. never_both h (ap (among header_numbers) t);
    in_record = λ t. no_other_class header_numbers record_numbers why.number refl h t;
  }

  -- 10 and 21; 11
  of_none : (number : ℕ) → Among (10 ∷ 21 ∷ []) number → (m : ℕ) → (fixed_at file).variants ≡ m → PlaceIs K file E Q (named (no_variant m) (refusal number 0))
  of_none number h m e = record {
    in_header = λ t. no_other_class (10 ∷ 21 ∷ []) header_numbers number refl h t;
    at_zero = λ t. refl;
    if_zero = λ t. never_both h (ap (among (10 ∷ 21 ∷ [])) t);
    names_none = λ t. ap no_variant (sym e);
    out_of_range = λ t. never_both h (ap (among (10 ∷ 21 ∷ [])) t);
    in_record = λ t. no_other_class (10 ∷ 21 ∷ []) record_numbers number refl h t;
  }

  of_eleven : (v : FileVariant) (l : Layout) → read_layout K file ≡ ok l [] → E l (named v (refusal 11 0)) → PlaceIs K file E Q (named v (refusal 11 0))
  of_eleven v l e asked = record {
    in_header = λ t. never_both t refl;
    at_zero = λ t. refl;
    if_zero = λ t. absurd (omega arith);
    names_none = λ t. never_both t refl;
    out_of_range = λ t. (l, e, asked);
    in_record = λ t. never_both t refl;
  }

  of_record : (why : Refusal) → RecordNumber why.number → (l : Layout) → read_layout K file ≡ ok l [] → Q l why → PlaceIs K file E Q why
  of_record why h l e q = record {
    in_header = λ t. no_other_class record_numbers header_numbers why.number refl h t;
    at_zero = λ t. no_other_class record_numbers call_numbers why.number refl h t;
    if_zero = λ t. never_both h (ap (among record_numbers) t);
    names_none = λ t. no_other_class record_numbers (10 ∷ 21 ∷ []) why.number refl h t;
    out_of_range = λ t. never_both h (ap (among record_numbers) t);
    in_record = λ t. (l, e, q);
  }

  -- an accepted call has number 0, of no class, and place and variant 0
  placed : {A : Type 0} (out : Out A) → RefusalIs (PlaceIs K file E Q) out → PlaceIs K file E Q (refusal_of out)
  placed (ok a left) r = record {
    in_header = λ t. never_both t refl;
    at_zero = λ t. never_both t refl;
    if_zero = λ t. refl;
    names_none = λ t. never_both t refl;
    out_of_range = λ t. absurd (omega arith);
    in_record = λ t. never_both t refl;
  }
  placed (refused why) r = r

  records_placed : {A : Type 0} (l : Layout) (m : Out A) → read_layout K file ≡ ok l [] → Refuses RecordNumber m → RefusalIs (IfRecord (Q l)) m
      → RefusalIs (PlaceIs K file E Q) m
  records_placed l (ok a left) e n f = tt
  records_placed l (refused why) e n f = of_record why n l e (f n)

  module _ (p : zero < K) (y : Bytes file) where
    -- after the header check
    opened : {A : Type 0} (next : Layout → Out A)
        → ((l : Layout) → read_layout K file ≡ ok l [] → LayoutObeys K l → AllBytes l.bodies → RefusalIs (PlaceIs K file E Q) (next l))
        → RefusalIs (PlaceIs K file E Q) (bind (read_layout K file) (λ l left. next l))
    opened next k = go (read_layout K file) refl (layout_as_written K file p y) (header_refusals K file) (header_is K file p y)
      where
        go : (m : Out Layout) → read_layout K file ≡ m → Holds (IsLayout K file) m → Refuses HeaderNumber m → RefusalIs (HeaderIs K file) m
            → RefusalIs (PlaceIs K file E Q) (bind m (λ l left. next l))
        go (ok l left) e w n a = k l (e ∙ ap (ok l) w.ended) w.obeys (bodies_are_bytes K file l y w.written)
        go (refused why) e w n a = of_header why n a

    sized_placed : {A : Type 0} (sized : Layout → Bool) (next : Layout → Out A)
        → ((l : Layout) → read_layout K file ≡ ok l [] → LayoutObeys K l → AllBytes l.bodies → RefusalIs (PlaceIs K file E Q) (next l))
        → RefusalIs (PlaceIs K file E Q) (with_layout K file sized next)
    sized_placed sized next k =
        opened _ (λ l e h z.
        is_need_of _ _ (sized l) 10 0 _ (λ t. of_none 10 refl _ (layout_counts K file l p y e)) (λ t. k l e h z))

module _ (K : ℕ) (file : List ℕ) (p : zero < K) (y : Bytes file) where
  pub header_place : PlaceIs K file Never Never (header_call K file).verdict.refusal
  unfolding header_call
  header_place = placed K file _ _ (read_layout K file) (go (read_layout K file) (header_refusals K file) (header_is K file p y))
    where
      go : (m : Out Layout) → Refuses HeaderNumber m → RefusalIs (HeaderIs K file) m → RefusalIs (PlaceIs K file Never Never) m
      go (ok l left) n a = tt
      go (refused why) n a = of_header K file _ _ why n a

  -- a variant that is not there
  none_there : {Q : Layout → Refusal → Type 0} (v : FileVariant) (l : Layout) → read_layout K file ≡ ok l [] → ltb v.0 (length l.bodies) ≡ false
      → PlaceIs K file (AskedFor v) Q (named (no_variant (length l.bodies)) (refusal 11 0))
  none_there v l e t = of_eleven K file _ _ (no_variant (length l.bodies)) l e (rw t refl)

  pub view_place : (v : FileVariant) → PlaceIs K file (AskedFor v) Never (view_call K file v).refusal
  unfolding view_call
  view_place v =
      placed K file _ _ (view_out K file v)
      (opened K file _ _ p y _ (λ l e h z. is_need_of _ _ (ltb v.0 (length l.bodies)) 11 0 _ (λ t. none_there v l e t) (λ t. tt)))

  checked_placed : (l : Layout) → read_layout K file ≡ ok l [] → LayoutObeys K l → AllBytes l.bodies
      → RefusalIs (PlaceIs K file Never (InRecord K)) (checked K l)
  checked_placed l e h z = is_map _ _ (read_all K l) (records_placed K file _ _ l (read_all K l) e (all_refusals K l p h z) (all_faults K l z))

  variant_placed : {A : Type 0} (what : ℕ → List ℕ → Body → A) (v : FileVariant) (l : Layout)
      → read_layout K file ≡ ok l [] → LayoutObeys K l → AllBytes l.bodies → v.0 < length l.bodies
      → RefusalIs (PlaceIs K file (AskedFor v) (RecordOf K v)) (variant_as what K l v)
  variant_placed what v l e h z m =
      records_placed K file _ _ l (variant_as what K l v) e (variant_refusals K l p h z what v m) (variant_faults K l z what p h v m)

  pub check_place : (work : List ℕ) → PlaceIs K file Never (InRecord K) (check_call K file work).reply.verdict.refusal
  unfolding check_call
  check_place work = placed K file _ _ (check_out K file work) (sized_placed K file _ _ p y (holds_row work) (checked K) checked_placed)

  pub flip_place : (set work : List ℕ) → PlaceIs K file Never (InRecord K) (flip_call K file set work).verdict.refusal
  unfolding flip_call
  flip_place set work =
      placed K file _ _ (flip_out K file set work)
      (sized_placed K file _ _ p y (λ (l : Layout). holds_set set l && holds_row work l) _ (λ l e h z.
      is_need_of _ _ (eqb (past_last (length l.bodies) set) 0) 21 0 _ (λ t. of_none K file _ _ 21 refl _ (layout_counts K file l p y e))
      (λ t. checked_placed l e h z)))

  as_placed : (what : ℕ → List ℕ → Body → List ℕ) (v : FileVariant) (output work : List ℕ)
      → PlaceIs K file (AskedFor v) (RecordOf K v) (read_as what K file v output work).verdict.refusal
  as_placed what v output work =
      placed K file _ _ (out_as what K file v output work)
      (sized_placed K file _ _ p y (λ (l : Layout). holds_row output l && holds_row work l) _ (λ l e h z.
      is_need_of _ _ (ltb v.0 (length l.bodies)) 11 0 _ (λ t. none_there v l e t) (λ t.
      variant_placed what v l e h z (ltb-true v.0 (length l.bodies) t))))

  pub read_place : (v : FileVariant) (output work : List ℕ) → PlaceIs K file (AskedFor v) (RecordOf K v) (read_call K file v output work).verdict.refusal
  unfolding read_call
  read_place v output work = as_placed body_categories v output work

  pub phases_place : (v : FileVariant) (output work : List ℕ) → PlaceIs K file (AskedFor v) (RecordOf K v) (phases_call K file v output work).verdict.refusal
  unfolding phases_call
  phases_place v output work = as_placed body_phases v output work

  pub lookup_place : (v : FileVariant) (sample : ℕ) (work : List ℕ)
      → PlaceIs K file (AskedFor v) (RecordOf K v) (lookup_call K file v sample work).verdict.refusal
  unfolding lookup_call
  lookup_place v sample work =
      placed K file _ _ (lookup_out K file v sample work)
      (sized_placed K file _ _ p y (holds_row work) _ (λ l e h z.
      is_need_of _ _ (ltb v.0 (length l.bodies)) 11 0 _ (λ t. none_there v l e t) (λ t.
      is_need_of _ v (ltb sample l.samples) 11 0 _ (λ u. of_eleven K file _ _ v l e (rw t refl)) (λ u.
      variant_placed body_categories v l e h z (ltb-true v.0 (length l.bodies) t)))))

  -- of a start of rows, which looks at no record
  pub start_place : {A : Type 0} (work : List ℕ) (first : Layout → A)
      → PlaceIs K file Never Never (refusal_of (with_layout K file (holds_row work) (λ (l : Layout). ok (first l) [])))
  start_place work first =
      placed K file _ _ (with_layout K file (holds_row work) (λ (l : Layout). ok (first l) []))
      (sized_placed K file _ _ p y (holds_row work) (λ (l : Layout). ok (first l) []) (λ l e h z. tt))
