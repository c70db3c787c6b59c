-- What a flip keeps of a track: its length in bytes, and that its type is allowed; and what it does to the type's number.
-- Assumes nothing.
use mathlib.Core.Path.{◌≡◌, refl, sym, ap, ap₂, ◌∙◌}
use Prim.Native.Nat.{ℕ, zero, suc, ◌+◌, ◌-◌, ◌*◌, ◌%◌, ◌<◌}
use mathlib.Core.Bool.{Bool, true, false, not, ◌&&◌, ◌||◌}
use mathlib.Core.List.{List, [], ◌∷◌, ◌++◌, map}
use lib.ListN.{length, length-append, length-map}
use lib.Dec.{eqb, lit<}
use native.Mathlib.Omega.{arith}
use borrow.Author.Tests.{lt-ltb, ne_eqb}
use Rattle.format.specs.declared.BlockVariant.{BlockVariant}
use Rattle.format.specs.Base.{pick}
use Rattle.format.specs.Category.{exchange_if, exchange_all, just_one}
use Rattle.format.specs.Varint.{varint_bytes}
use Rattle.format.specs.Numbers.{numbers_bytes}
use Rattle.format.specs.Packed.{one, two, packed}
use Rattle.format.specs.Difflist.{Entry, number_width, heads, sizes_after, size_bytes, values, steps, list_parts, list_bytes}
use Rattle.format.specs.PairCode.{pair}
use Rattle.format.specs.declared.Kind.TheVariants.{AgainstCategory}
use Rattle.format.specs.Track.{kind, Track, plain, one_bit, leaning, sparse, track_kind, Fits, bit_number, track_bytes}
use Rattle.format.specs.Track.{revalue, flip_track, leans}
use Rattle.format.specs.Phase.{has_phases, phases_bytes, flip_phases}
use Rattle.format.specs.Body.{kind_of, type_leans, Body, body_type, body_leans, body_bytes, BodyFits, flip_body, flip_kind, flip_type}
use Rattle.format.specs.Layout.{bits_allowed, type_allowed}
use Rattle.format.proofs.Rules.{never_both, by_test}
use Rattle.format.proofs.CategoryLaws.{exchange_all_length}
use Rattle.format.proofs.PackedLaws.{packed_length}
use Rattle.format.proofs.TrackLaws.{track_kind_small, leans_track}
use Rattle.format.proofs.BodyLaws.{body_kind}
use Rattle.format.proofs.FlipTrackLaws.{leans_flip, body_fits_flip}
use Rattle.format.proofs.PhaseFlipLaws.{flip_phases_has, flip_phases_length}

-- ---- of a list only the values change

-- the heads stay
heads_kept : (b : Bool) (room : ℕ) (es : List Entry) → heads room (revalue b es) ≡ heads room es
unfolding heads
heads_kept b room [] = refl
heads_kept b zero (e ∷ es) = ap (◌∷◌ e.sample) (heads_kept b 63 es)
heads_kept b (suc room) (e ∷ es) = heads_kept b room es

-- from the middle of a group: the size bytes stay
sizes_kept : (b : Bool) (room size before : ℕ) (es : List Entry) → sizes_after room size before (revalue b es) ≡ sizes_after room size before es
unfolding sizes_after
sizes_kept b room size before [] = refl
sizes_kept b zero size before (e ∷ es) = ap (◌∷◌ (size - 63)) (sizes_kept b 63 0 e.sample es)
sizes_kept b (suc room) size before (e ∷ es) = sizes_kept b room (size + length (varint_bytes (e.sample - before))) e.sample es

-- the size bytes stay
size_bytes_kept : (b : Bool) (es : List Entry) → size_bytes (revalue b es) ≡ size_bytes es
unfolding size_bytes
size_bytes_kept b [] = refl
size_bytes_kept b (e ∷ es) = sizes_kept b 63 0 e.sample es

-- the steps stay
steps_kept : (b : Bool) (room before : ℕ) (es : List Entry) → steps room before (revalue b es) ≡ steps room before es
unfolding steps
steps_kept b room before [] = refl
steps_kept b zero before (e ∷ es) = steps_kept b 63 e.sample es
steps_kept b (suc room) before (e ∷ es) = ap (◌++◌ (varint_bytes (e.sample - before))) (steps_kept b room e.sample es)

-- the values are exchanged
pub values_revalued : (b : Bool) (es : List Entry) → values (revalue b es) ≡ exchange_all b (values es)
unfolding values
values_revalued b [] = refl
values_revalued b (e ∷ es) = ap (◌∷◌ (exchange_if b e.value)) (values_revalued b es)

-- there are as many entries
pub count_kept : (b : Bool) (es : List Entry) → length (revalue b es) ≡ length es
count_kept b [] = refl
count_kept b (e ∷ es) = ap suc (count_kept b es)

-- the whole list, with all that stays as it was
pub list_revalued : (b : Bool) (w : ℕ) (es : List Entry) → list_bytes w (revalue b es)
    ≡ varint_bytes (length es) ++ (numbers_bytes w (heads 0 es) ++ (size_bytes es ++ (packed two (exchange_all b (values es)) ++ steps 0 0 es)))
unfolding list_parts
list_revalued b w es = simp (count_kept, heads_kept, size_bytes_kept, values_revalued, steps_kept)

-- ---- lengths

-- exchanged categories take as many bytes
pub exchanged_length : (b : Bool) (row : List ℕ) → length (packed two (exchange_all b row)) ≡ length (packed two row)
exchanged_length b row = packed_length two (length row) (exchange_all b row) (exchange_all_length b row) ∙ sym (packed_length two (length row) row refl)

-- turned bits take as many bytes
pub turned_length : (b : Bool) (bits : List Bool) → length (packed one (map bit_number (map (just_one b) bits))) ≡ length (packed one (map bit_number bits))
turned_length b bits =
    packed_length one (length bits) (map bit_number (map (just_one b) bits)) (length-map (map (just_one b) bits) bit_number ∙ length-map bits (just_one b))
    ∙ sym (packed_length one (length bits) (map bit_number bits) (length-map bits bit_number))

-- a list with its values exchanged takes as many bytes
pub list_length_kept : (b : Bool) (w : ℕ) (es : List Entry) → length (list_bytes w (revalue b es)) ≡ length (list_bytes w es)
unfolding list_parts
list_length_kept b w es = ap length (list_revalued b w es) ∙ simp (length-append, exchanged_length)

-- a flipped track takes as many bytes
pub flip_length : (N : ℕ) (lent member : Bool) (t : Track) → length (track_bytes N (flip_track lent member t)) ≡ length (track_bytes N t)
unfolding track_bytes
flip_length N lent member (plain categories) = exchanged_length member categories
flip_length N lent member (one_bit c bits es) =
    ap suc
    (length-append (packed one (map bit_number (map (just_one (member && (pair c).turns)) bits))) (list_bytes (number_width N) (revalue member es))
    ∙ ap₂ ◌+◌ (turned_length (member && (pair c).turns) bits) (list_length_kept member (number_width N) es)
    ∙ sym (length-append (packed one (map bit_number bits)) (list_bytes (number_width N) es)))
flip_length N lent member (leaning inverted es) = list_length_kept lent (number_width N) es
flip_length N lent member (sparse category es) = list_length_kept member (number_width N) es

-- and a flipped body
pub body_length_kept : (N : ℕ) (lent member : Bool) (body : Body) → length (body_bytes N (flip_body lent member body)) ≡ length (body_bytes N body)
body_length_kept N lent member body =
    length-append (track_bytes N (flip_track lent member body.main)) (phases_bytes (flip_phases member body.phases))
    ∙ ap₂ ◌+◌ (flip_length N lent member body.main) (flip_phases_length member body.phases)
    ∙ sym (length-append (track_bytes N body.main) (phases_bytes body.phases))

-- ---- types

-- and not 5
pub track_kind_not_5 : (N : ℕ) (anchor : List ℕ) (t : Track) → Fits N anchor t → eqb (track_kind t) 5 ≡ false
track_kind_not_5 N anchor (plain categories) f = refl
track_kind_not_5 N anchor (one_bit c bits es) f = refl
track_kind_not_5 N anchor (leaning true es) f = refl
track_kind_not_5 N anchor (leaning false es) f = refl
track_kind_not_5 N anchor (sparse zero es) f = refl
track_kind_not_5 N anchor (sparse (suc zero) es) f =
    let h : kind 5 ≡ AgainstCategory 1 = f.0 in
    let z : ◌≡◌ {A = ℕ} 0 1 = cc in
    absurd (omega arith)
track_kind_not_5 N anchor (sparse (suc (suc category)) es) f =
    ne_eqb (suc (suc (suc (suc (suc (suc category)))))) 5 (λ e. omega arith)

-- so the type of a body that fits is allowed, except where a block's first variant leans
pub body_allowed : (N : ℕ) (anchor : List ℕ) (body : Body) (i : BlockVariant) → BodyFits N anchor body
    → type_allowed i (body_type body) ≡ not (eqb i.0 0 && body_leans body)
body_allowed N anchor body i f =
    rw (bits_fine (has_phases body.phases), body_kind N anchor body f, track_kind_not_5 N anchor body.main f.0, leans_track body.main) refl
  where
    k : ℕ
    k = track_kind body.main

    small : k < 8
    small = track_kind_small N anchor body.main f.0

    bits_fine : (b : Bool) → bits_allowed (k + pick b 16 0) ≡ true
    bits_fine true = rw (lt-ltb ((k + 16) % 16) 8 (omega (arith, small)), lt-ltb (k + 16) 32 (omega (arith, small))) refl
    bits_fine false = rw (lt-ltb ((k + 0) % 16) 8 (omega (arith, small)), lt-ltb (k + 0) 32 (omega (arith, small))) refl

-- where a type was allowed, the flipped one is
pub type_allowed_flip : (N : ℕ) (lent member : Bool) (anchor : List ℕ) (body : Body) (i : BlockVariant) → BodyFits N anchor body
    → type_allowed i (body_type body) ≡ true → type_allowed i (body_type (flip_body lent member body)) ≡ true
type_allowed_flip N lent member anchor body i f h =
    body_allowed N (exchange_all lent anchor) (flip_body lent member body) i (body_fits_flip N lent member anchor body f)
    ∙ ap (λ (b : Bool). not (eqb i.0 0 && b)) (leans_flip lent member body.main)
    ∙ sym (body_allowed N anchor body i f)
    ∙ h

-- a track of kind 0 keeps it, and a body of type 0: so do all those of a file with no blocks
kind_0_flip : (lent member : Bool) (t : Track) → track_kind t ≡ 0 → track_kind (flip_track lent member t) ≡ 0
kind_0_flip lent member (plain categories) h = refl
kind_0_flip lent member (one_bit c bits es) h = absurd (omega arith)
kind_0_flip lent member (leaning true es) h = absurd (omega arith)
kind_0_flip lent member (leaning false es) h = absurd (omega arith)
kind_0_flip lent member (sparse category es) h = absurd (omega arith)

pub plain_flip : (lent member : Bool) (body : Body) → body_type body ≡ 0 → body_type (flip_body lent member body) ≡ 0
plain_flip lent member body h =
    let kind_is : track_kind body.main ≡ 0 = omega (arith, h) in
    let none : ◌≡◌ {A = ℕ} (pick (has_phases body.phases) 16 0) 0 = omega (arith, h) in
    ap₂ ◌+◌ (kind_0_flip lent member body.main kind_is) (ap (λ (b : Bool). pick b 16 0) (flip_phases_has member body.phases) ∙ none)

-- ---- what a flip does to a type's number

-- the kind of a flipped track
pub flip_kind_is : (lent member : Bool) (t : Track) → track_kind (flip_track lent member t) ≡ flip_kind lent member (track_kind t)
flip_kind_is lent member (plain categories) = refl
flip_kind_is lent member (one_bit c bits es) = refl
flip_kind_is lent member (leaning true es) = by (just_one lent member)
  where
    by : (b : Bool) → ◌≡◌ {A = ℕ} (pick (just_one b true) 3 2) (pick b 2 3)
    by true = refl
    by false = refl
flip_kind_is lent member (leaning false es) = by (just_one lent member)
  where
    by : (b : Bool) → ◌≡◌ {A = ℕ} (pick (just_one b false) 3 2) (pick b 3 2)
    by true = refl
    by false = refl
flip_kind_is lent true (sparse zero es) = refl
flip_kind_is lent false (sparse zero es) = refl
flip_kind_is lent true (sparse (suc zero) es) = refl
flip_kind_is lent false (sparse (suc zero) es) = refl
flip_kind_is lent true (sparse (suc (suc zero)) es) = refl
flip_kind_is lent false (sparse (suc (suc zero)) es) = refl
flip_kind_is lent true (sparse (suc (suc (suc zero))) es) = refl
flip_kind_is lent false (sparse (suc (suc (suc zero))) es) = refl
flip_kind_is lent true (sparse (suc (suc (suc (suc category)))) es) = refl
flip_kind_is lent false (sparse (suc (suc (suc (suc category)))) es) = refl

-- the type of a flipped body
pub flip_type_is : (N : ℕ) (lent member : Bool) (anchor : List ℕ) (body : Body) → BodyFits N anchor body
    → body_type (flip_body lent member body) ≡ flip_type lent member (body_type body)
flip_type_is N lent member anchor body f =
    ap₂ (λ (k : ℕ) (b : Bool). k + pick b 16 0) (flip_kind_is lent member body.main) (flip_phases_has member body.phases)
    ∙ by (has_phases body.phases) (body_kind N anchor body f)
  where
    k : ℕ
    k = track_kind body.main

    small : k < 8
    small = track_kind_small N anchor body.main f.0

    by : (b : Bool) → kind_of (k + pick b 16 0) ≡ k → flip_kind lent member k + pick b 16 0 ≡ flip_type lent member (k + pick b 16 0)
    by true e = rw e (omega (arith, small))
    by false e = rw e (omega (arith, small))

-- a record that is not in the set, nor leans on a member of it, keeps its type
kind_stays : (lent member : Bool) (number : ℕ) → member || (leans number && lent) ≡ false → flip_kind lent member number ≡ number
kind_stays lent true number e = never_both refl e
kind_stays lent false zero e = refl
kind_stays lent false (suc zero) e = refl
kind_stays true false (suc (suc zero)) e = never_both refl e
kind_stays false false (suc (suc zero)) e = refl
kind_stays true false (suc (suc (suc zero))) e = never_both refl e
kind_stays false false (suc (suc (suc zero))) e = refl
kind_stays lent false (suc (suc (suc (suc zero)))) e = refl
kind_stays lent false (suc (suc (suc (suc (suc zero))))) e = refl
kind_stays lent false (suc (suc (suc (suc (suc (suc zero)))))) e = refl
kind_stays lent false (suc (suc (suc (suc (suc (suc (suc zero))))))) e = refl
kind_stays lent false (suc (suc (suc (suc (suc (suc (suc (suc number)))))))) e = refl

pub flip_type_stays : (lent member : Bool) (type : ℕ) → member || (type_leans type && lent) ≡ false → flip_type lent member type ≡ type
flip_type_stays lent member type e = omega (arith, kind_stays lent member (kind_of type) e)

-- and it fits where the type did
kind_small : (lent member : Bool) (number : ℕ) → number < 8 → flip_kind lent member number < 8
kind_small lent member zero l = lit< tt
kind_small lent member (suc zero) l = lit< tt
kind_small lent member (suc (suc zero)) l = by_test (λ (n : ℕ). n < 8) (just_one lent member) (λ t. lit< tt) (λ t. lit< tt)
kind_small lent member (suc (suc (suc zero))) l = by_test (λ (n : ℕ). n < 8) (just_one lent member) (λ t. lit< tt) (λ t. lit< tt)
kind_small lent member (suc (suc (suc (suc zero)))) l = by_test (λ (n : ℕ). n < 8) member (λ t. lit< tt) (λ t. lit< tt)
kind_small lent member (suc (suc (suc (suc (suc zero))))) l = lit< tt
kind_small lent member (suc (suc (suc (suc (suc (suc zero)))))) l = by_test (λ (n : ℕ). n < 8) member (λ t. lit< tt) (λ t. lit< tt)
kind_small lent member (suc (suc (suc (suc (suc (suc (suc zero))))))) l = lit< tt
kind_small lent member (suc (suc (suc (suc (suc (suc (suc (suc number)))))))) l = absurd (omega arith)

pub flip_type_small : (lent member : Bool) (type n : ℕ) → type < n * 8 → flip_type lent member type < n * 8
flip_type_small lent member type n l = omega (arith, kind_small lent member (kind_of type) (omega arith))
