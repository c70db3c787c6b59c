-- The flip of a main track over its flipped anchor, and of a body: it fits, it stands for the row that it should, and how one flip follows another.
-- Assumes nothing.
use mathlib.Core.Path.{◌≡◌, refl, sym, ap, ap₂, ◌∙◌, subst}
use Prim.Native.Nat.{ℕ, zero, suc}
use mathlib.Core.Bool.{Bool, true, false, not, ◌&&◌}
use mathlib.Core.List.{List, [], ◌∷◌, map}
use lib.ListN.{get_or, set, replicate, length-map}
use lib.Dec.{eqb}
use Rattle.format.specs.Base.{pick}
use Rattle.format.specs.Category.{exchange_if, exchange_all, just_one}
use Rattle.format.specs.Difflist.{Entry, Rising}
use Rattle.format.specs.PairCode.{pair, category_of}
use Rattle.format.specs.declared.Kind.TheVariants.{AgainstCategory}
use Rattle.format.specs.Track.{kind, Track, plain, one_bit, leaning, sparse, track_leans, off_pair, off_category, off_anchor, rule}
use Rattle.format.specs.Track.{Fits, apply, track_categories, revalue, image_if, flip_track}
use Rattle.format.specs.Phase.{heterozygous_count, Phases, PhasesObey, phases_over, flip_phases}
use Rattle.format.specs.Body.{Body, body_leans, body_categories, track_heterozygous, BodyFits, body_reading, exchange_reading, flip_body}
use Rattle.format.specs.File.{next_anchor}
use Rattle.format.proofs.CategoryLaws.{just_one_joined, just_one_pairs, just_one_order, just_one_out, exchange_if_twice, exchange_below, exchange_eqb}
use Rattle.format.proofs.CategoryLaws.{exchange_all_twice, exchange_all_none, exchange_all_length, exchange_all_below, exchange_all_at, exchange_all_set}
use Rattle.format.proofs.CategoryLaws.{exchange_all_replicate}
use Rattle.format.proofs.PairLaws.{categories_of_image, in_pair_image, image_if_twice, turns_twice, bits_turned_twice, bits_not_turned}
use Rattle.format.proofs.PhaseFlipLaws.{heterozygous_exchange, flip_phases_obey, flip_phases_twice, flip_phases_none, phases_over_flip}

-- ---- it fits

-- entries with their values exchanged obey a rule that allows an exchanged value where the old rule allowed the value
pub rising_revalued : (N : ℕ) (may new : ℕ → ℕ → Bool) (b : Bool) → ((sample value : ℕ) → new sample (exchange_if b value) ≡ may sample value)
    → (least : ℕ) (es : List Entry) → Rising (rule N may) least es → Rising (rule N new) least (revalue b es)
rising_revalued N may new b k least [] r = tt
rising_revalued N may new b k least (e ∷ es) r = (
  record {
    rises = r.0.rises;
    inside = r.0.inside;
    two_bits = exchange_below b e.value r.0.two_bits;
    allowed = k e.sample e.value ∙ r.0.allowed;
  },
  rising_revalued N may new b k (suc e.sample) es r.1,
)

-- what kinds 4, 6 and 7 list against, exchanged, has a kind too
category_exchanged : (b : Bool) (category : ℕ) → kind (suc (suc (suc (suc category)))) ≡ AgainstCategory category
    → kind (suc (suc (suc (suc (exchange_if b category))))) ≡ AgainstCategory (exchange_if b category)
category_exchanged false category h = h
category_exchanged true zero h = refl
category_exchanged true (suc zero) h = h
category_exchanged true (suc (suc zero)) h = refl
category_exchanged true (suc (suc (suc category))) h = h

-- an exchanged value differs from the exchanged anchor's exactly where the value differs from the anchor's
off_anchor_exchanged : (b : Bool) (anchor : List ℕ) (sample value : ℕ)
    → off_anchor (exchange_all b anchor) sample (exchange_if b value) ≡ off_anchor anchor sample value
off_anchor_exchanged b anchor sample value =
    ap not (ap (eqb (exchange_if b value)) (exchange_all_at b anchor sample) ∙ exchange_eqb b value (get_or anchor sample 1))

-- over the flipped anchor the flipped track fits as the track did
pub fits_flip : (N : ℕ) (lent member : Bool) (anchor : List ℕ) (t : Track) → Fits N anchor t → Fits N (exchange_all lent anchor) (flip_track lent member t)
fits_flip N lent member anchor (plain categories) f = (exchange_all_length member categories ∙ f.0, exchange_all_below member categories f.1)
fits_flip N lent member anchor (one_bit c bits es) f = (
  length-map bits (just_one (member && (pair c).turns)) ∙ f.0,
  rising_revalued N (off_pair c) (off_pair (image_if member c)) member (λ sample value. ap not (in_pair_image member c value)) 0 es f.1,
)
fits_flip N lent member anchor (leaning inverted es) f =
    rising_revalued N (off_anchor anchor) (off_anchor (exchange_all lent anchor)) lent (off_anchor_exchanged lent anchor) 0 es f
fits_flip N lent member anchor (sparse category es) f = (
  category_exchanged member category f.0,
  rising_revalued N (off_category category) (off_category (exchange_if member category)) member
      (λ sample value. ap not (exchange_eqb member value category)) 0 es f.1,
)

-- ---- the row that it stands for

-- exchanged entries over an exchanged row
pub apply_exchanged : (b : Bool) (es : List Entry) (row : List ℕ) → apply (revalue b es) (exchange_all b row) ≡ exchange_all b (apply es row)
apply_exchanged b [] row = refl
apply_exchanged b (e ∷ es) row =
    ap (apply (revalue b es)) (sym (exchange_all_set b row e.sample e.value)) ∙ apply_exchanged b es (set row e.sample e.value)

-- the anchor's membership, once in the kind and once in the anchor, is undone
lent_undone : (lent member inverted : Bool) → just_one (just_one (just_one lent member) inverted) lent ≡ just_one member inverted
lent_undone lent member inverted =
    just_one_order (just_one (just_one lent member) inverted) lent
    ∙ ap (just_one lent) (sym (just_one_joined lent member inverted))
    ∙ just_one_out lent (just_one member inverted)

-- over the flipped anchor the flipped track stands for the same row, exchanged exactly if it is in the set
pub categories_flip : (N : ℕ) (lent member : Bool) (anchor : List ℕ) (t : Track)
    → track_categories N (exchange_all lent anchor) (flip_track lent member t) ≡ exchange_all member (track_categories N anchor t)
categories_flip N lent member anchor (plain categories) = refl
categories_flip N lent member anchor (one_bit c bits es) =
    ap (apply (revalue member es)) (categories_of_image member c bits) ∙ apply_exchanged member es (map (category_of c) bits)
categories_flip N lent member anchor (leaning inverted es) =
    ap (exchange_all (just_one (just_one lent member) inverted)) (apply_exchanged lent es anchor)
    ∙ exchange_all_twice (just_one (just_one lent member) inverted) lent (apply es anchor)
    ∙ ap (λ (b : Bool). exchange_all b (apply es anchor)) (lent_undone lent member inverted)
    ∙ sym (exchange_all_twice member inverted (apply es anchor))
categories_flip N lent member anchor (sparse category es) =
    ap (apply (revalue member es)) (exchange_all_replicate member N category) ∙ apply_exchanged member es (replicate N category)

-- ---- one flip after another

-- values exchanged twice
pub revalue_twice : (a b : Bool) (es : List Entry) → revalue a (revalue b es) ≡ revalue (just_one a b) es
revalue_twice a b [] = refl
revalue_twice a b (e ∷ es) =
    ap₂ (λ (value : ℕ) (rest : List Entry). record { sample = e.sample; value = value } ∷ rest) (exchange_if_twice a b e.value) (revalue_twice a b es)

-- values not exchanged
pub revalue_none : (es : List Entry) → revalue false es ≡ es
revalue_none [] = refl
revalue_none (e ∷ es) = ap (◌∷◌ e) (revalue_none es)

-- two flips are one, by the variants that are in just one of the two sets
pub flip_track_twice : (a o a' o' : Bool) (t : Track) → flip_track a o (flip_track a' o' t) ≡ flip_track (just_one a a') (just_one o o') t
flip_track_twice a o a' o' (plain categories) = ap plain (exchange_all_twice o o' categories)
flip_track_twice a o a' o' (one_bit c bits es) = simp (image_if_twice, bits_turned_twice, turns_twice, revalue_twice)
flip_track_twice a o a' o' (leaning inverted es) =
    ap₂ leaning
    (just_one_joined (just_one a o) (just_one a' o') inverted ∙ ap (λ (b : Bool). just_one b inverted) (just_one_pairs a o a' o'))
    (revalue_twice a a' es)
flip_track_twice a o a' o' (sparse category es) = ap₂ sparse (exchange_if_twice o o' category) (revalue_twice o o' es)

-- no flip leaves a track
pub flip_track_none : (t : Track) → flip_track false false t ≡ t
flip_track_none (plain categories) = ap plain (exchange_all_none categories)
flip_track_none (one_bit c bits es) = ap₂ (one_bit c) (bits_not_turned bits) (revalue_none es)
flip_track_none (leaning inverted es) = ap (leaning inverted) (revalue_none es)
flip_track_none (sparse category es) = ap (sparse category) (revalue_none es)

-- the same of bodies
pub flip_body_twice : (a o a' o' : Bool) (body : Body) → flip_body a o (flip_body a' o' body) ≡ flip_body (just_one a a') (just_one o o') body
flip_body_twice a o a' o' body =
    ap₂ (λ (t : Track) (p : Phases). record { main = t; phases = p }) (flip_track_twice a o a' o' body.main) (flip_phases_twice o o' body.phases)

-- and no flip leaves a body
pub flip_body_none : (body : Body) → flip_body false false body ≡ body
flip_body_none body = ap₂ (λ (t : Track) (p : Phases). record { main = t; phases = p }) (flip_track_none body.main) (flip_phases_none body.phases)

-- a body that fits still fits once it is flipped, over its anchor flipped as its own membership says
pub body_fits_flip : (N : ℕ) (lent member : Bool) (anchor : List ℕ) (body : Body) → BodyFits N anchor body
    → BodyFits N (exchange_all lent anchor) (flip_body lent member body)
body_fits_flip N lent member anchor body f = (
  fits_flip N lent member anchor body.main f.0,
  subst (λ (H : ℕ). PhasesObey H (flip_phases member body.phases))
      (sym (ap heterozygous_count (categories_flip N lent member anchor body.main)
      ∙ heterozygous_exchange member (body_categories N anchor body)))
      (flip_phases_obey (track_heterozygous N anchor body.main) body.phases member f.1),
)

-- and reads with categories 0 and 2, and phases 1 and 2, exchanged if it is a member
pub reading_flip : (N : ℕ) (lent member : Bool) (anchor : List ℕ) (body : Body)
    → body_reading N (exchange_all lent anchor) (flip_body lent member body) ≡ exchange_reading member (body_reading N anchor body)
reading_flip N lent member anchor body =
    ap (λ (row : List ℕ). record { categories = row; phases = phases_over row (flip_phases member body.phases) })
    (categories_flip N lent member anchor body.main)
    ∙ ap (λ (phases : List ℕ). record { categories = exchange_all member (body_categories N anchor body); phases = phases })
    (phases_over_flip member (body_categories N anchor body) body.phases)

-- ---- what the next record leans on

-- a flipped track leans exactly if the track does
pub leans_flip : (lent member : Bool) (t : Track) → track_leans (flip_track lent member t) ≡ track_leans t
leans_flip lent member (plain categories) = refl
leans_flip lent member (one_bit c bits es) = refl
leans_flip lent member (leaning inverted es) = refl
leans_flip lent member (sparse category es) = refl

-- so the next one leans on the same
pub next_anchor_kept {ℓ} : {X : Type ℓ} (lent member : Bool) (body : Body) (x y : X)
    → next_anchor (body_leans (flip_body lent member body)) x y ≡ next_anchor (body_leans body) x y
next_anchor_kept lent member body x y = ap (λ (t : Bool). pick t x y) (leans_flip lent member body.main)

-- and that is flipped as its own membership says
pub next_anchor_flip : (N : ℕ) (lent member : Bool) (anchor : List ℕ) (body : Body)
    → next_anchor (body_leans (flip_body lent member body)) (exchange_all lent anchor)
    (body_categories N (exchange_all lent anchor) (flip_body lent member body))
    ≡ exchange_all (next_anchor (body_leans body) lent member) (next_anchor (body_leans body) anchor (body_categories N anchor body))
next_anchor_flip N lent member anchor body =
    next_anchor_kept lent member body (exchange_all lent anchor) _
    ∙ ap (next_anchor (body_leans body) (exchange_all lent anchor)) (categories_flip N lent member anchor body.main)
    ∙ by (body_leans body)
  where
    by : (t : Bool) → pick t (exchange_all lent anchor) (exchange_all member (body_categories N anchor body))
        ≡ exchange_all (pick t lent member) (pick t anchor (body_categories N anchor body))
    by true = refl
    by false = refl

-- what it leans on is in just one of two sets exactly as the sets say of it
pub next_anchor_just_one : (leaning a o a' o' : Bool)
    → just_one (next_anchor leaning a o) (next_anchor leaning a' o') ≡ next_anchor leaning (just_one a a') (just_one o o')
next_anchor_just_one true a o a' o' = refl
next_anchor_just_one false a o a' o' = refl
